use Rattle.std.proofs.Common.{◌≡◌, ◌++◌, ◌≤◌, take, Contains}
use Rattle.std.specs.Prelude.{is_some}
use Rattle.std.specs.List.{flat_map}
use Rattle.pm_outside.specs.Created.{with_name}
use Rattle.dump_write.specs.Spelled.{segment_bytes}
use Rattle.pm_outside.specs.Written.{OnTold, HasFile}
use Rattle.dump_write.proofs.write.write_pieces.Given as goal

abbrev pub invariant-loop-segment : goal.invariant-loop-segment
invariant-loop-segment g l = record {
  file : OnTold (HasFile l.name (l.head ++ flat_map segment_bytes (take l.segment-index l.segments))) (g.F.Files.told l.fn.files) (g.F.Files.told l.files);
  telling : is_some (g.F.Files.told l.files) ≡ is_some (g.F.Files.told l.fn.files);
  named : Contains (g.F.Files.created l.files) l.name;
  names : g.F.Files.created l.files ≡ with_name (g.F.Files.created l.fn.files) l.name;
  later : g.F.Files.faults l.fn.files ≤ g.F.Files.faults l.files;
}
