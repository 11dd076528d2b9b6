use Rattle.std.proofs.Common.{◌≡◌, ◌-◌, ◌≤◌, vec_len}
use Rattle.std.specs.Prelude.{IfSome}
use Rattle.pm_outside.proofs.Fronts.{IsFront}
use Rattle.pm_outside.proofs.whole.read_file.Given as goal

abbrev pub invariant-pieces : goal.invariant-pieces
invariant-pieces g l = record {
  same : g.F.Files.told l.files ≡ g.F.Files.told l.fn.files;
  later : g.F.Files.faults l.fn.files ≤ g.F.Files.faults l.files;
  names : g.F.Files.created l.files ≡ g.F.Files.created l.fn.files;
  front : IfSome (g.F.Files.told l.fn.files) (λ held. IsFront l.bytes.items (held l.name));
  within : vec_len l.bytes ≤ l.limit;
}

abbrev pub decreases-pieces : goal.decreases-pieces
decreases-pieces g l = l.limit - vec_len l.bytes
