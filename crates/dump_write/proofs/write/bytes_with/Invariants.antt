use Rattle.std.proofs.Common.{◌≡◌, ◌++◌, take}
use Rattle.std.specs.List.{flat_map}
use Rattle.dump_write.specs.Spelled.{segment_bytes}
use Rattle.dump_write.proofs.write.bytes_with.Given as goal

abbrev pub invariant-loop-segment : goal.invariant-loop-segment
invariant-loop-segment l = l.out.items ≡ l.initial.out.items ++ flat_map segment_bytes (take l.segment-index l.segment-items)
