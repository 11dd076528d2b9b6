use Rattle.std.proofs.Common.{◌≡◌, ◌+◌, ◌*◌, ◌≤◌, length, take}
use Rattle.std.specs.List.{flat_map}
use Rattle.dump_write.specs.Spelled.{segment_bytes}
use Rattle.dump_write.proofs.segments.contents_size.Given as goal

abbrev pub invariant-loop-segment : goal.invariant-loop-segment
invariant-loop-segment l = record {
  counted : l.size ≡ length l.count.items + length (flat_map segment_bytes (take l.segment-index l.segments));
  bound : l.size ≤ 10 + 70000 * l.segment-index;
}
