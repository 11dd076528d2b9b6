use Rattle.std.proofs.Common.{◌≡◌, take}
use Rattle.std.specs.Prelude.{filter}
use Rattle.dump_write.specs.Pages.{is_used}
use Rattle.dump_write.proofs.pages.used_segments.Given as goal

abbrev pub invariant-loop-segment : goal.invariant-loop-segment
invariant-loop-segment l = l.used ≡ filter is_used (take l.segment-index l.segments)
