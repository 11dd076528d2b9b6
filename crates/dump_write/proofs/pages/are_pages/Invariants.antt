use Rattle.std.proofs.Common.{take}
use Rattle.dump_write.proofs.LaidLists.{PagesUpTo}
use Rattle.dump_write.proofs.pages.are_pages.Given as goal

abbrev pub invariant-loop-segment : goal.invariant-loop-segment
invariant-loop-segment l = PagesUpTo l.next (take l.segment-index l.segments)
