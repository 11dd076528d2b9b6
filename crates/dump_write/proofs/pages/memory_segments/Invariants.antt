use Rattle.linear_memory.specs.Memory.{pages}
use Rattle.dump_write.proofs.LaidLists.{Laying}
use Rattle.dump_write.proofs.pages.memory_segments.Given as goal

abbrev pub invariant-loop-index : goal.invariant-loop-index
invariant-loop-index l = Laying (pages l.memory.memory) l.index l.memory.memory.bytes l.segments
