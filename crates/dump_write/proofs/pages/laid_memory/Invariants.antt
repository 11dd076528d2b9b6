use Rattle.std.proofs.Common.{◌≡◌, ◌*◌, take, length, replicate}
use Rattle.linear_memory.specs.Memory.{page_size}
use Rattle.dump_write.specs.Pages.{laid_on}
use Rattle.dump_write.proofs.pages.laid_memory.Given as goal

abbrev pub invariant-loop-segment : goal.invariant-loop-segment
invariant-loop-segment l = record {
  laid : l.memory.memory.bytes ≡ laid_on (replicate (page_size * l.pages) 0) (take l.segment-index l.segment-items);
  long : length l.memory.memory.bytes ≡ page_size * l.pages;
}
