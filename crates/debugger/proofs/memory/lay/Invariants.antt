use Rattle.std.proofs.Common.{◌≡◌, length, drop}
use Rattle.debugger.specs.Recorded.{laid_over}
use Rattle.debugger.proofs.memory.lay.Given as goal

abbrev pub invariant-loop-segment : goal.invariant-loop-segment
invariant-loop-segment l = record {
  so_far : laid_over l.memory.memory (drop l.segment-index l.segments) ≡ laid_over l.fn.memory.memory l.segments;
  same : length l.memory.memory.bytes ≡ length l.fn.memory.memory.bytes;
}
