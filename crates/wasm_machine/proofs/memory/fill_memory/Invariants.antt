use Rattle.std.proofs.Common.{◌≡◌, drop, length}
use Rattle.std.specs.Prelude.{fold}
use Rattle.wasm_syntax.specs.calls.Starting.{put_data}
use Rattle.wasm_machine.proofs.memory.fill_memory.Given as goal

abbrev pub invariant-loop-segment : goal.invariant-loop-segment
invariant-loop-segment l = record {
  size : length l.memory.memory.bytes ≡ length l.initial.memory.memory.bytes;
  so_far : fold (put_data l.fn.m) l.memory.memory (drop l.segment-index l.segments) ≡ fold (put_data l.fn.m) l.initial.memory.memory l.segments;
}
