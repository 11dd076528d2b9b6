use Rattle.std.proofs.Common.{◌≡◌, drop, map}
use Rattle.wasm_syntax.specs.Run.{data_fits, first_false}
use Rattle.wasm_machine.proofs.bounds.data_out.Given as goal

abbrev pub invariant-loop-segment : goal.invariant-loop-segment
invariant-loop-segment l = record {
  place : l.index ≡ l.segment-index;
  so_far : first_false l.index (map (data_fits l.fn.m) (drop l.segment-index l.segments)) ≡ first_false 0 (map (data_fits l.fn.m) l.segments);
}
