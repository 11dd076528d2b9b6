use Rattle.std.proofs.Common.{◌≡◌, drop, map}
use Rattle.wasm_syntax.specs.Run.{element_fits, first_false}
use Rattle.wasm_machine.proofs.bounds.element_out.Given as goal

abbrev pub invariant-loop-element : goal.invariant-loop-element
invariant-loop-element l = record {
  place : l.index ≡ l.element-index;
  so_far : first_false l.index (map (element_fits l.fn.m) (drop l.element-index l.elements)) ≡ first_false 0 (map (element_fits l.fn.m) l.elements);
}
