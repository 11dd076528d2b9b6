use Rattle.std.proofs.Common.{◌≡◌, drop, map}
use Rattle.wasm_syntax.specs.Run.{element_fits}
use Rattle.rewrite_bodies.specs.Numbering.{all_true}
use Rattle.index_map.proofs.shown.elements_fit.Given as goal

abbrev pub invariant-loop-element : goal.invariant-loop-element
invariant-loop-element l = all_true (map (element_fits l.fn.parts) l.fn.parts.elements) ≡ all_true (map (element_fits l.fn.parts) (drop l.element-index l.fn.parts.elements))
