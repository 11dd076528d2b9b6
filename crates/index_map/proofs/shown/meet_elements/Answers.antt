use Rattle.std.proofs.Common.{◌-◌, ◌<◌, length, arith}
use Rattle.wasm_syntax.specs.declared.parts.ElementSeg.{ElementSeg}
use Rattle.index_map.proofs.Below.{item_below}
use Rattle.index_map.proofs.shown.meet_elements.Goals as goal

pub meet_functions-requires : goal.meet_functions-requires
meet_functions-requires c =
    let lt : c.loop-i.i - 1 < length c.args.elements.now = omega (arith, c.loop-i-test.true, c.loop-i.invariant.within) in
    rw (c.loop-i.auto.places, c.as_slice.ensures) (item_below (length c.args.places.now) (λ (e : ElementSeg). e.functions) c.args.elements.now (c.loop-i.i - 1) c.index-elements-i.result lt c.requires)
