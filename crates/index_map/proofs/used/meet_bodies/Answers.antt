use Rattle.std.proofs.Common.{◌-◌, ◌<◌, length, arith}
use Rattle.wasm_syntax.specs.declared.parts.Body.{Body}
use Rattle.index_map.specs.inner.Used.{ops_used}
use Rattle.index_map.proofs.Below.{item_below}
use Rattle.index_map.proofs.used.meet_bodies.Goals as goal

pub meet_code-requires : goal.meet_code-requires
meet_code-requires c =
    let lt : c.loop-i.i - 1 < length c.args.bodies.now = omega (arith, c.loop-i-test.true, c.loop-i.invariant.within) in
    rw (c.loop-i.auto.places, c.as_slice.ensures) (item_below (length c.args.places.now) (λ (b : Body). ops_used b.ops) c.args.bodies.now (c.loop-i.i - 1) c.index-bodies-i.result lt c.requires)
