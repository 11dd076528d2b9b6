use Rattle.std.proofs.Common.{◌-◌, ◌<◌, length, arith}
use Rattle.rewrite_modules.specs.Weight.{type_used}
use Rattle.index_map.proofs.Below.{item_below}
use Rattle.index_map.proofs.used.meet_code.Goals as goal

pub meet_instr-requires : goal.meet_instr-requires
meet_instr-requires c =
    let lt : c.loop-i.i - 1 < length c.args.ops.now = omega (arith, c.loop-i-test.true, c.loop-i.invariant.within) in
    rw c.loop-i.auto.places (item_below (length c.args.places.now) (λ o. type_used o.code) c.args.ops.now (c.loop-i.i - 1) _ lt c.requires)
