use Rattle.std.proofs.Common.{arith}
use Rattle.wasm_syntax.specs.declared.parts.LocalGroup.{LocalGroup}
use Rattle.wasm_syntax.specs.declared.value.ValType.TheVariants.{I32}
use Rattle.wasm_syntax.proofs.Counts.{sum_fits}
use Rattle.wasm_syntax.proofs.sizes.sum_of.Goals as goal

pub overflow_add-sum : goal.overflow_add-sum
overflow_add-sum c =
    let none : LocalGroup = record { count = 0; vtype = I32 } in
    omega (arith, sum_fits c.args.groups.now c.loop-group.group-index c.loop-group.sum none c.loop-group-test.true c.loop-group.invariant, c.from-sum.ensures, c.requires)
