use Rattle.std.proofs.Common.{◌<◌, sym, subst}
use Rattle.debug_tests.proofs.stack_tests.has_operands.Goals as goal

pub operand-requires-clause-below : goal.operand-requires-clause-below
operand-requires-clause-below c =
    let types = c.requires.height.0 in
    (types.0, types.1, subst (λ n. c.loop-i.i < n) (sym types.2) c.loop-i-test.true)
