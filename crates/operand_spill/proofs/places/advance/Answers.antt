use Rattle.std.proofs.Common.{◌≡◌, suc, ◌+◌, subst, arith}
use Rattle.wasm_syntax.specs.Tree.{code_of}
use Rattle.operand_spill.specs.inner.Knowing.{Ended, Flowed, Proceeds}
use Rattle.operand_spill.proofs.Knowing.{knows_here, starts_at}
use Rattle.operand_spill.proofs.places.advance.Goals as goal

pub returns-in-Next-clause-stays : goal.returns-in-Next-clause-stays
returns-in-Next-clause-stays c = λ C targets whole l s p.
    let ops = c.args.ops.now in
    let pc = c.args.pc in
    let w = c.args.walk.now in
    let items = code_of targets ops in
    let one : suc pc ≡ pc + 1 = omega arith in
    let flowed = c.in_ok-flow.ensures C targets items whole pc c.read_op-op.result.at l s (knows_here C targets ops whole pc w c.requires p) (starts_at targets ops pc c.read_op-op.result c.read_op-op.ensures) in (
      λ k low high. absurd (omega (arith, low, high)),
      subst (λ n. Proceeds C items whole n c.pass.new.walk) one (subst (λ f. Flowed f C items whole (suc pc) c.pass.new.walk) c.in-Next.is flowed),
    )

pub returns-in-Ends-clause-stays : goal.returns-in-Ends-clause-stays
returns-in-Ends-clause-stays c = λ C targets whole l s p.
    let ops = c.args.ops.now in
    let pc = c.args.pc in
    let w = c.args.walk.now in
    let items = code_of targets ops in
    let one : suc pc ≡ pc + 1 = omega arith in
    let flowed = c.in_ok-flow.ensures C targets items whole pc c.read_op-op.result.at l s (knows_here C targets ops whole pc w c.requires p) (starts_at targets ops pc c.read_op-op.result c.read_op-op.ensures) in
    c.leave.ensures.stays C targets whole (subst (λ n. Ended C items whole n c.pass.new.walk) one (subst (λ f. Flowed f C items whole (suc pc) c.pass.new.walk) c.in-Ends.is flowed))
