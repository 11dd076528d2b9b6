use Rattle.std.proofs.Common.{suc, sym, subst}
use Rattle.wasm_syntax.specs.Tree.{item_of, jump_of}
use Rattle.operand_spill.specs.inner.Knowing.{Proceeds, Starts}
use Rattle.operand_spill.proofs.Knowing.{jump_flows, know_basic, else_over, end_over, pass_else, pass_end}
use Rattle.operand_spill.proofs.places.pass.Goals as goal

pub returns-in-Jump : goal.returns-in-Jump
returns-in-Jump c = λ C targets items whole pc at l s k b.
    jump_flows C items whole c.jump.result pc c.args.walk.now _ at (jump_of targets c.in-Jump.code) (subst (λ x. Starts items pc at (item_of targets x)) c.in-Jump.is b) k (c.jump.ensures C targets s)

pub returns-in_ok-basic-in-Basic : goal.returns-in_ok-basic-in-Basic
returns-in_ok-basic-in-Basic c = λ C targets items whole pc at l s k b.
    subst (λ w. Proceeds C items whole (suc pc) w) (sym (c.in_ok-basic-in-Basic.ensures C l s)) (know_basic C items whole pc c.args.walk.now at c.in-Basic.code (subst (λ x. Starts items pc at (item_of targets x)) c.in-Basic.is b) k)

pub returns-in_ok-open_block-in-Block : goal.returns-in_ok-open_block-in-Block
returns-in_ok-open_block-in-Block c = λ C targets items whole pc at l s k b.
    c.in_ok-open_block-in-Block.ensures C items whole pc at k (subst (λ x. Starts items pc at (item_of targets x)) c.in-Block.is b)

pub returns-in_ok-open_loop-in-Loop : goal.returns-in_ok-open_loop-in-Loop
returns-in_ok-open_loop-in-Loop c = λ C targets items whole pc at l s k b.
    c.in_ok-open_loop-in-Loop.ensures C items whole pc at k (subst (λ x. Starts items pc at (item_of targets x)) c.in-Loop.is b)

pub returns-in_ok-open_if-in-If : goal.returns-in_ok-open_if-in-If
returns-in_ok-open_if-in-If c = λ C targets items whole pc at l s k b.
    c.in_ok-open_if-in-If.ensures C items whole pc at k (subst (λ x. Starts items pc at (item_of targets x)) c.in-If.is b)

pub returns-in_ok-alternate-in-Else : goal.returns-in_ok-alternate-in-Else
returns-in_ok-alternate-in-Else c = λ C targets items whole pc at l s k b.
    let here = subst (λ x. Starts items pc at (item_of targets x)) c.in-Else.is b in
    subst (λ w. Proceeds C items whole (suc pc) w) (sym c.in_ok-alternate-in-Else.ensures) (pass_else C items whole pc c.args.walk.now at here (else_over C items whole pc c.args.walk.now at here k))

pub returns-in_ok-close-in-End : goal.returns-in_ok-close-in-End
returns-in_ok-close-in-End c = λ C targets items whole pc at l s k b.
    let here = subst (λ x. Starts items pc at (item_of targets x)) c.in-End.is b in
    subst (λ w. Proceeds C items whole (suc pc) w) (sym c.in_ok-close-in-End.ensures) (pass_end C items whole pc c.args.walk.now at here (end_over C items whole pc c.args.walk.now at here k))
