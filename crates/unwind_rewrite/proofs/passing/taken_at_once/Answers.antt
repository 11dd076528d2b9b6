use Rattle.std.proofs.Common.{subst, sym, ◌∷◌}
use Rattle.wasm_syntax.specs.Tree.{placed, item_of}
use Rattle.unwind_rewrite.specs.calls.Points.{AtOnce}
use Rattle.unwind_rewrite.proofs.PointLaws.{at_once_basic, at_once_jump, at_once_block, at_once_loop, at_once_if, at_once_else, at_once_end}
use Rattle.unwind_rewrite.proofs.passing.taken_at_once.Goals as goal

pub returns-in-Basic : goal.returns-in-Basic
returns-in-Basic c = λ targets code.
    subst (λ k. AtOnce c.args.context.now (placed c.args.op.at (item_of targets k) ∷ code) c.basic_at_once.result) (sym c.in-Basic.is) (at_once_basic c.args.context.now c.args.op.at _ code c.basic_at_once.result c.basic_at_once.ensures)

pub returns-in-Jump : goal.returns-in-Jump
returns-in-Jump c = λ targets code.
    subst (λ k. AtOnce c.args.context.now (placed c.args.op.at (item_of targets k) ∷ code) 0) (sym c.in-Jump.is) (at_once_jump c.args.context.now c.args.op.at _ code)

pub returns-in-Block : goal.returns-in-Block
returns-in-Block c = λ targets code.
    subst (λ k. AtOnce c.args.context.now (placed c.args.op.at (item_of targets k) ∷ code) 0) (sym c.in-Block.is) (at_once_block c.args.context.now c.args.op.at _ code)

pub returns-in-Loop : goal.returns-in-Loop
returns-in-Loop c = λ targets code.
    subst (λ k. AtOnce c.args.context.now (placed c.args.op.at (item_of targets k) ∷ code) 0) (sym c.in-Loop.is) (at_once_loop c.args.context.now c.args.op.at _ code)

pub returns-in-If : goal.returns-in-If
returns-in-If c = λ targets code.
    subst (λ k. AtOnce c.args.context.now (placed c.args.op.at (item_of targets k) ∷ code) 0) (sym c.in-If.is) (at_once_if c.args.context.now c.args.op.at _ code)

pub returns-in-Else : goal.returns-in-Else
returns-in-Else c = λ targets code.
    subst (λ k. AtOnce c.args.context.now (placed c.args.op.at (item_of targets k) ∷ code) 0) (sym c.in-Else.is) (at_once_else c.args.context.now c.args.op.at code)

pub returns-in-End : goal.returns-in-End
returns-in-End c = λ targets code.
    subst (λ k. AtOnce c.args.context.now (placed c.args.op.at (item_of targets k) ∷ code) 0) (sym c.in-End.is) (at_once_end c.args.context.now c.args.op.at code)
