use Rattle.std.proofs.Common.{subst, sym, ◌∷◌, true, false, drop}
use Rattle.wasm_syntax.specs.Tree.{placed, item_of, code_of}
use Rattle.operand_spill.specs.calls.Standing.{Passes}
use Rattle.unwind_rewrite.proofs.PointLaws.{passes_basic, passes_jump, passes_block, passes_loop, passes_if, passes_else, passes_end}
use Rattle.unwind_rewrite.proofs.passing.passes_to.Goals as goal

pub returns-in-Basic : goal.returns-in-Basic
returns-in-Basic c = λ targets.
    subst (λ k. Passes c.args.context.now (placed c.args.op.at (item_of targets k) ∷ drop c.args.behind (code_of targets c.args.ops.now)) c.passes_to_basic.result) (sym c.in-Basic.is) (passes_basic c.args.context.now c.args.op.at _ (drop c.args.behind (code_of targets c.args.ops.now)) c.passes_to_basic.result (c.passes_to_basic.ensures targets))

pub returns-in-Jump : goal.returns-in-Jump
returns-in-Jump c = λ targets.
    subst (λ k. Passes c.args.context.now (placed c.args.op.at (item_of targets k) ∷ drop c.args.behind (code_of targets c.args.ops.now)) c.passes_to_jump.result) (sym c.in-Jump.is) (passes_jump c.args.context.now c.args.op.at _ (drop c.args.behind (code_of targets c.args.ops.now)) c.passes_to_jump.result (c.passes_to_jump.ensures c.args.context.now targets c.args.op.at))

pub returns-in-Block : goal.returns-in-Block
returns-in-Block c = λ targets.
    subst (λ k. Passes c.args.context.now (placed c.args.op.at (item_of targets k) ∷ drop c.args.behind (code_of targets c.args.ops.now)) false) (sym c.in-Block.is) (passes_block c.args.context.now c.args.op.at _ (drop c.args.behind (code_of targets c.args.ops.now)))

pub returns-in-Loop : goal.returns-in-Loop
returns-in-Loop c = λ targets.
    subst (λ k. Passes c.args.context.now (placed c.args.op.at (item_of targets k) ∷ drop c.args.behind (code_of targets c.args.ops.now)) false) (sym c.in-Loop.is) (passes_loop c.args.context.now c.args.op.at _ (drop c.args.behind (code_of targets c.args.ops.now)))

pub returns-in-If : goal.returns-in-If
returns-in-If c = λ targets.
    subst (λ k. Passes c.args.context.now (placed c.args.op.at (item_of targets k) ∷ drop c.args.behind (code_of targets c.args.ops.now)) true) (sym c.in-If.is) (passes_if c.args.context.now c.args.op.at _ (drop c.args.behind (code_of targets c.args.ops.now)))

pub returns-in-Else : goal.returns-in-Else
returns-in-Else c = λ targets.
    subst (λ k. Passes c.args.context.now (placed c.args.op.at (item_of targets k) ∷ drop c.args.behind (code_of targets c.args.ops.now)) true) (sym c.in-Else.is) (passes_else c.args.context.now c.args.op.at (drop c.args.behind (code_of targets c.args.ops.now)))

pub returns-in-End : goal.returns-in-End
returns-in-End c = λ targets.
    subst (λ k. Passes c.args.context.now (placed c.args.op.at (item_of targets k) ∷ drop c.args.behind (code_of targets c.args.ops.now)) true) (sym c.in-End.is) (passes_end c.args.context.now c.args.op.at (drop c.args.behind (code_of targets c.args.ops.now)))
