use Rattle.std.proofs.Common.{◌≤◌, subst, sym, drop, suc, length, rules, arith}
use Rattle.wasm_syntax.specs.Tree.{code_of}
use Rattle.operand_spill.proofs.Shapes.{begins_read}
use Rattle.unwind_rewrite.specs.calls.Points.{AtOnce}
use Rattle.unwind_rewrite.proofs.PointLaws.{at_once_nothing}
use Rattle.unwind_rewrite.proofs.passing.at_once.Goals as goal

pub returns-then-index-ops : goal.returns-then-index-ops
returns-then-index-ops c = λ targets.
    subst (λ xs. AtOnce c.args.context.now xs c.taken_at_once.result) (sym (begins_read targets c.args.ops.now c.args.index _ (search rules))) (c.taken_at_once.ensures targets (drop (suc c.args.index) (code_of targets c.args.ops.now)))

pub returns-else-index-ops : goal.returns-else-index-ops
returns-else-index-ops c = λ targets. at_once_nothing c.args.context.now c.args.index targets c.args.ops.now (search rules)
