use Rattle.std.proofs.Common.{◌≤◌, length, rules}
use Rattle.unwind_rewrite.proofs.PointLaws.{passes_first, passes_nothing}
use Rattle.unwind_rewrite.proofs.passing.passes.Goals as goal

pub returns-then-index-ops : goal.returns-then-index-ops
returns-then-index-ops c = λ targets. passes_first c.args.context.now targets c.args.ops.now c.args.index _ c.passes_to.result (search rules) (c.passes_to.ensures targets)

pub returns-else-index-ops : goal.returns-else-index-ops
returns-else-index-ops c = λ targets. passes_nothing c.args.context.now c.args.index targets c.args.ops.now (search rules)
