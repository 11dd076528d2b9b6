use Rattle.std.proofs.Common.{subst, sym}
use Rattle.wasm_syntax.specs.Tree.{item_of}
use Rattle.operand_spill.specs.declared.flow.Flow.TheVariants.{Ends}
use Rattle.unwind_rewrite.specs.calls.Points.{Advances}
use Rattle.unwind_rewrite.proofs.NodeLaws.{before_end, before_else}
use Rattle.unwind_rewrite.proofs.instructions.write_live.Goals as goal

pub returns-in-Else : goal.returns-in-Else
returns-in-Else c =
    subst (λ x. Advances c.args.context.now c.args.passing c.args.op.at (item_of c.args.targets.now x) c.args.walk.now c.args.writer.now c.args.walk.now c.args.writer.now Ends) (sym c.in-Else.is) (before_else c.args.context.now c.args.passing c.args.op.at c.args.walk.now)

pub returns-in-End : goal.returns-in-End
returns-in-End c =
    subst (λ x. Advances c.args.context.now c.args.passing c.args.op.at (item_of c.args.targets.now x) c.args.walk.now c.args.writer.now c.args.walk.now c.args.writer.now Ends) (sym c.in-End.is) (before_end c.args.context.now c.args.passing c.args.op.at c.args.walk.now)
