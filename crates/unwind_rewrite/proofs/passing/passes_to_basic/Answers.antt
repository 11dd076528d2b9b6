use Rattle.unwind_rewrite.proofs.PointLaws.{to_guarded, to_taker, over_pushing}
use Rattle.unwind_rewrite.proofs.passing.passes_to_basic.Goals as goal

pub returns-then-needs : goal.returns-then-needs
returns-then-needs c = λ targets rest dues e. to_guarded c.args.context.now c.args.offset c.args.instruction rest c.needs.ensures c.if-needs.true

pub returns-then-takes-eq0 : goal.returns-then-takes-eq0
returns-then-takes-eq0 c = λ targets rest dues e. over_pushing c.args.context.now c.args.offset c.args.instruction rest c.at_once.result c.needs.ensures c.if-needs.false c.takes.ensures c.if-takes-eq0.true (c.at_once.ensures targets rest dues e)

pub returns-else-takes-eq0 : goal.returns-else-takes-eq0
returns-else-takes-eq0 c = λ targets rest dues e. to_taker c.args.context.now c.args.offset c.args.instruction rest c.needs.ensures c.if-needs.false c.takes.ensures c.if-takes-eq0.false
