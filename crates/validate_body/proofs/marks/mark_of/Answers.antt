use Rattle.std.proofs.Common.{sym, ◌∙◌}
use Rattle.validate_body.proofs.MarksLaws.{mark_some, mark_none}
use Rattle.validate_body.proofs.marks.mark_of.Goals as goal

pub returns-in-Some : goal.returns-in-Some
returns-in-Some c = mark_some c.args.stack.now c.in-Some.height c.top.result (sym c.height.ensures ∙ c.in-Some.is) c.top.ensures

pub returns-in-None : goal.returns-in-None
returns-in-None c = mark_none c.args.stack.now (sym c.height.ensures ∙ c.in-None.is)
