use Rattle.std.proofs.Common.{sym, ◌∙◌}
use Rattle.machine_code.proofs.Targets.{found, absent}
use Rattle.machine_code.proofs.code.Code.target.Goals as goal

pub returns-in-Some : goal.returns-in-Some
returns-in-Some c = found c.args.self.now.body.now.targets c.args.start c.args.count c.args.default c.args.operand c.in-Some.label c.if-operand-count.true (sym c.get.ensures.value ∙ sym c.copied.ensures ∙ c.in-Some.is)

pub returns-in-None : goal.returns-in-None
returns-in-None c = absent c.args.self.now.body.now.targets c.args.start c.args.count c.args.default c.args.operand c.if-operand-count.true (sym c.get.ensures.value ∙ sym c.copied.ensures ∙ c.in-None.is)
