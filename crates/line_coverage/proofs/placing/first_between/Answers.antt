use Rattle.line_coverage.proofs.HeldLaws.{first_is, none_is}
use Rattle.line_coverage.proofs.placing.first_between.Goals as goal

pub returns-in-Some-clause-some : goal.returns-in-Some-clause-some
returns-in-Some-clause-some c = first_is c.args.visits.now c.args.from c.args.to c.range.result (c.in-Some.address.now, c.in-Some.steps.now) c.next.new.self (c.range.ensures.between tt) (c.range.ensures.in_range tt) c.in-Some.ensures.steps

pub returns-in-None-clause-none : goal.returns-in-None-clause-none
returns-in-None-clause-none c = none_is c.args.visits.now c.args.from c.args.to c.range.result (c.range.ensures.between tt) c.in-None.ensures.steps.0
