use Rattle.rewrite_tests.proofs.plan_tests.first_plan.Goals as goal

pub plan-requires : goal.plan-requires
plan-requires c = (c.in-Some.ensures.0, c.in-Some.ensures.2)
