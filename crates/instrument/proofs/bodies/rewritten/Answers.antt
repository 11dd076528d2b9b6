use Rattle.unwind_rewrite.specs.calls.Rewritten.{program_in}
use Rattle.instrument.proofs.bodies.rewritten.Goals as goal

pub rewrite_body-requires-clause-plan : goal.rewrite_body-requires-clause-plan
rewrite_body-requires-clause-plan c = λ a body tree type at.
    c.in_ok-plan.ensures (program_in c.args.numbers.now a) body tree type a.premises.whole.write c.requires.numbers at
