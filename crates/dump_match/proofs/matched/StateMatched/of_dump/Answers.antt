use Rattle.dump_match.proofs.InState.{eases}
use Rattle.dump_match.proofs.matched.StateMatched.of_dump.Goals as goal

pub new-requires-clause-matches : goal.new-requires-clause-matches
new-requires-clause-matches c = λ row. eases c.matched.inside.«module».now c.matched.inside.dump.now row (c.matched.invariant.matches row)
