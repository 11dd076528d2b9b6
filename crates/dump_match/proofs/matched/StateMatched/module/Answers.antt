use Rattle.std.proofs.Common.{subst}
use Rattle.dump_match.specs.States.{MatchesState}
use Rattle.dump_match.proofs.matched.StateMatched.module.Goals as goal

pub returns-clause-matches : goal.returns-clause-matches
returns-clause-matches c = subst (λ x. MatchesState c.self.inside.«module».now x.dump) c.self.view_is c.self.invariant.matches
