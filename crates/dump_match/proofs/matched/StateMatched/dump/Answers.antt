use Rattle.std.proofs.Common.{subst}
use Rattle.dump_match.specs.States.{MatchesState}
use Rattle.dump_match.proofs.matched.StateMatched.dump.Goals as goal

pub returns-clause-matches : goal.returns-clause-matches
returns-clause-matches c = subst (λ x. MatchesState x.module_ c.self.inside.dump.now) c.self.view_is c.self.invariant.matches
