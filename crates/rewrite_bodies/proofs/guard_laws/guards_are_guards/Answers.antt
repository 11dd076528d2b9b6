use Rattle.rewrite_bodies.proofs.Verdicts.{guard_means}
use Rattle.rewrite_bodies.proofs.guard_laws.guards_are_guards.Goals as goal

pub returns : goal.returns
returns c = λ C i es trap room. guard_means C i es trap room
