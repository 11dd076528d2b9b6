use Rattle.rewrite_bodies.proofs.Verdicts.{kind_means}
use Rattle.rewrite_bodies.proofs.guard_laws.kinds_are_kinds.Goals as goal

pub returns : goal.returns
returns c = λ C i es trap room. kind_means C i es trap room
