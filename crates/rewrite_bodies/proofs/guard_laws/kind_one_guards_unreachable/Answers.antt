use Rattle.rewrite_bodies.proofs.Verdicts.{unreachable_means}
use Rattle.rewrite_bodies.proofs.guard_laws.kind_one_guards_unreachable.Goals as goal

pub returns : goal.returns
returns c = λ C. unreachable_means C
