use Rattle.rewrite_bodies.proofs.Verdicts.{entry_means}
use Rattle.rewrite_bodies.proofs.guard_laws.helpers_guard_entries.Goals as goal

pub returns : goal.returns
returns c = λ C t f e height room. entry_means C t f e height room
