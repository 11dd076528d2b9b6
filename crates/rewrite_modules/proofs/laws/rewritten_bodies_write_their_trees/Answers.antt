use Rattle.rewrite_modules.proofs.Theorem.{startable_given}
use Rattle.rewrite_modules.proofs.WrittenOut.{instrument_bare}
use Rattle.rewrite_modules.proofs.laws.rewritten_bodies_write_their_trees.Goals as goal

pub returns : goal.returns
returns c = λ p g. instrument_bare p g.program (startable_given p g).typed
