use Rattle.rewrite_bodies.proofs.LengthsNodes.{bodies_short}
use Rattle.rewrite_bodies.proofs.laws.rewritten_bodies_are_short.Goals as goal

pub returns : goal.returns
returns c = bodies_short
