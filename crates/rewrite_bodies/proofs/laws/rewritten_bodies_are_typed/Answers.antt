use Rattle.rewrite_bodies.proofs.TypedNodes.{body_ok}
use Rattle.rewrite_bodies.proofs.laws.rewritten_bodies_are_typed.Goals as goal

pub returns : goal.returns
returns c = λ C m locals nodes off room typed. body_ok C m locals off nodes room typed
