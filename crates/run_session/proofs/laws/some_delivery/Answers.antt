use Rattle.run_session.proofs.Deliveries.{delivery}
use Rattle.run_session.proofs.laws.some_delivery.Goals as goal

pub returns : goal.returns
returns c = (λ calls. (delivery calls).0, λ calls. (delivery calls).1)
