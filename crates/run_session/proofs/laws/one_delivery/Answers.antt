use Rattle.run_session.proofs.Deliveries.{one}
use Rattle.run_session.proofs.laws.one_delivery.Goals as goal

pub returns : goal.returns
returns c = one
