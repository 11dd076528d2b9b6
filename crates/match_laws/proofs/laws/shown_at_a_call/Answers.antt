use Rattle.match_laws.proofs.LeftLaws.{shown_left}
use Rattle.match_laws.proofs.laws.shown_at_a_call.Goals as goal

pub returns : goal.returns
returns c = λ m type body o s b live e. shown_left m type body o s b live e
