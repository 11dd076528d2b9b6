use Rattle.match_laws.proofs.LeftLaws.{shown_static}
use Rattle.match_laws.proofs.laws.shown_elsewhere.Goals as goal

pub returns : goal.returns
returns c = λ m type body o s live e. shown_static m type body o s live e
