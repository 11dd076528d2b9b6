use Rattle.match_laws.proofs.StateImages.{states_match}
use Rattle.match_laws.proofs.laws.states_match.Goals as goal

pub returns : goal.returns
returns c = λ p collecting is replies d n w e v limits. states_match p w e v limits collecting is replies d n
