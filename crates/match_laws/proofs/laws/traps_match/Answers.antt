use Rattle.match_laws.proofs.TrapRuns.{traps_match}
use Rattle.match_laws.proofs.laws.traps_match.Goals as goal

pub returns : goal.returns
returns c = λ p collecting is replies d n w e v limits. traps_match p w e v limits collecting is replies d n
