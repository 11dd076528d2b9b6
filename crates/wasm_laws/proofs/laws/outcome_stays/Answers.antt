use Rattle.wasm_laws.proofs.Longer.{longer_run}
use Rattle.wasm_laws.proofs.laws.outcome_stays.Goals as goal

pub returns : goal.returns
returns c = λ p collecting is replies d n m le. longer_run p collecting is replies d n m le
