use Rattle.wasm_laws.proofs.Never.{never_stuck as never}
use Rattle.wasm_laws.proofs.Validity.{startable}
use Rattle.wasm_laws.proofs.laws.never_stuck.Goals as goal

pub returns : goal.returns
returns c = λ p collecting is replies d n w e v. never p (startable p w e v) collecting is replies d n
