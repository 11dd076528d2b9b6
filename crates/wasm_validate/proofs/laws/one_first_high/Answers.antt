use Rattle.wasm_validate.proofs.Once.{one_first_high}
use Rattle.wasm_validate.proofs.laws.one_first_high.Goals as goal

pub returns : goal.returns
returns c = one_first_high
