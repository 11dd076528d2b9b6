use Rattle.wasm_validate.proofs.Once.{one_first_invalid}
use Rattle.wasm_validate.proofs.laws.one_first_invalid.Goals as goal

pub returns : goal.returns
returns c = one_first_invalid
