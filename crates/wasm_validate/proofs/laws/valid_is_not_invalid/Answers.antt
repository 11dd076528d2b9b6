use Rattle.wasm_validate.proofs.Once.{valid_not_invalid}
use Rattle.wasm_validate.proofs.laws.valid_is_not_invalid.Goals as goal

pub returns : goal.returns
returns c = valid_not_invalid
