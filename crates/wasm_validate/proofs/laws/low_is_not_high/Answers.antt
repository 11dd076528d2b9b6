use Rattle.wasm_validate.proofs.Once.{low_not_high}
use Rattle.wasm_validate.proofs.laws.low_is_not_high.Goals as goal

pub returns : goal.returns
returns c = low_not_high
