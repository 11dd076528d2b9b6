use Rattle.wasm_format_laws.proofs.Whole.{spelled}
use Rattle.wasm_format_laws.proofs.sizes.spelled_is_sized.Goals as goal

pub returns : goal.returns
returns c = λ bytes m h. spelled bytes m h
