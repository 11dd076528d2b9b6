use Rattle.wasm_format_laws.proofs.Whole.{decoded}
use Rattle.wasm_format_laws.proofs.sizes.decoded_is_sized.Goals as goal

pub returns : goal.returns
returns c = λ bytes m fits e. decoded bytes m fits e
