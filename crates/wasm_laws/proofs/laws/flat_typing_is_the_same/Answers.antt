use Rattle.wasm_laws.proofs.FlatBodies.{body_steps, steps_body}
use Rattle.wasm_laws.proofs.laws.flat_typing_is_the_same.Goals as goal

pub returns : goal.returns
returns c = λ m type body result code g. (λ h. body_steps m type body result code g h, λ h. steps_body m type body result code g h)
