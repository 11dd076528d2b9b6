use Rattle.wasm_laws.proofs.FlatBodies.{begins_steps, steps_begins}
use Rattle.wasm_laws.proofs.laws.flat_steps_begin_bodies.Goals as goal

pub returns : goal.returns
returns c = λ m type body result code g. (λ h. begins_steps m type body result code g h, λ h. steps_begins m type body result code h.0 g h.1)
