use Rattle.wasm_laws.proofs.Live.{one_static as one}
use Rattle.wasm_laws.proofs.laws.one_static.Goals as goal

pub returns : goal.returns
returns c = λ m type body o a b q h k. one m type body o a b q h k
