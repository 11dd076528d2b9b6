use Rattle.wasm_laws.proofs.Live.{one_left as one}
use Rattle.wasm_laws.proofs.laws.one_left.Goals as goal

pub returns : goal.returns
returns c = λ m type body o a b q h k. one m type body o a b q h k
