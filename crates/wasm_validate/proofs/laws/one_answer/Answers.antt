use Rattle.wasm_validate.proofs.Once.{one_answer}
use Rattle.wasm_validate.proofs.laws.one_answer.Goals as goal

pub returns : goal.returns
returns c = one_answer
