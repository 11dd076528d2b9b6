use Rattle.wasm_laws.proofs.Unique.{one_tree as unique}
use Rattle.wasm_laws.proofs.laws.one_tree.Goals as goal

pub returns : goal.returns
returns c = λ code a b wa wb. unique code a b wa wb
