use Rattle.wasm_laws.proofs.FlatOne.{to_flat, to_tree}
use Rattle.wasm_laws.proofs.laws.flat_static_is_the_same.Goals as goal

pub returns : goal.returns
returns c = λ m type body result i op ts g q b e n. (λ h. to_flat m type body result g q b i op e ts h, λ h. to_tree m type body result g q b i op e ts n h)
