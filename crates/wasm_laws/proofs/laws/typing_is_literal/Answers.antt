use Rattle.wasm_laws.proofs.LiteralTyping.{the_same}
use Rattle.wasm_laws.proofs.laws.typing_is_literal.Goals as goal

pub returns : goal.returns
returns c = λ x nodes before after. the_same x nodes before after
