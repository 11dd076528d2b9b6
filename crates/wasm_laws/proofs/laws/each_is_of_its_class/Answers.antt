use Rattle.wasm_syntax.proofs.Classes.{acts_as_class, arrow_is}
use Rattle.wasm_laws.proofs.laws.each_is_of_its_class.Goals as goal

pub returns-clause-does : goal.returns-clause-does
returns-clause-does c = λ i w locals operands. acts_as_class w locals i operands

pub returns-clause-types : goal.returns-clause-types
returns-clause-types c = λ context any i. arrow_is context any i
