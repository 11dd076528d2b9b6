use Rattle.std.proofs.Common.{subst}
use Rattle.wasm_bytes.specs.calls.Answers.{Gives}
use Rattle.wasm_decode.proofs.Vectors.{bodies_same}
use Rattle.wasm_decode.proofs.bodies.bodies.Goals as goal

pub returns-clause-item : goal.returns-clause-item
returns-clause-item c = subst (Gives c.entries.result c.entries.new.input) (bodies_same c.args.due c.args.input.now) c.entries.ensures.item
