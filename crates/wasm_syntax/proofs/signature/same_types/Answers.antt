use Rattle.std.proofs.Common.{sym}
use Rattle.wasm_syntax.proofs.signature.same_types.Goals as goal
use Rattle.wasm_syntax.proofs.Types.{other_count}

pub returns-then-a-b : goal.returns-then-a-b
returns-then-a-b c = sym (other_count c.args.a.now c.args.b.now c.if-a-b.true)
