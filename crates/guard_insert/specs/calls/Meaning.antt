-- What was written means something, whatever code goes on behind it.
use Rattle.wasm_syntax.specs.Tree.{Nodes}
use Rattle.rewrite_code.specs.calls.Writing.{Written, Emits}

-- A piece of code of which this holds was written.
abbrev pub Writes : ((Nodes → Nodes) → Type 0) → Written → Written → Type 0
Writes Means old new = (piece : Nodes → Nodes) × Emits piece old new × Means piece
