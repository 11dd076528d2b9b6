-- What an expression sees of a frame: lists of values, and the memory. An empty list is not recorded.
use Rattle.std.specs.Prelude.{List, Option}
use Rattle.linear_memory.specs.Memory.{Memory}
use Rattle.wasm_syntax.specs.declared.value.Seen.{Seen}

pub record View : Type 0 where
  pub locals : List Seen
  -- the bottom operand first
  pub operands : List Seen
  pub globals : List Seen
  pub memory : Option Memory
