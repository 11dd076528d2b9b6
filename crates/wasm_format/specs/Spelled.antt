-- What the bytes of an instruction spell.
use Rattle.std.specs.Prelude.{ℕ, List, []}
use Rattle.wasm_syntax.specs.declared.instruction.Instr.{Instr}
use Rattle.wasm_format.specs.declared.code.Code.{Code}
use Rattle.wasm_format.specs.declared.code.Code.TheVariants.{Known, Float}

-- an instruction or one that has a float type, and the targets of a `br_table` without its default
pub record Spelled : Type 0 where
  pub code : Code
  pub targets : List ℕ

-- an instruction that is no `br_table`
abbrev pub alone : Instr → Spelled
alone i = record { code = Known i; targets = [] }

-- an instruction that has a float type, whose float byte is at that offset
abbrev pub float : ℕ → Spelled
float at = record { code = Float at; targets = [] }
