-- A module that the tests write.
use Rattle.std.specs.Prelude.{ℕ, [], ◌∷◌, None, codes}
use Rattle.int_ops.specs.declared.operators.Binary.TheVariants.{DivS}
use Rattle.wasm_syntax.specs.declared.value.ValType.TheVariants.{I32}
use Rattle.wasm_syntax.specs.declared.instruction.Basic.TheVariants as basics
use Rattle.wasm_syntax.specs.declared.instruction.Instr.{Instr}
use Rattle.wasm_syntax.specs.declared.instruction.Instr.TheVariants as instr
use Rattle.wasm_syntax.specs.declared.instruction.Op.{Op}
use Rattle.wasm_syntax.specs.declared.parts.Body.{Body}
use Rattle.wasm_syntax.specs.declared.parts.Export.{Export}
use Rattle.wasm_syntax.specs.declared.parts.FuncType.{FuncType}
use Rattle.wasm_syntax.specs.declared.parts.ExportKind.TheVariants as kinds
use Rattle.wasm_syntax.specs.declared.module.ModuleParts.{ModuleParts}

-- an instruction at an offset
abbrev pub op : ℕ → Instr → Op
op at code = record { at = at; len = 1; code = code }

-- one parameter divided by the other
abbrev pub divides : Body
divides = record {
  groups = [];
  ops = op 1 (instr.Basic (basics.LocalGet 0)) ∷ op 3 (instr.Basic (basics.LocalGet 1)) ∷ op 5 (instr.Basic (basics.Binary I32 DivS)) ∷ op 6 instr.End ∷ [];
  targets = [];
  start = 0;
}

-- two parameters and a result
abbrev pub narrow : FuncType
narrow = record { params = I32 ∷ I32 ∷ []; results = I32 ∷ [] }

-- the first function under a name
abbrev pub exported : Export
exported = record { name = codes "div"; kind = kinds.Function; index = 0 }

-- a function that divides
abbrev pub division : ModuleParts
division = record {
  types = narrow ∷ [];
  imports = [];
  functions = 0 ∷ [];
  tables = [];
  memories = [];
  globals = [];
  exports = exported ∷ [];
  start = None;
  elements = [];
  segments = [];
  bodies = divides ∷ [];
  customs = [];
  plain_bytes = 0;
}
