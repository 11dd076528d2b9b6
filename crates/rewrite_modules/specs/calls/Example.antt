-- A small program: the exported function `div` divides its first argument by its second, as signed numbers.
use Rattle.std.specs.Prelude.{◌≡◌, ℕ, List, [], ◌∷◌, map, Some, None, false, true, codes}
use Rattle.int_ops.specs.declared.operators.Binary.TheVariants.{DivS}
use Rattle.wasm_syntax.specs.declared.value.ValType.TheVariants.{I32}
use Rattle.wasm_syntax.specs.declared.value.Value.TheVariants as values
use Rattle.wasm_syntax.specs.declared.instruction.Basic.TheVariants.{LocalGet, Binary}
use Rattle.wasm_syntax.specs.declared.instruction.Instr.{Instr}
use Rattle.wasm_syntax.specs.declared.instruction.Instr.TheVariants as instrs
use Rattle.wasm_syntax.specs.declared.instruction.Op.{Op}
use Rattle.wasm_syntax.specs.declared.parts.ExportKind.TheVariants as kinds
use Rattle.wasm_syntax.specs.Tree.{stop, basic}
use Rattle.wasm_syntax.specs.Module.{Program}
use Rattle.wasm_syntax.specs.declared.host.CollectorCall.{CollectorCall}
use Rattle.wasm_syntax.specs.declared.host.CollectorCall.TheVariants.{ValueI32, Frame}
use Rattle.wasm_syntax.specs.Run.{Outcome, finished, trapped, Ran, Invocation, run}
use Rattle.rewrite_modules.specs.calls.Instrument.{instrument}
use Rattle.rewrite_modules.specs.Multiple.{multiple}
use Rattle.rewrite_modules.specs.Weight.{weight}

abbrev op : ℕ → ℕ → Instr → Op
op at len code = record { at = at; len = len; code = code }

abbrev pub divider : Program
divider = record {
  module_ = record {
    types = record { params = I32 ∷ I32 ∷ []; results = I32 ∷ [] } ∷ [];
    imports = [];
    functions = 0 ∷ [];
    tables = [];
    memories = [];
    globals = [];
    exports = record { name = codes "div"; kind = kinds.Function; index = 0 } ∷ [];
    start = None;
    elements = [];
    segments = [];
    bodies = record {
      groups = [];
      ops = op 1 2 (instrs.Basic (LocalGet 0)) ∷ op 3 2 (instrs.Basic (LocalGet 1)) ∷ op 5 1 (instrs.Basic (Binary I32 DivS)) ∷ op 6 1 instrs.End ∷ [];
      targets = [];
      start = 2;
    } ∷ [];
    customs = [];
    plain_bytes = 41;
  };
  trees = record { nodes = basic 1 (LocalGet 0) (basic 3 (LocalGet 1) (basic 5 (Binary I32 DivS) stop)); end = 6 } ∷ [];
}

-- a call of `div`
abbrev pub divides : ℕ → ℕ → Invocation
divides a b = record { name = codes "div"; args = values.I32 a ∷ values.I32 b ∷ [] }

abbrev pub outcomes : List Ran → List Outcome
outcomes rs = map (λ r. r.outcome) rs

abbrev pub calls : List Ran → List (List CollectorCall)
calls rs = map (λ r. r.collected) rs

-- 7 by 0, and then 8 by 2
abbrev pub two_divisions : List Invocation
two_divisions = divides 7 0 ∷ divides 8 2 ∷ []

abbrev pub rewritten_runs : List Ran
rewritten_runs = run (instrument divider) true two_divisions [] 1002 1000

pub record HandsOver : Type 0 where
  pub original : outcomes (run divider false two_divisions [] 1000 100) ≡ trapped 2 ∷ finished (Some (values.I32 4)) ∷ []
  pub rewritten : outcomes rewritten_runs ≡ trapped 1 ∷ finished (Some (values.I32 4)) ∷ []
  -- the two operands, the two locals, kind 2 in function 0 at offset 5 with two locals, and no globals
  pub handed_over : calls rewritten_runs ≡ (ValueI32 7 ∷ ValueI32 0 ∷ ValueI32 7 ∷ ValueI32 0 ∷ Frame 2 0 5 2 ∷ Frame 255 0 0 0 ∷ []) ∷ [] ∷ []

-- 512 for the module, 208, 224, 232 and 216 for the instructions, 224 for the function, 160 for the export, and 8 for each of 41 bytes
abbrev pub Weighs : Type 0
Weighs = weight divider.module_ ((0 ∷ 1 ∷ 2 ∷ 1 ∷ []) ∷ []) ≡ 2104

-- 200, and 8 for each of two locals, of two operands at most, and of no globals
abbrev pub Multiplies : Type 0
Multiplies = multiple divider.module_ ((0 ∷ 1 ∷ 2 ∷ 1 ∷ []) ∷ []) ≡ 232
