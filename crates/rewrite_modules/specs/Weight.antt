-- The weight of a module, by which the bytes of its rewriting are bounded.
use Rattle.std.specs.Prelude.{◌≡◌, ℕ, suc, ◌+◌, ◌*◌, List, [], ◌∷◌, length, flat_map, slice_get, unwrap_or, if◌then◌else◌, Option, Some, None}
use Rattle.wasm_syntax.specs.declared.value.ValType.{ValType}
use Rattle.wasm_syntax.specs.declared.instruction.Instr.{Instr}
use Rattle.wasm_syntax.specs.declared.instruction.Instr.TheVariants as instrs
use Rattle.wasm_syntax.specs.declared.instruction.Jump.TheVariants as jumps
use Rattle.wasm_syntax.specs.declared.instruction.Op.{Op}
use Rattle.wasm_syntax.specs.declared.parts.Body.{Body}
use Rattle.wasm_syntax.specs.declared.parts.Export.{Export}
use Rattle.wasm_syntax.specs.declared.parts.FuncType.{FuncType}
use Rattle.wasm_syntax.specs.declared.module.ModuleParts.{ModuleParts as Module}
use Rattle.wasm_syntax.specs.Module.{type_at, is_function}
use Rattle.wasm_syntax.specs.Run.{table_min}
use Rattle.wasm_syntax.specs.Sizes.{local_count}
use Rattle.wasm_syntax.specs.Tree.{code_of}
use Rattle.wasm_syntax.specs.FlatTyping.{IsLive, TypesBefore}
use Rattle.rewrite_bodies.specs.Numbering.{entry_weight, extra, distinct}

-- ---- operand heights: a number for each instruction of each function that the module defines

abbrev pub height_at : List (List ℕ) → ℕ → ℕ → ℕ
height_at heights i op = unwrap_or (slice_get (unwrap_or (slice_get heights i) []) op) 0

-- the number of operands before each live instruction, and 0 in dead code; `else` and `end` count
pub record AreHeights (m : Module) (heights : List (List ℕ)) : Type 0 where
  pub live : (i op : ℕ) (type : FuncType) (body : Body) (types : List ValType) → slice_get m.bodies i ≡ Some body → type_at m (length m.imports + i) ≡ Some type → TypesBefore m type body op types → height_at heights i op ≡ length types
  pub dead : (i op : ℕ) (body : Body) → slice_get m.bodies i ≡ Some body → (IsLive (code_of body.targets body.ops) op → ⊥) → height_at heights i op ≡ 0

-- ---- the weight

-- of an instruction with its encoded length, at this height; `else` and `end` count
abbrev pub op_weight : Op → ℕ → ℕ
op_weight o height = 192 + 8 * o.len + 16 * height + extra o.code

abbrev pub ops_weight : (ℕ → ℕ) → ℕ → List Op → ℕ
ops_weight height j [] = 0
ops_weight height j (o ∷ os) = op_weight o (height j) + ops_weight height (suc j) os

abbrev pub bodies_weight : Module → List (List ℕ) → ℕ → List Body → ℕ
bodies_weight m heights i [] = 0
bodies_weight m heights i (b ∷ bs) =
    192 + 16 * local_count (type_at m (length m.imports + i)) b + ops_weight (height_at heights i) 0 b.ops + bodies_weight m heights (suc i) bs

-- the types that a `call_indirect` uses, also one in dead code
abbrev pub type_used : Instr → List ℕ
type_used (instrs.Jump (jumps.CallIndirect t)) = t ∷ []
type_used i = []

abbrev pub types_used : Module → List ℕ
types_used m = distinct (flat_map (λ b. flat_map (λ o. type_used o.code) b.ops) m.bodies)

-- of the functions that are called from outside by their names; the wrappers of a table that a host sees weigh nothing more, since only those
-- are written that fit into the bytes that the rest leaves
abbrev pub exports_weight : Module → List Export → ℕ
exports_weight m [] = 0
exports_weight m (e ∷ es) = (if is_function e.kind then entry_weight m e.index else 0) + exports_weight m es

abbrev pub start_weight : Module → Option ℕ → ℕ
start_weight m None = 0
start_weight m (Some f) = entry_weight m f

abbrev pub weight : Module → List (List ℕ) → ℕ
weight m heights =
    512 + 8 * m.plain_bytes + bodies_weight m heights 0 m.bodies + length (types_used m) * (128 + 5 * table_min m.tables) + exports_weight m m.exports + start_weight m m.start
