-- What a validated module tells of its instructions: their heights, and which one begins at an offset.
use Rattle.std.specs.Prelude.{◌≡◌, ℕ, ◌+◌, List, length, slice_get, unwrap_or, Bool, true, false, Option, Some, None}
use Rattle.wasm_syntax.specs.declared.instruction.Instr.{Instr}
use Rattle.wasm_syntax.specs.declared.instruction.Instr.TheVariants as instr
use Rattle.wasm_syntax.specs.declared.instruction.Op.{Op}
use Rattle.wasm_syntax.specs.declared.module.ModuleParts.{ModuleParts as Module}
use Rattle.wasm_syntax.specs.declared.parts.Body.{Body}
use Rattle.wasm_syntax.specs.Valid.{body_of}
use Rattle.wasm_validate.specs.Heights.{HeightIs}

-- the height of each instruction of each function that the module defines, or 0 in dead code
pub record HeightsAre (heights : List (List ℕ)) (m : Module) : Type 0 where
  pub as_many : length heights ≡ length m.bodies
  -- as many as the function has instructions
  pub long : (i : ℕ) (ns : List ℕ) (body : Body) → slice_get heights i ≡ Some ns → slice_get m.bodies i ≡ Some body → length ns ≡ length body.ops
  pub each : (i op : ℕ) (ns : List ℕ) (h : ℕ) → slice_get heights i ≡ Some ns → slice_get ns op ≡ Some h →
      (o : Option ℕ) × HeightIs o m (length m.imports + i) op × (h ≡ unwrap_or o 0)

-- ---- the instruction at an offset

-- an instruction other than `else` and `end`
abbrev pub is_node : Instr → Bool
is_node (instr.Basic i) = true
is_node (instr.Jump j) = true
is_node (instr.Block t) = true
is_node (instr.Loop t) = true
is_node (instr.If t) = true
is_node instr.Else = false
is_node instr.End = false

-- no such instruction of the function begins at this offset, or that of this number
abbrev pub OpIs : Option ℕ → Module → ℕ → ℕ → Type 0
OpIs None m f at = (body : Body) (n : ℕ) (o : Op) → body_of m f ≡ Some body → slice_get body.ops n ≡ Some o → o.at ≡ at → is_node o.code ≡ true → ⊥
OpIs (Some n) m f at = (body : Body) × (o : Op) × (body_of m f ≡ Some body) × (slice_get body.ops n ≡ Some o) × (o.at ≡ at) × (is_node o.code ≡ true)
