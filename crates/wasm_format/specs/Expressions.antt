-- Reading expressions (Core 5.4.6) and the bodies of functions (5.5.13). An expression ends with the `end` that is its own.
use Rattle.std.specs.Prelude.{ℕ, ◌-◌, List, [], ◌∷◌, ◌++◌, length, get_or, slice_get, Option, Some, None, Ok, Bool, true, false, ◌==◌, if◌then◌else◌}
use Rattle.wasm_syntax.specs.declared.instruction.Basic.TheVariants.{Nop}
use Rattle.wasm_syntax.specs.declared.instruction.Instr.{Instr}
use Rattle.wasm_syntax.specs.declared.instruction.Instr.TheVariants as instr
use Rattle.wasm_syntax.specs.declared.instruction.Op.{Op}
use Rattle.wasm_syntax.specs.declared.blocks.BlockKind.{BlockKind}
use Rattle.wasm_syntax.specs.declared.blocks.BlockKind.TheVariants.{Plain, Loop, Then}
use Rattle.wasm_syntax.specs.declared.parts.Body.{Body}
use Rattle.wasm_syntax.specs.declared.parts.LocalGroup.{LocalGroup}
use Rattle.wasm_bytes.specs.Place.{Place, Read}
use Rattle.wasm_bytes.specs.Reading.{◌>>=◌, ◌⊗◌, ◌▷◌, mapped, checked, here_item, within, steps_until_done}
use Rattle.wasm_format.specs.declared.code.Code.{Code}
use Rattle.wasm_format.specs.declared.code.Code.TheVariants.{Known, Float}
use Rattle.wasm_format.specs.Spelled.{Spelled}
use Rattle.wasm_format.specs.Reading.{instruction_item}
use Rattle.wasm_bytes.specs.declared.noted.Noted.{Noted}
use Rattle.wasm_format.specs.declared.expression.Expression.{Expression}
use Rattle.wasm_format.specs.declared.expression.Locals.{Locals}
use Rattle.wasm_format.specs.Form.{locals_item}
use Rattle.std.specs.Option.{option_or}

-- ---- instructions, with their opcodes

-- an item, and its first byte
abbrev pub with_first : {A : Type 0} → (Place → Read A) → Place → Read (ℕ × A)
with_first f p = f p >>= λ x. Ok ((get_or p.block p.at 0, x.0), x.1)

-- what stands in the place of an instruction that has a float type: one that opens the same, or nothing
abbrev pub stand_in : ℕ → Instr
stand_in opcode =
    if opcode == 0x02 then instr.Block None
    else (if opcode == 0x03 then instr.Loop None
    else (if opcode == 0x04 then instr.If None
    else instr.Basic Nop))

abbrev pub code_of : ℕ → Code → Instr
code_of opcode (Known i) = i
code_of opcode (Float at) = stand_in opcode

abbrev pub float_of : Code → Option ℕ
float_of (Known i) = None
float_of (Float at) = Some at

abbrev pub instr_of : ℕ × Spelled → Instr
instr_of x = code_of x.0 x.1.code

-- ---- blocks

-- The innermost block, which is the first one, is an `if` that has no `else` yet.
abbrev pub is_then : Option BlockKind → Bool
is_then (Some Then) = true
is_then _ = false

-- An `else` stands only in such an `if`.
abbrev pub may_stand : List BlockKind → Instr → Bool
may_stand blocks instr.Else = is_then (slice_get blocks 0)
may_stand blocks _ = true

-- the blocks that are open behind an instruction, the innermost first
abbrev pub open_behind : List BlockKind → Instr → List BlockKind
open_behind blocks (instr.Basic i) = blocks
open_behind blocks (instr.Jump j) = blocks
open_behind blocks (instr.Block t) = Plain ∷ blocks
open_behind blocks (instr.Loop t) = Loop ∷ blocks
open_behind blocks (instr.If t) = Then ∷ blocks
open_behind (b ∷ blocks) instr.Else = Plain ∷ blocks
open_behind (b ∷ blocks) instr.End = blocks
open_behind [] i = []

-- ---- expressions

abbrev pub no_code : ℕ → Expression
no_code origin = record { origin = origin; ops = []; targets = []; blocks = Plain ∷ []; float = None }

-- one more instruction, from one offset up to another
abbrev pub with_instr : Expression → ℕ × ((ℕ × Spelled) × ℕ) → Expression
with_instr e x =
    let i : Instr = instr_of x.1.0 in
    let op : Op = record { at = x.0 - e.origin; len = x.1.1 - x.0; code = i } in
    record {
      origin = e.origin;
      ops = e.ops ++ op ∷ [];
      targets = e.targets ++ x.1.0.1.targets;
      blocks = open_behind e.blocks i;
      float = option_or e.float (float_of x.1.0.1.code);
    }

unfoldable pub instr_step : Expression → Place → Read Expression
instr_step e = mapped (with_instr e) (here_item ⊗ checked (λ x. may_stand e.blocks (instr_of x)) (with_first (instruction_item (length e.targets))) ⊗ here_item)

-- No block is open behind the last `end`.
abbrev pub is_closed : Expression → Bool
is_closed e = length e.blocks == 0

-- an expression whose code offsets count from this offset
unfoldable pub expression_from : ℕ → Place → Read Expression
expression_from origin = steps_until_done is_closed instr_step (no_code origin)

abbrev pub code_body : List LocalGroup → ℕ → Expression → Body
code_body groups start e = record { groups = groups; ops = e.ops; targets = e.targets; start = start }

abbrev pub constant_body : Expression → Noted Body
constant_body e = record { value = code_body [] 0 e; float = e.float }

-- an expression that stands alone: its code offsets count from its first byte
unfoldable pub expression_item : Place → Read (Noted Body)
expression_item = mapped constant_body (here_item ▷ expression_from)

-- ---- bodies

abbrev pub function_body : ℕ → ℕ → Locals → Expression → Noted Body
function_body origin start locals e = record { value = code_body locals.groups (start - origin) e; float = option_or locals.float e.float }

-- the locals and the expression of a function, whose code offsets count from the locals
abbrev pub code_from : ℕ → ℕ → Place → Read (Noted Body)
code_from origin start = locals_item ▷ λ locals. mapped (function_body origin start locals) (expression_from start)

-- a code entry in a section whose contents begin at this offset
unfoldable pub code_item : ℕ → Place → Read (Noted Body)
code_item origin = within (here_item ▷ code_from origin)
