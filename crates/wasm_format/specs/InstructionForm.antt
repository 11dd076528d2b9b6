-- The forms of immediates that stand behind opcodes (WebAssembly Core 1.0, 5.4; Core 2.0, 5.4, for `memory.copy`,
-- `memory.fill` and the table number of `call_indirect`).
use Rattle.std.specs.Prelude.{ℕ, ℤ, List, [], ◌∷◌, length, Option, Some, None, Bool, ◌||◌, ◌==◌, if◌then◌else◌}
use Rattle.std.specs.Int.{w32, w64, cast_unsigned}
use Rattle.wasm_syntax.specs.declared.value.ValType.{ValType}
use Rattle.wasm_syntax.specs.declared.value.ValType.TheVariants.{I32, I64}
use Rattle.wasm_syntax.specs.declared.value.Value.TheVariants as value
use Rattle.wasm_syntax.specs.declared.instruction.Basic.{Basic}
use Rattle.wasm_syntax.specs.declared.instruction.Basic.TheVariants.{Const, MemoryCopy, MemoryFill}
use Rattle.wasm_syntax.specs.declared.instruction.Jump.TheVariants.{BrTable, CallIndirect}
use Rattle.wasm_syntax.specs.declared.instruction.Instr.{Instr}
use Rattle.wasm_syntax.specs.declared.instruction.Instr.TheVariants as instr
use Rattle.wasm_format.specs.declared.code.Code.TheVariants.{Known}
use Rattle.wasm_format.specs.Spelled.{Spelled, alone, float}

pub data Form : Type 0 where
  -- no immediates
  bare : Instr → Form
  -- an index or a label
  indexed : (ℕ → Instr) → Form
  -- the exponent of an alignment, and an offset in bytes
  access : (ℕ → ℕ → Instr) → Form
  -- a block type
  typed : (Option ValType → Instr) → Form
  -- a vector of labels, and a default label
  labels : Form
  -- the index of a type, and the number of a table, which is 0
  indirect : Form
  -- a zero byte
  reserved : Instr → Form
  -- a signed number of 32 bits, and one of 64 bits
  constant_i32 : Form
  constant_i64 : Form
  -- a number that says which instruction it is, and zero bytes
  bulk : Form
  -- the same of instructions that have a float type: no immediates, an access, and a constant of so many bytes
  float_bare : Form
  float_access : Form
  float_constant : ℕ → Form

-- ---- the instructions that immediates make

abbrev pub const_i32 : ℤ → Spelled
const_i32 z = alone (instr.Basic (Const (value.I32 (cast_unsigned w32 z))))

abbrev pub const_i64 : ℤ → Spelled
const_i64 z = alone (instr.Basic (Const (value.I64 (cast_unsigned w64 z))))

-- a `br_table`, whose first target is the one at that place in the list of its body
abbrev pub br_table : ℕ → List ℕ × ℕ → Spelled
br_table base x = record { code = Known (instr.Jump (BrTable base (length x.0) x.1)); targets = x.0 }

-- the number of the one table that a module has
abbrev pub is_zero : ℕ → Bool
is_zero n = n == 0

abbrev pub call_indirect : ℕ × ℕ → Spelled
call_indirect x = alone (instr.Jump (CallIndirect x.0))

-- the byte of a block type: none, or a value type
abbrev pub is_block_type : ℕ → Bool
is_block_type b = b == 0x40 || (b == 0x7f || (b == 0x7e || (b == 0x7d || b == 0x7c)))

-- what opens a block of that type, whose byte is at that offset
abbrev pub block : (Option ValType → Instr) → ℕ → ℕ → Spelled
block to at b =
    if b == 0x40 then alone (to None)
    else (if b == 0x7f then alone (to (Some I32))
    else (if b == 0x7e then alone (to (Some I64))
    else float at))

-- the number behind FC: 10 is `memory.copy`, with a zero byte for each of the two memories, and 11 is `memory.fill`
abbrev pub is_bulk : ℕ → Bool
is_bulk n = n == 10 || n == 11

abbrev pub bulk_of : ℕ → Basic
bulk_of n = if n == 10 then MemoryCopy else MemoryFill

abbrev pub bulk_zeros : ℕ → List ℕ
bulk_zeros n = if n == 10 then 0x00 ∷ 0x00 ∷ [] else 0x00 ∷ []
