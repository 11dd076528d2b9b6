-- The shortest spelling of an instruction (WebAssembly Core 1.0, 5.4).
use Rattle.std.specs.Prelude.{◌≡◌, ℕ, ◌+◌, ◌^◌, ◌<◌, ◌≤◌, List, [], ◌∷◌, ◌++◌, length, take, drop, Option, Some, None}
use Rattle.std.specs.List.{flat_map, AllByRecursion}
use Rattle.std.specs.Int.{w32, w64, cast_signed}
use Rattle.int_ops.specs.declared.operators.Unary.{Unary}
use Rattle.int_ops.specs.declared.operators.Unary.TheVariants.{Clz, Ctz, Popcnt}
use Rattle.int_ops.specs.declared.operators.Compare.{Compare as Comparison}
use Rattle.int_ops.specs.declared.operators.Compare.TheVariants.{Eq, Ne, LtS, LtU, GtS, GtU, LeS, LeU, GeS, GeU}
use Rattle.int_ops.specs.declared.operators.Binary.{Binary as Operation}
use Rattle.int_ops.specs.declared.operators.Binary.TheVariants.{Add, Sub, Mul, DivS, DivU, RemS, RemU, And, Or, Xor, Shl, ShrS, ShrU, Rotl, Rotr}
use Rattle.int_ops.specs.declared.operators.Narrow32.TheVariants as narrow32
use Rattle.int_ops.specs.declared.operators.Narrow64.TheVariants as narrow64
use Rattle.wasm_leb.specs.Writing.{unsigned_bytes, signed_bytes}
use Rattle.wasm_syntax.specs.declared.value.ValType.{ValType}
use Rattle.wasm_syntax.specs.declared.value.ValType.TheVariants.{I32, I64}
use Rattle.wasm_syntax.specs.declared.value.Value.{Value}
use Rattle.wasm_syntax.specs.declared.value.Value.TheVariants as value
use Rattle.wasm_syntax.specs.declared.instruction.Sign.TheVariants.{Signed, Unsigned}
use Rattle.wasm_syntax.specs.declared.instruction.Convert.{Convert as Conversion}
use Rattle.wasm_syntax.specs.declared.instruction.Convert.TheVariants.{Wrap, ExtendS, ExtendU}
use Rattle.wasm_syntax.specs.declared.instruction.Load.{Load as Loaded}
use Rattle.wasm_syntax.specs.declared.instruction.Load.TheVariants as loads
use Rattle.wasm_syntax.specs.declared.instruction.Store.{Store as Stored}
use Rattle.wasm_syntax.specs.declared.instruction.Store.TheVariants as stores
use Rattle.wasm_syntax.specs.declared.instruction.Basic.{Basic}
use Rattle.wasm_syntax.specs.declared.instruction.Basic.TheVariants as basics
use Rattle.wasm_syntax.specs.declared.instruction.Jump.{Jump}
use Rattle.wasm_syntax.specs.declared.instruction.Jump.TheVariants as jumps
use Rattle.wasm_syntax.specs.declared.instruction.Instr.{Instr}
use Rattle.wasm_syntax.specs.declared.instruction.Instr.TheVariants as instr
use Rattle.wasm_syntax.specs.Numbers.{IsValue}
use Rattle.wasm_format.specs.declared.code.Code.TheVariants.{Known}
use Rattle.wasm_format.specs.Spelled.{Spelled}

-- ---- opcodes

abbrev pub load_opcode : Loaded → ℕ
load_opcode (loads.Full I32) = 0x28
load_opcode (loads.Full I64) = 0x29
load_opcode (loads.Part32 narrow32.Eight Signed) = 0x2c
load_opcode (loads.Part32 narrow32.Eight Unsigned) = 0x2d
load_opcode (loads.Part32 narrow32.Sixteen Signed) = 0x2e
load_opcode (loads.Part32 narrow32.Sixteen Unsigned) = 0x2f
load_opcode (loads.Part64 narrow64.Eight Signed) = 0x30
load_opcode (loads.Part64 narrow64.Eight Unsigned) = 0x31
load_opcode (loads.Part64 narrow64.Sixteen Signed) = 0x32
load_opcode (loads.Part64 narrow64.Sixteen Unsigned) = 0x33
load_opcode (loads.Part64 narrow64.ThirtyTwo Signed) = 0x34
load_opcode (loads.Part64 narrow64.ThirtyTwo Unsigned) = 0x35

abbrev pub store_opcode : Stored → ℕ
store_opcode (stores.Full I32) = 0x36
store_opcode (stores.Full I64) = 0x37
store_opcode (stores.Part32 narrow32.Eight) = 0x3a
store_opcode (stores.Part32 narrow32.Sixteen) = 0x3b
store_opcode (stores.Part64 narrow64.Eight) = 0x3c
store_opcode (stores.Part64 narrow64.Sixteen) = 0x3d
store_opcode (stores.Part64 narrow64.ThirtyTwo) = 0x3e

-- the place of an operator among those of its kind
abbrev pub comparison_place : Comparison → ℕ
comparison_place Eq = 0
comparison_place Ne = 1
comparison_place LtS = 2
comparison_place LtU = 3
comparison_place GtS = 4
comparison_place GtU = 5
comparison_place LeS = 6
comparison_place LeU = 7
comparison_place GeS = 8
comparison_place GeU = 9

abbrev pub unary_place : Unary → ℕ
unary_place Clz = 0
unary_place Ctz = 1
unary_place Popcnt = 2

abbrev pub operation_place : Operation → ℕ
operation_place Add = 0
operation_place Sub = 1
operation_place Mul = 2
operation_place DivS = 3
operation_place DivU = 4
operation_place RemS = 5
operation_place RemU = 6
operation_place And = 7
operation_place Or = 8
operation_place Xor = 9
operation_place Shl = 10
operation_place ShrS = 11
operation_place ShrU = 12
operation_place Rotl = 13
operation_place Rotr = 14

-- the first for i32, the second for i64
abbrev pub by_type : {A : Type 0} → A → A → ValType → A
by_type x y I32 = x
by_type x y I64 = y

abbrev pub conversion_opcode : Conversion → ℕ
conversion_opcode Wrap = 0xa7
conversion_opcode ExtendS = 0xac
conversion_opcode ExtendU = 0xad

-- ---- instructions

abbrev pub two_numbers : ℕ → ℕ → List ℕ
two_numbers m n = unsigned_bytes m ++ unsigned_bytes n

abbrev pub constant_bytes : Value → List ℕ
constant_bytes (value.I32 n) = 0x41 ∷ signed_bytes (cast_signed w32 n)
constant_bytes (value.I64 n) = 0x42 ∷ signed_bytes (cast_signed w64 n)

abbrev pub basic_bytes : Basic → List ℕ
basic_bytes basics.Nop = 0x01 ∷ []
basic_bytes basics.Drop = 0x1a ∷ []
basic_bytes basics.Select = 0x1b ∷ []
basic_bytes (basics.LocalGet x) = 0x20 ∷ unsigned_bytes x
basic_bytes (basics.LocalSet x) = 0x21 ∷ unsigned_bytes x
basic_bytes (basics.LocalTee x) = 0x22 ∷ unsigned_bytes x
basic_bytes (basics.GlobalGet x) = 0x23 ∷ unsigned_bytes x
basic_bytes (basics.GlobalSet x) = 0x24 ∷ unsigned_bytes x
basic_bytes (basics.Load l align offset) = load_opcode l ∷ two_numbers align offset
basic_bytes (basics.Store s align offset) = store_opcode s ∷ two_numbers align offset
basic_bytes basics.MemorySize = 0x3f ∷ 0x00 ∷ []
basic_bytes basics.MemoryGrow = 0x40 ∷ 0x00 ∷ []
basic_bytes basics.MemoryCopy = 0xfc ∷ 10 ∷ 0x00 ∷ 0x00 ∷ []
basic_bytes basics.MemoryFill = 0xfc ∷ 11 ∷ 0x00 ∷ []
basic_bytes (basics.Const v) = constant_bytes v
basic_bytes (basics.Eqz t) = by_type 0x45 0x50 t ∷ []
basic_bytes (basics.Unary t op) = (by_type 0x67 0x79 t + unary_place op) ∷ []
basic_bytes (basics.Compare t op) = (by_type 0x46 0x51 t + comparison_place op) ∷ []
basic_bytes (basics.Binary t op) = (by_type 0x6a 0x7c t + operation_place op) ∷ []
basic_bytes (basics.Convert op) = conversion_opcode op ∷ []
basic_bytes (basics.Extend32 narrow32.Eight) = 0xc0 ∷ []
basic_bytes (basics.Extend32 narrow32.Sixteen) = 0xc1 ∷ []
basic_bytes (basics.Extend64 narrow64.Eight) = 0xc2 ∷ []
basic_bytes (basics.Extend64 narrow64.Sixteen) = 0xc3 ∷ []
basic_bytes (basics.Extend64 narrow64.ThirtyTwo) = 0xc4 ∷ []

-- the targets of a `br_table`, out of those of its body
abbrev pub targets_from : ℕ → ℕ → List ℕ → List ℕ
targets_from start count targets = take count (drop start targets)

-- a `br_table` with so many targets, and a default
abbrev pub labels_bytes : ℕ → List ℕ → ℕ → List ℕ
labels_bytes count targets default = 0x0e ∷ unsigned_bytes count ++ flat_map unsigned_bytes targets ++ unsigned_bytes default

-- a jump of a body with those targets
abbrev pub jump_bytes : List ℕ → Jump → List ℕ
jump_bytes targets jumps.Unreachable = 0x00 ∷ []
jump_bytes targets (jumps.Br l) = 0x0c ∷ unsigned_bytes l
jump_bytes targets (jumps.BrIf l) = 0x0d ∷ unsigned_bytes l
jump_bytes targets (jumps.BrTable start count default) = labels_bytes count (targets_from start count targets) default
jump_bytes targets jumps.Return = 0x0f ∷ []
jump_bytes targets (jumps.Call f) = 0x10 ∷ unsigned_bytes f
jump_bytes targets (jumps.CallIndirect t) = 0x11 ∷ unsigned_bytes t ++ 0x00 ∷ []

abbrev pub block_type_byte : Option ValType → ℕ
block_type_byte None = 0x40
block_type_byte (Some I32) = 0x7f
block_type_byte (Some I64) = 0x7e

-- an instruction of a body with those targets
unfoldable pub encoding : List ℕ → Instr → List ℕ
encoding targets (instr.Basic i) = basic_bytes i
encoding targets (instr.Jump j) = jump_bytes targets j
encoding targets (instr.Block t) = 0x02 ∷ block_type_byte t ∷ []
encoding targets (instr.Loop t) = 0x03 ∷ block_type_byte t ∷ []
encoding targets (instr.If t) = 0x04 ∷ block_type_byte t ∷ []
encoding targets instr.Else = 0x05 ∷ []
encoding targets instr.End = 0x0b ∷ []

-- A `br_table` lies inside the targets of its body.
abbrev pub JumpInside : List ℕ → Jump → Type 0
JumpInside targets (jumps.BrTable start count default) = start + count ≤ length targets
JumpInside targets _ = Unit {0}

abbrev pub IsInside : List ℕ → Instr → Type 0
IsInside targets (instr.Jump j) = JumpInside targets j
IsInside targets _ = Unit {0}

-- ---- what is written

-- The numbers in an instruction have their widths.
abbrev pub BasicFits : Basic → Type 0
BasicFits (basics.LocalGet x) = x < 2 ^ 32
BasicFits (basics.LocalSet x) = x < 2 ^ 32
BasicFits (basics.LocalTee x) = x < 2 ^ 32
BasicFits (basics.GlobalGet x) = x < 2 ^ 32
BasicFits (basics.GlobalSet x) = x < 2 ^ 32
BasicFits (basics.Load l align offset) = (align < 2 ^ 32) × (offset < 2 ^ 32)
BasicFits (basics.Store s align offset) = (align < 2 ^ 32) × (offset < 2 ^ 32)
BasicFits (basics.Const v) = IsValue v
BasicFits _ = Unit {0}

abbrev pub JumpFits : Jump → Type 0
JumpFits (jumps.Br l) = l < 2 ^ 32
JumpFits (jumps.BrIf l) = l < 2 ^ 32
JumpFits (jumps.BrTable start count default) = (count < 2 ^ 32) × (default < 2 ^ 32)
JumpFits (jumps.Call f) = f < 2 ^ 32
JumpFits (jumps.CallIndirect t) = t < 2 ^ 32
JumpFits _ = Unit {0}

abbrev pub NumbersFit : Instr → Type 0
NumbersFit (instr.Basic i) = BasicFits i
NumbersFit (instr.Jump j) = JumpFits j
NumbersFit _ = Unit {0}

-- the targets of an instruction
abbrev pub targets_of : List ℕ → Instr → List ℕ
targets_of targets (instr.Jump (jumps.BrTable start count default)) = targets_from start count targets
targets_of targets _ = []

abbrev pub AllWords : List ℕ → Type 0
AllWords labels = AllByRecursion (λ l. l < 2 ^ 32) labels

-- an instruction of a body with those targets
pub record IsCode (targets : List ℕ) (i : Instr) : Type 0 where
  pub numbers : NumbersFit i
  pub labels : AllWords (targets_of targets i)
  pub inside : IsInside targets i

-- The targets before those of a `br_table` are so many.
abbrev pub BeginsAt : ℕ → Instr → Type 0
BeginsAt base (instr.Jump (jumps.BrTable start count default)) = start ≡ base
BeginsAt base _ = Unit {0}

abbrev pub spelled_of : List ℕ → Instr → Spelled
spelled_of targets i = record { code = Known i; targets = targets_of targets i }
