-- The table of opcodes (WebAssembly Core 1.0, 5.4 and the index of instructions; Core 2.0 for C0 to C4 and FC).
use Rattle.std.specs.Prelude.{ℕ, ◌+◌, List, [], ◌∷◌, ◌++◌, map, replicate, Option, nat_le, if◌then◌else◌}
use Rattle.int_ops.specs.declared.operators.Unary.{Unary}
use Rattle.int_ops.specs.declared.operators.Unary.TheVariants.{Clz, Ctz, Popcnt}
use Rattle.int_ops.specs.declared.operators.Compare.{Compare as Comparison}
use Rattle.int_ops.specs.declared.operators.Compare.TheVariants.{Eq, Ne, LtS, LtU, GtS, GtU, LeS, LeU, GeS, GeU}
use Rattle.int_ops.specs.declared.operators.Binary.{Binary as Operation}
use Rattle.int_ops.specs.declared.operators.Binary.TheVariants.{Add, Sub, Mul, DivS, DivU, RemS, RemU, And, Or, Xor, Shl, ShrS, ShrU, Rotl, Rotr}
use Rattle.int_ops.specs.declared.operators.Narrow32.TheVariants as narrow32
use Rattle.int_ops.specs.declared.operators.Narrow64.TheVariants as narrow64
use Rattle.wasm_syntax.specs.declared.value.ValType.{ValType}
use Rattle.wasm_syntax.specs.declared.value.ValType.TheVariants.{I32, I64}
use Rattle.wasm_syntax.specs.declared.instruction.Sign.TheVariants.{Signed, Unsigned}
use Rattle.wasm_syntax.specs.declared.instruction.Convert.TheVariants.{Wrap, ExtendS, ExtendU}
use Rattle.wasm_syntax.specs.declared.instruction.Load.{Load}
use Rattle.wasm_syntax.specs.declared.instruction.Load.TheVariants as loads
use Rattle.wasm_syntax.specs.declared.instruction.Store.{Store}
use Rattle.wasm_syntax.specs.declared.instruction.Store.TheVariants as stores
use Rattle.wasm_syntax.specs.declared.instruction.Basic.{Basic}
use Rattle.wasm_syntax.specs.declared.instruction.Basic.TheVariants as basics
use Rattle.wasm_syntax.specs.declared.instruction.Jump.TheVariants as jumps
use Rattle.wasm_syntax.specs.declared.instruction.Instr.TheVariants as instr
use Rattle.wasm_format.specs.InstructionForm.{Form, bare, indexed, access, typed, labels, indirect, reserved, constant_i32, constant_i64, bulk, float_bare, float_access, float_constant}
use Rattle.wasm_bytes.specs.Tables.{lookup, rows_from}

-- rows of the table: an opcode, and the form of what it begins
abbrev pub Rows : Type 0
Rows = List (ℕ × Form)

-- ---- control instructions (5.4.1)

abbrev pub control : Rows
control =
    (0x00, bare (instr.Jump jumps.Unreachable)) ∷ (0x01, bare (instr.Basic basics.Nop)) ∷ (0x02, typed instr.Block) ∷ (0x03, typed instr.Loop)
    ∷ (0x04, typed instr.If) ∷ (0x05, bare instr.Else) ∷ (0x0b, bare instr.End) ∷ (0x0c, indexed (λ l. instr.Jump (jumps.Br l)))
    ∷ (0x0d, indexed (λ l. instr.Jump (jumps.BrIf l))) ∷ (0x0e, labels) ∷ (0x0f, bare (instr.Jump jumps.Return))
    ∷ (0x10, indexed (λ f. instr.Jump (jumps.Call f))) ∷ (0x11, indirect) ∷ []

-- ---- parametric and variable instructions (5.4.2, 5.4.3)

abbrev pub parametric : Rows
parametric = (0x1a, bare (instr.Basic basics.Drop)) ∷ (0x1b, bare (instr.Basic basics.Select)) ∷ []

abbrev pub indexed_basic : (ℕ → Basic) → Form
indexed_basic to = indexed (λ x. instr.Basic (to x))

abbrev pub variable : Rows
variable =
    (0x20, indexed_basic basics.LocalGet) ∷ (0x21, indexed_basic basics.LocalSet) ∷ (0x22, indexed_basic basics.LocalTee)
    ∷ (0x23, indexed_basic basics.GlobalGet) ∷ (0x24, indexed_basic basics.GlobalSet) ∷ []

-- ---- memory instructions (5.4.4)

abbrev pub load : Load → Form
load l = access (λ align offset. instr.Basic (basics.Load l align offset))

abbrev pub store : Store → Form
store s = access (λ align offset. instr.Basic (basics.Store s align offset))

abbrev pub load_rows : Rows
load_rows =
    (0x28, load (loads.Full I32)) ∷ (0x29, load (loads.Full I64)) ∷ (0x2a, float_access) ∷ (0x2b, float_access)
    ∷ (0x2c, load (loads.Part32 narrow32.Eight Signed)) ∷ (0x2d, load (loads.Part32 narrow32.Eight Unsigned))
    ∷ (0x2e, load (loads.Part32 narrow32.Sixteen Signed)) ∷ (0x2f, load (loads.Part32 narrow32.Sixteen Unsigned))
    ∷ (0x30, load (loads.Part64 narrow64.Eight Signed)) ∷ (0x31, load (loads.Part64 narrow64.Eight Unsigned))
    ∷ (0x32, load (loads.Part64 narrow64.Sixteen Signed)) ∷ (0x33, load (loads.Part64 narrow64.Sixteen Unsigned))
    ∷ (0x34, load (loads.Part64 narrow64.ThirtyTwo Signed)) ∷ (0x35, load (loads.Part64 narrow64.ThirtyTwo Unsigned)) ∷ []

abbrev pub store_rows : Rows
store_rows =
    (0x36, store (stores.Full I32)) ∷ (0x37, store (stores.Full I64)) ∷ (0x38, float_access) ∷ (0x39, float_access)
    ∷ (0x3a, store (stores.Part32 narrow32.Eight)) ∷ (0x3b, store (stores.Part32 narrow32.Sixteen))
    ∷ (0x3c, store (stores.Part64 narrow64.Eight)) ∷ (0x3d, store (stores.Part64 narrow64.Sixteen)) ∷ (0x3e, store (stores.Part64 narrow64.ThirtyTwo)) ∷ []

-- the sizes of memories (5.4.4), and constants (5.4.5)
abbrev pub sizes_and_constants : Rows
sizes_and_constants =
    (0x3f, reserved (instr.Basic basics.MemorySize)) ∷ (0x40, reserved (instr.Basic basics.MemoryGrow))
    ∷ (0x41, constant_i32) ∷ (0x42, constant_i64) ∷ (0x43, float_constant 4) ∷ (0x44, float_constant 8) ∷ []

-- ---- numeric instructions without immediates (5.4.5), in the order of their opcodes

abbrev pub comparisons : List Comparison
comparisons = Eq ∷ Ne ∷ LtS ∷ LtU ∷ GtS ∷ GtU ∷ LeS ∷ LeU ∷ GeS ∷ GeU ∷ []

abbrev pub unaries : List Unary
unaries = Clz ∷ Ctz ∷ Popcnt ∷ []

abbrev pub operations : List Operation
operations = Add ∷ Sub ∷ Mul ∷ DivS ∷ DivU ∷ RemS ∷ RemU ∷ And ∷ Or ∷ Xor ∷ Shl ∷ ShrS ∷ ShrU ∷ Rotl ∷ Rotr ∷ []

abbrev pub basic : Basic → Form
basic i = bare (instr.Basic i)

abbrev pub tests_of : ValType → List Form
tests_of t = basic (basics.Eqz t) ∷ map (λ op. basic (basics.Compare t op)) comparisons

abbrev pub operators_of : ValType → List Form
operators_of t = map (λ op. basic (basics.Unary t op)) unaries ++ map (λ op. basic (basics.Binary t op)) operations

abbrev pub floats : ℕ → List Form
floats n = replicate n float_bare

-- from 45 to C4
abbrev pub numeric_forms : List Form
numeric_forms =
    tests_of I32 ++ tests_of I64 ++ floats 12 ++ operators_of I32 ++ operators_of I64 ++ floats 28
    ++ basic (basics.Convert Wrap) ∷ floats 4 ++ basic (basics.Convert ExtendS) ∷ basic (basics.Convert ExtendU) ∷ floats 18
    ++ basic (basics.Extend32 narrow32.Eight) ∷ basic (basics.Extend32 narrow32.Sixteen)
    ∷ basic (basics.Extend64 narrow64.Eight) ∷ basic (basics.Extend64 narrow64.Sixteen) ∷ basic (basics.Extend64 narrow64.ThirtyTwo) ∷ []

unfoldable pub numeric : Rows
numeric = rows_from 0x45 numeric_forms

-- ---- the whole table

-- the rows among which an opcode stands, if anywhere
abbrev pub rows_near : ℕ → Rows
rows_near opcode =
    if nat_le opcode 0x11 then control
    else (if nat_le opcode 0x1b then parametric
    else (if nat_le opcode 0x24 then variable
    else (if nat_le opcode 0x35 then load_rows
    else (if nat_le opcode 0x3e then store_rows
    else (if nat_le opcode 0x44 then sizes_and_constants
    else (if nat_le opcode 0xc4 then numeric
    else (0xfc, bulk) ∷ []))))))

unfoldable pub form_of : ℕ → Option Form
form_of opcode = lookup opcode (rows_near opcode)
