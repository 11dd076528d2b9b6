-- The table of operators (DWARF 4 sections 2.5, 2.6 and 7.7.1; DWARF for WebAssembly, `DW_OP_WASM_location`): what stands
-- behind each opcode.
use Rattle.std.specs.Prelude.{ℕ, ◌+◌, ◌-◌, ◌*◌, List, [], ◌∷◌, ◌++◌, Option, Some, ◌&&◌, ◌==◌, nat_le, if◌then◌else◌}
use Rattle.int_ops.specs.declared.operators.Compare.TheVariants.{Eq, Ne, LtS, GtS, LeS, GeS}
use Rattle.int_ops.specs.declared.operators.Binary.TheVariants.{Add, Sub, Mul, DivS, RemU, And, Or, Xor, Shl, ShrS, ShrU}
use Rattle.int_ops.specs.Integers.{unsigned as word_of, narrowed}
use Rattle.dwarf_bytes.specs.Format.{Format, made, unread, unsigned, signed, number}
use Rattle.dwarf_expr.specs.declared.operators.Space.{Space}
use Rattle.dwarf_expr.specs.declared.operators.Space.TheVariants.{Local, Global, Operand}
use Rattle.dwarf_expr.specs.declared.operators.Operator.{Operator}
use Rattle.dwarf_expr.specs.declared.operators.Operator.TheVariants.{Constant, Dup, Drop, Over, Swap, Neg, Not, Arithmetic, Comparison, PlusUconst, Deref, Fbreg, Location, Piece, Nop, StackValue}
use Rattle.wasm_bytes.specs.Tables.{lookup, rows_from}

-- a constant of so many bytes, unsigned or signed
abbrev pub constant_u : ℕ → Format Operator
constant_u width = number width (λ n. made (Constant n))

abbrev pub constant_s : ℕ → Format Operator
constant_s width = number width (λ n. made (Constant (narrowed (8 * width) 64 n)))

-- an index in LEB128
abbrev pub indexed : Space → Format Operator
indexed space = unsigned (λ index. made (Location space index))

-- one of four bytes
abbrev pub wide_global : Format Operator
wide_global = number 4 (λ index. made (Location Global index))

-- by the kind
abbrev pub location_behind : ℕ → Format Operator
location_behind kind =
    if kind == 0 then indexed Local
    else (if kind == 1 then indexed Global
    else (if kind == 2 then indexed Operand
    else (if kind == 3 then wide_global
    else unread)))

-- opcodes, and what stands behind each
abbrev pub Rows : Type 0
Rows = List (ℕ × Format Operator)

-- 2.5.1.1 to 2.5.1.3
abbrev pub constants : Rows
constants =
    (0x03, constant_u 4) ∷ (0x06, made (Deref 4))
    ∷ rows_from 0x08 (constant_u 1 ∷ constant_s 1 ∷ constant_u 2 ∷ constant_s 2 ∷ constant_u 4 ∷ constant_s 4 ∷ constant_u 8 ∷ constant_s 8
    ∷ unsigned (λ n. made (Constant n)) ∷ signed (λ z. made (Constant (word_of 64 z))) ∷ made Dup ∷ made Drop ∷ made Over ∷ [])
    ++ (0x16, made Swap) ∷ []

-- 2.5.1.4 and 2.5.1.5
abbrev pub operations : Rows
operations =
    rows_from 0x1a (made (Arithmetic And) ∷ made (Arithmetic DivS) ∷ made (Arithmetic Sub) ∷ made (Arithmetic RemU) ∷ made (Arithmetic Mul)
    ∷ made Neg ∷ made Not ∷ made (Arithmetic Or) ∷ made (Arithmetic Add) ∷ unsigned (λ n. made (PlusUconst n))
    ∷ made (Arithmetic Shl) ∷ made (Arithmetic ShrU) ∷ made (Arithmetic ShrS) ∷ made (Arithmetic Xor) ∷ [])
    ++ rows_from 0x29 (made (Comparison Eq) ∷ made (Comparison GeS) ∷ made (Comparison GtS) ∷ made (Comparison LeS) ∷ made (Comparison LtS) ∷ made (Comparison Ne) ∷ [])

-- 2.5.1.2, 2.5.1.3, 2.5.1.6, 2.6.1 and the operator of WebAssembly
abbrev pub locations : Rows
locations =
    (0x91, signed (λ z. made (Fbreg z))) ∷ (0x93, unsigned (λ n. made (Piece n))) ∷ (0x94, number 1 (λ n. made (Deref n)))
    ∷ (0x96, made Nop) ∷ (0x9f, made StackValue) ∷ (0xed, number 1 location_behind) ∷ []

-- what stands behind an opcode, or that it is none of the operators
unfoldable pub behind : ℕ → Option (Format Operator)
behind opcode =
    if nat_le 0x30 opcode && nat_le opcode 0x4f then Some (made (Constant (opcode - 0x30)))
    else lookup opcode (constants ++ operations ++ locations)
