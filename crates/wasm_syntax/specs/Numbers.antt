-- Values (Core 4.2.1), and the operations of Core 4.3 at their types.
use Rattle.std.specs.Prelude.{ℕ, ◌<◌, ◌^◌, Bool, true, false, if◌then◌else◌, Option, Some, None, Result, List, map}
use Rattle.wasm_syntax.specs.declared.value.ValType.{ValType}
use Rattle.wasm_syntax.specs.declared.value.ValType.TheVariants.{I32, I64}
use Rattle.wasm_syntax.specs.declared.value.Value.{Value}
use Rattle.wasm_syntax.specs.declared.value.Value.TheVariants as values
use Rattle.wasm_syntax.specs.declared.value.Seen.{Seen}
use Rattle.wasm_syntax.specs.declared.value.Seen.TheVariants as seen
use Rattle.int_ops.specs.declared.operators.Unary.{Unary}
use Rattle.int_ops.specs.declared.operators.Compare.{Compare}
use Rattle.int_ops.specs.declared.operators.Binary.{Binary}
use Rattle.int_ops.specs.declared.operators.ArithTrap.{ArithTrap}
use Rattle.wasm_syntax.specs.declared.instruction.Convert.{Convert}
use Rattle.wasm_syntax.specs.declared.instruction.Convert.TheVariants.{Wrap, ExtendS, ExtendU}
use Rattle.int_ops.specs.Integers as integers

abbrev pub bits : ValType → ℕ
bits I32 = 32
bits I64 = 64

abbrev pub same_type : ValType → ValType → Bool
same_type I32 I32 = true
same_type I32 I64 = false
same_type I64 I32 = false
same_type I64 I64 = true

abbrev pub type_of : Value → ValType
type_of (values.I32 n) = I32
type_of (values.I64 n) = I64

abbrev pub types : List Value → List ValType
types vs = map type_of vs

-- the value of a type with this number
abbrev pub value : ValType → ℕ → Value
value I32 n = values.I32 n
value I64 n = values.I64 n

-- the number of a value of this type
abbrev pub number : ValType → Value → Option ℕ
number I32 (values.I32 n) = Some n
number I64 (values.I64 n) = Some n
number _ _ = None

-- the value's number is one of its type
abbrev pub IsValue : Value → Type 0
IsValue (values.I32 n) = n < 2 ^ 32
IsValue (values.I64 n) = n < 2 ^ 64

-- a value that is recorded, as a dump shows it
abbrev pub seen_of : Value → Seen
seen_of (values.I32 n) = seen.I32 n
seen_of (values.I64 n) = seen.I64 n

-- ---- operations at a type

abbrev pub modulo : ValType → ℕ → ℕ
modulo t n = integers.modulo (bits t) n

abbrev pub unary : ValType → Unary → ℕ → ℕ
unary t op a = integers.unary (bits t) op a

abbrev pub compare : ValType → Compare → ℕ → ℕ → Bool
compare t op a b = integers.compare (bits t) op a b

abbrev pub binary : ValType → Binary → ℕ → ℕ → Result ℕ ArithTrap
binary t op a b = integers.binary (bits t) op a b

-- a conversion: where from, where to, and the number
abbrev pub convert_from : Convert → ValType
convert_from Wrap = I64
convert_from ExtendS = I32
convert_from ExtendU = I32

abbrev pub convert_to : Convert → ValType
convert_to Wrap = I32
convert_to ExtendS = I64
convert_to ExtendU = I64

abbrev pub convert : Convert → ℕ → ℕ
convert Wrap a = integers.wrap a
convert ExtendS a = integers.extend_s a
convert ExtendU a = integers.extend_u (modulo I32 a)

-- a test's i32 (Core 4.3.2, "bool")
abbrev pub bool_number : Bool → ℕ
bool_number b = if b then 1 else 0
