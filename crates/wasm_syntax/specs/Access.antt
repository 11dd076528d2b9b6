-- What loads and stores move (Core 2.4.4): the type, the bits, and the number that comes of them.
use Rattle.std.specs.Prelude.{ℕ}
use Rattle.wasm_syntax.specs.declared.value.ValType.{ValType}
use Rattle.wasm_syntax.specs.declared.value.ValType.TheVariants.{I32, I64}
use Rattle.wasm_syntax.specs.declared.instruction.Sign.{Sign}
use Rattle.wasm_syntax.specs.declared.instruction.Sign.TheVariants.{Signed, Unsigned}
use Rattle.wasm_syntax.specs.declared.instruction.Load.{Load}
use Rattle.wasm_syntax.specs.declared.instruction.Load.TheVariants as loads
use Rattle.wasm_syntax.specs.declared.instruction.Store.{Store}
use Rattle.wasm_syntax.specs.declared.instruction.Store.TheVariants as stores
use Rattle.int_ops.specs.Integers.{narrow32_bits, narrow64_bits, sign_extended}
use Rattle.wasm_syntax.specs.Numbers.{bits}

-- a number of k bits in n bits (Core 4.3.4, "extend")
abbrev pub widen : Sign → ℕ → ℕ → ℕ → ℕ
widen Unsigned k n v = v
widen Signed k n v = sign_extended k n v

abbrev pub load_type : Load → ValType
load_type (loads.Full t) = t
load_type (loads.Part32 k s) = I32
load_type (loads.Part64 k s) = I64

abbrev pub load_bits : Load → ℕ
load_bits (loads.Full t) = bits t
load_bits (loads.Part32 k s) = narrow32_bits k
load_bits (loads.Part64 k s) = narrow64_bits k

abbrev pub loaded : Load → ℕ → ℕ
loaded (loads.Full t) v = v
loaded (loads.Part32 k s) v = widen s (narrow32_bits k) 32 v
loaded (loads.Part64 k s) v = widen s (narrow64_bits k) 64 v

abbrev pub store_type : Store → ValType
store_type (stores.Full t) = t
store_type (stores.Part32 k) = I32
store_type (stores.Part64 k) = I64

abbrev pub store_bits : Store → ℕ
store_bits (stores.Full t) = bits t
store_bits (stores.Part32 k) = narrow32_bits k
store_bits (stores.Part64 k) = narrow64_bits k
