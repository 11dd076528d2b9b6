-- Operations on two values: None where one of them is not of this type.
use Rattle.std.specs.Prelude.{Option, option_map, Result, Ok, Err, ℕ}
use Rattle.wasm_syntax.specs.declared.value.ValType.{ValType}
use Rattle.wasm_syntax.specs.declared.value.Value.{Value}
use Rattle.wasm_syntax.specs.declared.value.Value.TheVariants as values
use Rattle.int_ops.specs.declared.operators.Compare.{Compare}
use Rattle.int_ops.specs.declared.operators.Binary.{Binary}
use Rattle.int_ops.specs.declared.operators.ArithTrap.{ArithTrap}
use Rattle.wasm_syntax.specs.Module.{option_then}
use Rattle.wasm_syntax.specs.Numbers.{number, value, bool_number, compare, binary}

abbrev pub compare_values : ValType → Compare → Value → Value → Option Value
compare_values t op a b =
    option_then (number t a) (λ m. option_map (λ n. values.I32 (bool_number (compare t op m n))) (number t b))

abbrev pub valued : ValType → Result ℕ ArithTrap → Result Value ArithTrap
valued t (Ok n) = Ok (value t n)
valued t (Err trap) = Err trap

abbrev pub binary_values : ValType → Binary → Value → Value → Option (Result Value ArithTrap)
binary_values t op a b = option_then (number t a) (λ m. option_map (λ n. valued t (binary t op m n)) (number t b))
