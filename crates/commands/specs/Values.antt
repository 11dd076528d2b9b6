-- How values are printed.
use Rattle.std.specs.Prelude.{ℕ, List, ◌++◌, codes}
use Rattle.std.specs.Fmt.{signed_decimal}
use Rattle.std.specs.Int.{w32, w64, cast_signed}
use Rattle.wasm_syntax.specs.declared.value.Value.{Value}
use Rattle.wasm_syntax.specs.declared.value.Value.TheVariants as value
use Rattle.std.specs.List.{enumerate_from, flat_map}

-- a value, signed
abbrev pub value_text : Value → List ℕ
value_text (value.I32 n) = codes "i32:" ++ signed_decimal (cast_signed w32 n)
value_text (value.I64 n) = codes "i64:" ++ signed_decimal (cast_signed w64 n)

-- a line for each, numbered from this number on
abbrev pub numbered : {A : Type 0} → (ℕ → A → List ℕ) → ℕ → List A → List ℕ
numbered line n xs = flat_map (λ x. line x.0 x.1) (enumerate_from n xs)
