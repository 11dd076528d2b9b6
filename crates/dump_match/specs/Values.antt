-- Whether what a dump shows of values can be values of some types.
use Rattle.std.specs.Prelude.{Bool, true, false, ◌&&◌, List, [], ◌∷◌}
use Rattle.wasm_syntax.specs.declared.value.ValType.{ValType}
use Rattle.wasm_syntax.specs.declared.value.ValType.TheVariants.{I32, I64}
use Rattle.wasm_syntax.specs.declared.value.Seen.{Seen}
use Rattle.wasm_syntax.specs.declared.value.Seen.TheVariants as seens
use Rattle.wasm_syntax.specs.Numbers.{same_type}

-- a value of this type, or one that is missing
abbrev pub has_type : ValType → Seen → Bool
has_type t seens.Missing = true
has_type t (seens.I32 n) = same_type t I32
has_type t (seens.I64 n) = same_type t I64

-- as many, each of its type
abbrev pub have_types : List ValType → List Seen → Bool
have_types [] [] = true
have_types (t ∷ ts) (v ∷ vs) = has_type t v && have_types ts vs
have_types _ _ = false

-- of these types, or not recorded at all
abbrev pub can_be : List ValType → List Seen → Bool
can_be ts [] = true
can_be ts (v ∷ vs) = have_types ts (v ∷ vs)
