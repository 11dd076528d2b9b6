-- Listings of recorded values.
use Rattle.std.specs.Prelude.{ℕ, List, [], ◌∷◌, ◌++◌, replicate, codes}
use Rattle.std.specs.Fmt.{decimal}
use Rattle.wasm_syntax.specs.declared.value.Value.TheVariants as values
use Rattle.wasm_syntax.specs.declared.value.Seen.{Seen}
use Rattle.wasm_syntax.specs.declared.value.Seen.TheVariants as seens
use Rattle.commands.specs.Values.{value_text, numbered}

abbrev pub seen_text : Seen → List ℕ
seen_text (seens.I32 n) = value_text (values.I32 n)
seen_text (seens.I64 n) = value_text (values.I64 n)
seen_text seens.Missing = codes "<not recorded>"

unfoldable pub value_line : List ℕ → ℕ → Seen → List ℕ
value_line label n v = label ++ codes " " ++ decimal n ++ codes " " ++ seen_text v ++ codes "\n"

unfoldable pub none_text : List ℕ → List ℕ
none_text label = codes "no " ++ label ++ codes "s\n"

-- the lines of values with a label, or that there are none
unfoldable pub listing : List ℕ → List Seen → List ℕ
listing label [] = none_text label
listing label (v ∷ vs) = numbered (value_line label) 0 (v ∷ vs)

-- a list that is not recorded is one of so many values that are not
abbrev pub recorded_or : ℕ → List Seen → List Seen
recorded_or n [] = replicate n seens.Missing
recorded_or n (v ∷ vs) = v ∷ vs
