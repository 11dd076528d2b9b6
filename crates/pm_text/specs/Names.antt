-- How names are written in texts.
use Rattle.std.specs.Prelude.{ℕ, ◌||◌, List, [], ◌∷◌, ◌++◌, ◌==◌, nat_lt, nat_le, if◌then◌else◌, codes}
use Rattle.std.specs.List.{flat_map}
use Rattle.std.specs.Str.{is_utf8}
use Rattle.pm_text.specs.Hex.{hex_byte}
use Rattle.pm_text.specs.declared.names.Marks.{Marks}
use Rattle.pm_text.specs.declared.names.Marks.TheVariants.{Bare, Quotation}

-- a byte of a text: `\` has another one before it, and a control byte is `\` and two digits
abbrev pub plain_byte : ℕ → List ℕ
plain_byte b = if b == 92 then 92 ∷ 92 ∷ [] else (if nat_lt b 32 || b == 127 then 92 ∷ hex_byte b else b ∷ [])

-- the same, with `\` before `"` as well
abbrev pub quoted_byte : ℕ → List ℕ
quoted_byte b = if b == 34 then 92 ∷ 34 ∷ [] else plain_byte b

-- outside of texts a byte from 128 on is `\` and two digits as well
abbrev pub outside_text : (ℕ → List ℕ) → ℕ → List ℕ
outside_text byte b = if nat_le 128 b then 92 ∷ hex_byte b else byte b

abbrev pub name_bytes : (ℕ → List ℕ) → List ℕ → List ℕ
name_bytes byte name = if is_utf8 name then flat_map byte name else flat_map (outside_text byte) name

-- a name without marks
unfoldable pub plain : List ℕ → List ℕ
plain name = name_bytes plain_byte name

-- a name between quotation marks
unfoldable pub quoted : List ℕ → List ℕ
quoted name = codes "\"" ++ name_bytes quoted_byte name ++ codes "\""

-- a byte between such marks
unfoldable pub marked_byte : Marks → ℕ → List ℕ
marked_byte Bare b = plain_byte b
marked_byte Quotation b = quoted_byte b
