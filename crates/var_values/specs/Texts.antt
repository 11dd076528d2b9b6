-- Texts of scalars: pointers, enumerations and base types by their encodings (DWARF 4, 5.1, 5.7 and 7.8).
use Rattle.std.specs.Prelude.{ℕ, zero, suc, ◌*◌, ◌/◌, ◌%◌, ◌^◌, ◌==◌, ◌&&◌, ◌||◌, Bool, false, nat_le, ℤ, pos, negsuc, List, [], ◌∷◌, ◌++◌, find, Option, Some, None, if◌then◌else◌, codes}
use Rattle.std.specs.Fmt.{decimal, signed_decimal}
use Rattle.std.specs.Int.{int_rem_euclid}
use Rattle.pm_text.specs.Hex.{hex_padded}
use Rattle.pm_text.specs.Names.{plain}
use Rattle.dwarf_info.specs.declared.entry.Entry.{Entry}
use Rattle.dwarf_info.specs.declared.entry.UnitAnswer.{UnitAnswer}
use Rattle.dwarf_info.specs.Attributes.{valued, as_number}
use Rattle.dwarf_entries.specs.Names.{at_const_value}
use Rattle.dwarf_entries.specs.Tags.{tag_enumerator}
use Rattle.dwarf_entries.specs.Standing.{Standing, children_tagged}
use Rattle.dwarf_entries.specs.Origins.{name_or_empty}

-- the character of 32 to 126, in marks
abbrev pub character : ℤ → List ℕ
character (pos n) = if nat_le 32 n && nat_le n 126 then codes " '" ++ n ∷ 39 ∷ [] else []
character (negsuc n) = []

-- a number, and behind one from 32 to 126 the character
abbrev pub with_character : ℤ → List ℕ
with_character z = signed_decimal z ++ character z

-- a code point that does not print, by its number
abbrev pub escaped : ℕ → List ℕ
escaped w = codes "\\u{" ++ hex_padded 1 w ++ codes "}"

abbrev pub point : ℕ → List ℕ
point w = if nat_le 32 w && nat_le w 126 then w ∷ [] else escaped w

-- a code point: its number, and behind it the character in marks
abbrev pub code_point_text : ℕ → List ℕ
code_point_text w = decimal w ++ codes " '" ++ point w ++ codes "'"

-- an address
abbrev pub address_text : ℕ → List ℕ
address_text w = codes "0x" ++ hex_padded 8 w

-- two digits for each of n bytes, the highest first
unfoldable pub byte_digits : ℕ → ℕ → List ℕ
byte_digits zero w = []
byte_digits (suc n) w = byte_digits n (w / 256) ++ hex_padded 2 (w % 256)

abbrev pub float_text : ℕ → ℕ → List ℕ
float_text size w = codes "0x" ++ byte_digits size w

abbrev pub boolean_text : ℕ → List ℕ
boolean_text w = if w == 0 then codes "false" else codes "true"

-- of a base type: its encoding, its size, its bits as an unsigned number, and the number that they are
unfoldable pub base_text : ℕ → ℕ → ℕ → ℤ → List ℕ
base_text encoding size w z =
    if encoding == 1 then address_text w
    else (if encoding == 2 then boolean_text w
    else (if encoding == 4 then float_text size w
    else (if encoding == 6 || encoding == 8 then with_character z
    else (if encoding == 16 then code_point_text w
    else signed_decimal z))))

-- ---- enumerations

abbrev pub residue : ℕ → ℤ → ℤ
residue size z = int_rem_euclid z (pos (2 ^ (8 * size)))

abbrev pub same_number : ℤ → ℤ → Bool
same_number (pos a) (pos b) = a == b
same_number (negsuc a) (negsuc b) = a == b
same_number _ _ = false

abbrev pub equals : ℕ → ℤ → Option ℤ → Bool
equals size z None = false
equals size z (Some c) = same_number (residue size c) (residue size z)

-- an enumerator has the value, as numbers of the type's size
abbrev pub has_value : ℕ → ℤ → Entry → Bool
has_value size z e = equals size z (valued as_number at_const_value e.attributes)

abbrev pub enumerator_text : List UnitAnswer → ℤ → Option Entry → List ℕ
enumerator_text units z None = signed_decimal z
enumerator_text units z (Some e) = plain (name_or_empty units e.attributes)

-- the first enumerator of the value, or the number
unfoldable pub enumeration_text : List UnitAnswer → Standing → ℕ → ℤ → List ℕ
enumeration_text units s size z = enumerator_text units z (find (has_value size z) (children_tagged tag_enumerator s))
