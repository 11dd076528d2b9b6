-- Scalars where they stand: the number in their bits, and its text (DWARF 4, 5.1, 5.5.6 and 5.7).
use Rattle.std.specs.Prelude.{ℕ, ◌+◌, ◌-◌, ◌*◌, ◌/◌, ◌%◌, ◌^◌, ◌==◌, ◌&&◌, ◌||◌, Bool, false, nat_lt, nat_le, ℤ, pos, ◌+ℤ◌, ◌-ℤ◌, List, Option, Some, None, unwrap_or, Result, Ok, Err, if◌then◌else◌}
use Rattle.dwarf_info.specs.declared.entry.UnitAnswer.{UnitAnswer}
use Rattle.dwarf_entries.specs.Standing.{Standing}
use Rattle.dwarf_entries.specs.Tags.{tag_base}
use Rattle.dwarf_entries.specs.Origins.{longest_chain}
use Rattle.dwarf_types.specs.declared.class.Class.{Class}
use Rattle.dwarf_types.specs.declared.class.Class.TheVariants as classes
use Rattle.dwarf_types.specs.declared.behind.Behind.{Behind}
use Rattle.dwarf_types.specs.declared.behind.Behind.TheVariants as behinds
use Rattle.dwarf_types.specs.Types.{class_at, type_of, behind}
use Rattle.dwarf_types.specs.Kinds.{encoding}
use Rattle.var_values.specs.declared.mark.Mark.{Mark}
use Rattle.var_values.specs.Bytes.{Recorded, number_at}
use Rattle.var_values.specs.Texts.{address_text, base_text, enumeration_text}
use Rattle.var_values.specs.declared.bits.Bits.{Bits}
use Rattle.var_values.specs.Places.{Place}

abbrev pub all_bits : ℕ → Bits
all_bits size = record { first = 0; count = 8 * size }

-- a scalar that is no bit-field is one of all its bits
abbrev pub bits_of : Place → ℕ → Bits
bits_of p size = unwrap_or p.bits (all_bits size)

-- how many bytes hold these bits
abbrev pub holding : Bits → ℕ
holding b = if b.count == 0 then 0 else (b.first + b.count - 1) / 8 - b.first / 8 + 1

-- the bits in the number that these bytes spell
abbrev pub cut : Bits → ℕ → ℕ
cut b w = w / 2 ^ (b.first % 8) % 2 ^ b.count

abbrev pub result_map : {A B : Type 0} → (A → B) → Result A Mark → Result B Mark
result_map f (Ok x) = Ok (f x)
result_map f (Err m) = Err m

-- the bits as an unsigned number
unfoldable pub word_in : Recorded → Place → Bits → Result ℕ Mark
word_in memory p b = result_map (cut b) (number_at memory p.source (p.offset +ℤ pos (b.first / 8)) (holding b))

-- a number of k bits in two's complement
abbrev pub as_signed : ℕ → ℕ → ℤ
as_signed k w = if nat_lt w (2 ^ (k - 1)) || k == 0 then pos w else pos w -ℤ pos (2 ^ k)

abbrev pub number_of : Bool → ℕ → ℕ → ℤ
number_of signed k w = if signed then as_signed k w else pos w

-- ---- sizes

abbrev pub is_size : ℕ → Bool
is_size size = size == 1 || size == 2 || size == 4 || size == 8

abbrev pub is_integer_size : ℕ → Bool
is_integer_size size = is_size size || size == 16

abbrev pub is_code_point_size : ℕ → Bool
is_code_point_size size = size == 1 || size == 2 || size == 4

-- the sizes of each encoding
abbrev pub encoding_suits : ℕ → ℕ → Bool
encoding_suits e size =
    if e == 1 then size == 4
    else (if e == 2 then is_size size
    else (if e == 5 || e == 7 then is_integer_size size
    else (if e == 4 then nat_le 1 size && nat_le size 16
    else (if e == 16 then is_code_point_size size
    else (e == 6 || e == 8) && size == 1))))

abbrev pub size_suits : Option ℕ → ℕ → Bool
size_suits None size = false
size_suits (Some e) size = encoding_suits e size

-- ---- texts

abbrev pub is_signed : Option ℕ → Bool
is_signed None = false
is_signed (Some e) = e == 5 || e == 6

-- an enumeration is signed where the type behind its own is a signed base type
abbrev pub behind_is_signed : Behind → Bool
behind_is_signed (behinds.Stands s k) = s.entry.tag == tag_base && is_signed (encoding s)
behind_is_signed _ = false

abbrev pub type_is_signed : Class → List UnitAnswer → Standing → Bool
type_is_signed classes.Enumeration units s = behind_is_signed (behind units longest_chain (type_of units s.entry.attributes))
type_is_signed c units s = is_signed (encoding s)

-- of a word in k bits: a pointer, an enumeration or a base type
abbrev pub word_text : Class → List UnitAnswer → Standing → ℕ → ℕ → ℕ → List ℕ
word_text classes.Pointing units s size k w = address_text w
word_text classes.Enumeration units s size k w = enumeration_text units s size (number_of (type_is_signed classes.Enumeration units s) k w)
word_text c units s size k w = base_text (unwrap_or (encoding s) 0) size w (number_of (is_signed (encoding s)) k w)

-- of a type of that size
unfoldable pub scalar_text : List UnitAnswer → Recorded → Standing → ℕ → Place → Result (List ℕ) Mark
scalar_text units memory s size p =
    let b = bits_of p size in
    result_map (word_text (class_at s) units s size b.count) (word_in memory p b)
