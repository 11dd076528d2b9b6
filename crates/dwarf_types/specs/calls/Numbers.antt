-- What is known of the enumerators of an enumeration: the first one of each number.
use Rattle.std.specs.Prelude.{◌≡◌, ◌==◌, ◌*◌, ◌^◌, ℕ, ℤ, pos, Bool, false, find, slice_get, Option, Some, None, option_and_then, IfSome, unsigned_abs}
use Rattle.std.specs.Int.{int_rem_euclid}
use Rattle.std.specs.Ordering.{nat_cmp}
use Rattle.std.specs.BTreeMap.{get}
use Rattle.dwarf_info.specs.declared.entry.Entry.{Entry}
use Rattle.dwarf_info.specs.Attributes.{valued, as_number}
use Rattle.dwarf_entries.specs.Names.{at_const_value}
use Rattle.dwarf_entries.specs.Tags.{tag_enumerator}
use Rattle.dwarf_entries.specs.Standing.{Standing, entries_inside, children_tagged}
use Rattle.dwarf_types.specs.calls.Inside.{AreInside}
use Rattle.dwarf_types.specs.declared.enumerators.Enumerators.{Enumerators}

-- a number, as those of types of that size are told apart
abbrev pub number_key : ℕ → ℤ → ℕ
number_key size z = unsigned_abs (int_rem_euclid z (pos (2 ^ (8 * size))))

abbrev pub is_key : ℕ → ℕ → Option ℤ → Bool
is_key size n None = false
is_key size n (Some z) = number_key size z == n

-- an enumerator has such a number
abbrev pub has_key : ℕ → ℕ → Entry → Bool
has_key size n e = is_key size n (valued as_number at_const_value e.attributes)

-- the first enumerator of each number is the entry at its position among those in the enumeration
abbrev pub AreFirst : Standing → Enumerators → Type 0
AreFirst s e = (n : ℕ) → option_and_then (slice_get (entries_inside s)) (get nat_cmp e.first n) ≡ find (has_key e.size n) (children_tagged tag_enumerator s)

pub record AreFirstIn (s : Standing) (e : Enumerators) : Type 0 where
  pub range : AreInside s e.range
  pub first : AreFirst s e

-- they are those of an entry, if there is one
abbrev pub AreFirstOf : Option Standing → Enumerators → Type 0
AreFirstOf s e = IfSome s (λ s. AreFirstIn s e)
