-- Entries that are asked for their lists.
use Rattle.std.specs.Prelude.{◌≡◌, ℕ, ℤ, List, ◌++◌, drop, slice_get, Option, Some, None, option_map, is_some, Bool, true, IfSome}
use Rattle.std.specs.List.{list_any}
use Rattle.std.specs.Ordering.{nat_cmp}
use Rattle.std.specs.BTreeMap.{BTreeMap, get}
use Rattle.dwarf_info.specs.declared.entry.Unit.{Unit as UnitTree}
use Rattle.dwarf_info.specs.Attributes.{valued, as_offset, ranges}
use Rattle.dwarf_info.specs.Sections.{SectionBytes5}
use Rattle.dwarf_loc.specs.calls.Said.{chosen_of}
use Rattle.dwarf_entries.specs.Standing.{Standing}
use Rattle.dwarf_scopes.specs.Ranges.{bounds_of, holds}
use Rattle.dwarf_scopes.specs.declared.known.ListPlace.{ListPlace}
use Rattle.dwarf_scopes.specs.calls.Kinds.{range_section, range_item}
use Rattle.dwarf_scopes.specs.calls.Knowing.{place_of, said_in, held_in}
use Rattle.dwarf_scopes.specs.calls.Numbered.{numbers_from, passes, first_or}

-- the list that says what an entry holds, where bounds do not
abbrev pub list_at : UnitTree → Option (ℕ × ℤ) → Option ℕ → Option ListPlace
list_at u (Some bounds) at = None
list_at u None at = option_map (place_of u) at

abbrev pub list_of : Standing → Option ListPlace
list_of x = list_at x.unit (bounds_of x.entry) (valued as_offset ranges x.entry.attributes)

abbrev pub is_listed : Standing → Bool
is_listed x = is_some (list_of x)

-- whether a list holds an address
abbrev pub held_at : SectionBytes5 → ℕ → ListPlace → Bool
held_at s address p = held_in (option_map chosen_of (said_in (range_section s) (range_item s) address p))

-- The entry of this number holds the address.
abbrev pub holds_numbered : SectionBytes5 → ℕ → List Standing → ℕ → Bool
holds_numbered s address xs index = passes (holds s address) (slice_get xs index)

-- To ask those of these numbers gives the same as to ask all that have a list.
abbrev pub AreListed : List Standing → List ℕ → Type 0
AreListed xs numbers = (s : SectionBytes5) (address : ℕ) (named : Option ℕ)
    → first_or (holds_numbered s address xs) named numbers ≡ first_or (holds_numbered s address xs) named (numbers_from is_listed 0 xs)

-- The same, where those from a number on are still to come.
abbrev pub SoFar : List Standing → ℕ → List ℕ → Type 0
SoFar xs index numbers = (s : SectionBytes5) (address : ℕ) (named : Option ℕ)
    → first_or (holds_numbered s address xs) named (numbers ++ numbers_from is_listed index (drop index xs)) ≡ first_or (holds_numbered s address xs) named (numbers_from is_listed 0 xs)

-- Where a list holds an address, one of these entries does.
abbrev pub IsAsked : List Standing → List ℕ → ListPlace → Type 0
IsAsked xs numbers p = (s : SectionBytes5) (address : ℕ) → held_at s address p ≡ true → list_any (holds_numbered s address xs) numbers ≡ true

abbrev pub AreSeen : List Standing → List ℕ → BTreeMap ℕ ListPlace → Type 0
AreSeen xs numbers seen = (number : ℕ) → IfSome (get nat_cmp seen number) (IsAsked xs numbers)
