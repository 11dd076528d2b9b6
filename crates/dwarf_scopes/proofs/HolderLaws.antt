-- The first entry that holds an address, by the tables.
use Rattle.std.proofs.Common.{◌≡◌, ℕ, ◌<◌, ◌^◌, ℤ, Bool, true, false, List, Option, Some, None, refl, sym, ap, ◌∙◌}
use Rattle.std.specs.Prelude.{find, slice_get, option_and_then, is_some, ◌||◌}
use Rattle.std.specs.Option.{option_to_list}
use Rattle.std.specs.List.{position_from, list_any}
use Rattle.dwarf_info.specs.declared.entry.Unit.{Unit as UnitTree}
use Rattle.dwarf_info.specs.Attributes.{valued, as_offset, ranges}
use Rattle.dwarf_info.specs.Sections.{SectionBytes5}
use Rattle.dwarf_entries.specs.Standing.{Standing}
use Rattle.dwarf_scopes.specs.Ranges.{bounds_of, is_between, in_list, holds, holds_by}
use Rattle.dwarf_scopes.specs.declared.holders.Holders.{Holders}
use Rattle.dwarf_scopes.specs.calls.Steps.{answer}
use Rattle.dwarf_scopes.specs.calls.Numbered.{is_within, passes, first_or}
use Rattle.dwarf_scopes.specs.inner.Holding.{bounds_in, AreHolders}
use Rattle.dwarf_scopes.specs.inner.Listing.{list_at, is_listed}
use Rattle.dwarf_scopes.proofs.NumberLaws.{first_numbered, found_first}

or_false : (b : Bool) → b || false ≡ b
or_false true = refl
or_false false = refl

bounded_by : (s : SectionBytes5) (a : ℕ) (x : Standing) (o : Option (ℕ × ℤ)) (list : Option ℕ) → valued as_offset ranges x.entry.attributes ≡ list → is_some (list_at x.unit o list) ≡ false
    → holds_by s x a o ≡ list_any (λ (b : ℕ × ℤ). is_between b a) (option_to_list o)
bounded_by s a x (Some b) list is e = sym (or_false (is_between b a))
bounded_by s a x None (Some at) is e = absurd cc
bounded_by s a x None None is e = ap (in_list s x.unit a) is

listed_by : (u : UnitTree) (a : ℕ) (o : Option (ℕ × ℤ)) (list : Option ℕ) → is_some (list_at u o list) ≡ true → list_any (λ (b : ℕ × ℤ). is_between b a) (option_to_list o) ≡ false
listed_by u a (Some b) list e = absurd cc
listed_by u a None list e = refl

pub first_is : (s : SectionBytes5) (a : ℕ) (xs : List Standing) (h : Holders) → a < 2 ^ 32 → AreHolders xs h
    → option_and_then (slice_get xs) (first_or (λ i. passes (holds s a) (slice_get xs i)) (answer h.bounded a) h.listed) ≡ find (holds s a) xs
first_is s a xs h small holders =
    let named : answer h.bounded a ≡ position_from (is_within bounds_in a) 0 xs = holders.0 a small ∙ first_numbered bounds_in a 0 xs in
    ap (λ (o : Option ℕ). option_and_then (slice_get xs) (first_or (λ i. passes (holds s a) (slice_get xs i)) o h.listed)) named
    ∙ ap (option_and_then (slice_get xs)) (holders.1 s a (position_from (is_within bounds_in a) 0 xs))
    ∙ found_first (holds s a) (is_within bounds_in a) is_listed xs
    (λ y e. bounded_by s a y (bounds_of y.entry) (valued as_offset ranges y.entry.attributes) refl e) (λ y e. listed_by y.unit a (bounds_of y.entry) (valued as_offset ranges y.entry.attributes) e)
