-- A sequence holds what is between its bounds, and a row is found exactly where a sequence holds the address.
use Rattle.std.proofs.Common.{◌≡◌, ℕ, Bool, true, false, leb, ltb, eqb, List, [], ◌∷◌, Option, Some, None, refl, sym, ap, ◌∙◌, inl, inr}
use Rattle.std.specs.Prelude.{find, not, ◌&&◌, ◌||◌, ◌⊎◌, is_some, option_and_then, if◌then◌else◌}
use Rattle.std.specs.List.{AllByRecursion, list_any}
use Rattle.dwarf_line.specs.declared.lines.Row.{Row}
use Rattle.dwarf_line.specs.declared.lines.Sequence.{Sequence}
use Rattle.dwarf_line.specs.Place.{Holds, IsPlace, holds, holds_from, nearest, place}
use Rattle.dwarf_line.specs.calls.Held.{held, held_from, is_held}
use Rattle.dwarf_line.proofs.PlaceLaws.{place_is_computed, place_or_none, none_found, no_place}

held_by : (first last a : ℕ) (s t : Bool) → (not s && (t && (leb first a && ltb a last))) ≡ is_held a (if not s && t then Some (first, last) else None)
held_by first last a true t = refl
held_by first last a false true = refl
held_by first last a false false = refl

holds_rows : (a : ℕ) (rows : List Row) (last : ℕ) → holds_from a rows last ≡ is_held a (held_from rows last)
holds_rows a [] last = refl
holds_rows a (r ∷ rows) last = held_by r.address last a (eqb r.address 0) (ltb r.address 0xfffffffe)

pub holds_held : (a : ℕ) (s : Sequence) → holds a s ≡ is_held a (held s)
holds_held a s = holds_rows a s.rows s.«end»

-- ---- rows

any_or_find : (a : ℕ) (ss : List Sequence) → list_any (holds a) ss ≡ is_some (find (holds a) ss)
any_or_find a [] = refl
any_or_find a (s ∷ ss) = by (holds a s) (any_or_find a ss) where
  by : (t : Bool) → list_any (holds a) ss ≡ is_some (find (holds a) ss) → t || list_any (holds a) ss ≡ is_some (if t then Some s else find (holds a) ss)
  by true later = refl
  by false later = later

some_found : (a : ℕ) (ss : List Sequence) (row : Row) → place a ss ≡ Some row → is_some (find (holds a) ss) ≡ true
unfolding place
some_found a ss row e = by (find (holds a) ss) e where
  by : (o : Option Sequence) → option_and_then (λ (s : Sequence). nearest a s.rows) o ≡ Some row → is_some o ≡ true
  by None f = absurd cc
  by (Some s) f = refl

placed_by : (a : ℕ) (ss : List Sequence) → ((row : Row) × IsPlace a ss row) ⊎ AllByRecursion (λ (s : Sequence). Holds a s → ⊥) ss → is_some (place a ss) ≡ list_any (holds a) ss
placed_by a ss (inl found) =
    let there : place a ss ≡ Some found.0 = place_is_computed a ss found.0 found.1 in
    ap is_some there ∙ sym (any_or_find a ss ∙ some_found a ss found.0 there)
placed_by a ss (inr none) = ap is_some (no_place a ss none) ∙ sym (any_or_find a ss ∙ ap is_some (none_found a ss none))

pub is_placed : (a : ℕ) (ss : List Sequence) → is_some (place a ss) ≡ list_any (holds a) ss
is_placed a ss = placed_by a ss (place_or_none a ss)
