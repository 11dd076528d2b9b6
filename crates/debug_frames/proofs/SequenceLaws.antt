-- The row in the sequence whose number is known to hold an address first.
use Rattle.std.proofs.Common.{◌≡◌, ℕ, ◌+◌, ◌<◌, ◌^◌, ℤ, Bool, true, false, cond, List, [], ◌∷◌, Option, Some, None, refl, sym, ap, ◌∙◌, arith}
use Rattle.std.specs.Prelude.{pos, map, slice_get, option_and_then, find, ◌||◌, if◌then◌else◌}
use Rattle.std.specs.Option.{option_to_list}
use Rattle.std.specs.List.{list_any, position_from}
use Rattle.dwarf_line.specs.declared.lines.Row.{Row}
use Rattle.dwarf_line.specs.declared.lines.Sequence.{Sequence}
use Rattle.dwarf_line.specs.Place.{holds, nearest, place}
use Rattle.dwarf_line.specs.calls.Held.{held, is_held}
use Rattle.dwarf_line.proofs.HeldLaws.{holds_held}
use Rattle.dwarf_scopes.specs.Ranges.{is_between}
use Rattle.dwarf_scopes.specs.calls.Numbered.{ranges_from, is_within}
use Rattle.dwarf_scopes.specs.calls.Steps.{Answer, answer}
use Rattle.dwarf_scopes.specs.declared.steps.Step.{Step}
use Rattle.dwarf_scopes.proofs.NumberLaws.{StandsAt, stands_behind, first_numbered}
use Rattle.debug_frames.specs.inner.Placing.{held_by}

alone : (t : Bool) → t || false ≡ t
alone true = refl
alone false = refl

one_held : (a : ℕ) (o : Option (ℕ × ℕ)) → list_any (λ (b : ℕ × ℤ). is_between b a) (map (λ (b : ℕ × ℕ). (b.0, pos b.1)) (option_to_list o)) ≡ is_held a o
one_held a None = refl
one_held a (Some b) = alone (is_held a (Some b))

within_held : (a : ℕ) (s : Sequence) → is_within held_by a s ≡ holds a s
within_held a s = one_held a (held s) ∙ sym (holds_held a s)

abbrev row_in : ℕ → Option Sequence → Option Row
row_in a o = option_and_then (λ (s : Sequence). nearest a s.rows) o

row_from : (a : ℕ) (all : List Sequence) (index : ℕ) (ss : List Sequence) → StandsAt all index ss
    → row_in a (option_and_then (slice_get all) (position_from (is_within held_by a) index ss)) ≡ row_in a (find (holds a) ss)
row_from a all index [] h = refl
row_from a all index (s ∷ ss) h =
    ap (λ (t : Bool). row_in a (option_and_then (slice_get all) (cond t (Some index) (position_from (is_within held_by a) (index + 1) ss)))) (within_held a s)
    ∙ by (holds a s) (row_from a all (index + 1) ss (stands_behind all index s ss h))
  where
    there : slice_get all index ≡ Some s
    there = let same : index + 0 ≡ index = omega arith in rw same at (h 0)

    by : (t : Bool) → row_in a (option_and_then (slice_get all) (position_from (is_within held_by a) (index + 1) ss)) ≡ row_in a (find (holds a) ss)
        → row_in a (option_and_then (slice_get all) (cond t (Some index) (position_from (is_within held_by a) (index + 1) ss))) ≡ row_in a (if t then Some s else find (holds a) ss)
    by true later = ap (row_in a) there
    by false later = later

pub row_is : (a : ℕ) (ss : List Sequence) (steps : List Step) → a < 2 ^ 32 → Answer (ranges_from held_by 0 ss) steps → row_in a (option_and_then (slice_get ss) (answer steps a)) ≡ place a ss
unfolding place
row_is a ss steps small answers =
    let here : StandsAt ss 0 ss = (λ k. (let first : 0 + k ≡ k = omega arith in ap (slice_get ss) first)) in
    ap (λ (o : Option ℕ). row_in a (option_and_then (slice_get ss) o)) (answers a small ∙ first_numbered held_by a 0 ss) ∙ row_from a ss 0 ss here
