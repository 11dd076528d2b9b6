-- Where sequences are apart, the one that is sought by where it begins is the first that holds the address.
use Rattle.std.proofs.Common.{◌≡◌, ℕ, zero, suc, ◌+◌, ◌<◌, ◌≤◌, Bool, true, false, leb, ltb, List, [], ◌∷◌, Option, Some, None, refl, sym, ap, subst, ◌∙◌, arith}
use Rattle.std.specs.Prelude.{◌&&◌, find, slice_get, option_and_then}
use Rattle.std.specs.Option.{option_or, option_to_list}
use Rattle.std.specs.List.{Contains}
use Rattle.std.specs.List.Sorted.{IsPermutation}
use Rattle.std.proofs.lemmas.List.Sorted.{Contains-permutation}
use Rattle.std.proofs.lemmas.List.Elements.{Contains-append_left, Contains-append_right}
use Rattle.std.proofs.lemmas.Option.{slice_get-get_or}
use Rattle.dwarf_line.specs.declared.lines.Row.{Row}
use Rattle.dwarf_line.specs.declared.lines.Sequence.{Sequence}
use Rattle.dwarf_line.specs.declared.sequences.Start.{Start}
use Rattle.dwarf_line.specs.Place.{HoldsFrom, holds, holds_from}
use Rattle.dwarf_line.specs.inner.Halving.{ascends_from, last_reached}
use Rattle.dwarf_line.specs.inner.Starts.{start_by, start_of, starts_from, apart_from, if_held, sought, AreStarts}
use Rattle.dwarf_line.proofs.PlaceLaws.{holds_from_true, holds_from_fact, first_here, first_later}
use Rattle.dwarf_line.proofs.HalvingLaws.{reach_first, reach_none}
use Rattle.std.proofs.lemmas.Bool.{and_parts}

abbrev pub first_of : Start → ℕ
first_of t = t.first

-- ---- starts that are apart

apart_ascends : (ts : List Start) (low reached : ℕ) → low ≤ reached → apart_from reached ts ≡ true → ascends_from first_of low ts ≡ true
apart_ascends [] low reached h e = refl
apart_ascends (t ∷ ts) low reached h e =
    let two = and_parts (leb reached t.first) (ltb t.first t.«end» && apart_from t.«end» ts) e in
    let more = and_parts (ltb t.first t.«end») (apart_from t.«end» ts) two.1 in
    let from : reached ≤ t.first = grind (arith, two.0) in
    let to : t.first < t.«end» = grind (arith, more.0) in
    let here : leb low t.first ≡ true = grind (arith, from, h) in
    rw (here, apart_ascends ts t.first t.«end» (omega (arith, to)) more.1) refl

from_reached : (ts : List Start) (reached k : ℕ) (t : Start) → apart_from reached ts ≡ true → slice_get ts k ≡ Some t → reached ≤ t.first
from_reached [] reached k t e there = absurd cc
from_reached (y ∷ ys) reached zero t e there =
    let two = and_parts (leb reached y.first) (ltb y.first y.«end» && apart_from y.«end» ys) e in
    let same : y ≡ t = cc in
    subst (λ (x : Start). reached ≤ x.first) same (grind (arith, two.0))
from_reached (y ∷ ys) reached (suc k) t e there =
    let two = and_parts (leb reached y.first) (ltb y.first y.«end» && apart_from y.«end» ys) e in
    let more = and_parts (ltb y.first y.«end») (apart_from y.«end» ys) two.1 in
    let from : reached ≤ y.first = grind (arith, two.0) in
    let to : y.first < y.«end» = grind (arith, more.0) in
    let later : y.«end» ≤ t.first = from_reached ys y.«end» k t more.1 there in
    omega (arith, from, to, later)

none_past : (ts : List Start) (reached a : ℕ) → apart_from reached ts ≡ true → a < reached → last_reached first_of a ts ≡ None
none_past [] reached a e h = refl
none_past (t ∷ ts) reached a e h =
    let two = and_parts (leb reached t.first) (ltb t.first t.«end» && apart_from t.«end» ts) e in
    let from : reached ≤ t.first = grind (arith, two.0) in
    reach_none first_of a t ts (grind (arith, from, h))

-- The start in which an address falls is the last one before it.
last_holding : (ts : List Start) (reached a k : ℕ) (t : Start) → apart_from reached ts ≡ true → slice_get ts k ≡ Some t → t.first ≤ a → a < t.«end» → last_reached first_of a ts ≡ Some t
last_holding [] reached a k t e there low high = absurd cc
last_holding (y ∷ ys) reached a zero t e there low high =
    let two = and_parts (leb reached y.first) (ltb y.first y.«end» && apart_from y.«end» ys) e in
    let more = and_parts (ltb y.first y.«end») (apart_from y.«end» ys) two.1 in
    let same : t ≡ y = cc in
    let begun : y.first ≤ a = subst (λ (x : Start). x.first ≤ a) same low in
    let within : a < y.«end» = subst (λ (x : Start). a < x.«end») same high in
    reach_first first_of a y ys (grind (arith, begun)) ∙ ap (λ (o : Option Start). option_or o (Some y)) (none_past ys y.«end» a more.1 within) ∙ there
last_holding (y ∷ ys) reached a (suc k) t e there low high =
    let two = and_parts (leb reached y.first) (ltb y.first y.«end» && apart_from y.«end» ys) e in
    let more = and_parts (ltb y.first y.«end») (apart_from y.«end» ys) two.1 in
    let to : y.first < y.«end» = grind (arith, more.0) in
    let later : y.«end» ≤ t.first = from_reached ys y.«end» k t more.1 there in
    let begun : y.first ≤ a = omega (arith, to, later, low) in
    reach_first first_of a y ys (grind (arith, begun)) ∙ ap (λ (o : Option Start). option_or o (Some y)) (last_holding ys y.«end» a k t more.1 there low high)

-- ---- the start of a sequence that holds an address

-- it is there, and the address falls in it
record Begun (a j : ℕ) (ts : List Start) : Type 0 where
  start : Start
  there : Contains ts start
  is : start.index ≡ j
  low : start.first ≤ a
  high : a < start.«end»

start_holding : (a j : ℕ) (s : Sequence) (rows : List Row) → s.rows ≡ rows → HoldsFrom a rows s.«end» → (t : Start) × (start_by j s rows ≡ Some t) × (t.index ≡ j) × (t.first ≤ a) × (a < t.«end»)
start_holding a j s [] e h = absurd h
start_holding a j s (r ∷ rows) e h =
    let own : HoldsFrom r.address (r ∷ rows) s.«end» = (h.0, omega arith, omega (arith, h.1, h.2)) in
    let yes : holds r.address s ≡ true = subst (λ (l : List Row). holds_from r.address l s.«end» ≡ true) (sym e) (holds_from_true r.address (r ∷ rows) s.«end» own) in
    (record { first = r.address; «end» = s.«end»; index = j }, rw yes refl, refl, h.1, h.2)

begun_in : (a i j k : ℕ) (ss : List Sequence) (s : Sequence) → slice_get ss k ≡ Some s → i + k ≡ j → holds a s ≡ true → Begun a j (starts_from i ss)
begun_in a i j k [] s there at h = absurd cc
begun_in a i j zero (x ∷ ss) s there at h =
    let same : s ≡ x = cc in
    let own : holds a x ≡ true = subst (λ (y : Sequence). holds a y ≡ true) same h in
    let t = start_holding a i x x.rows refl (holds_from_fact a x.rows x.«end» own) in
    let list : option_to_list (start_of i x) ≡ t.0 ∷ [] = ap option_to_list t.1 in
    let here : Contains (t.0 ∷ []) t.0 = (0, omega arith, refl) in
    record { start = t.0; there = Contains-append_left (option_to_list (start_of i x)) (starts_from (suc i) ss) t.0 (subst (λ (l : List Start). Contains l t.0) (sym list) here); is = t.2 ∙ omega (arith, at); low = t.3; high = t.4 }
begun_in a i j (suc k) (x ∷ ss) s there at h =
    let b = begun_in a (suc i) j k ss s there (omega (arith, at)) h in
    record { start = b.start; there = Contains-append_right (option_to_list (start_of i x)) (starts_from (suc i) ss) b.start b.there; is = b.is; low = b.low; high = b.high }

-- ---- the sequence that is sought

held_at : (a : ℕ) (s : Sequence) → holds a s ≡ true → if_held a s ≡ Some s
held_at a s h = rw h refl

not_held_at : (a : ℕ) (s : Sequence) → holds a s ≡ false → if_held a s ≡ None
not_held_at a s h = rw h refl

-- the first that holds it, with its number
found_at : (a : ℕ) (ss : List Sequence) (s : Sequence) → find (holds a) ss ≡ Some s → (k : ℕ) × (slice_get ss k ≡ Some s) × (holds a s ≡ true)
found_at a [] s e = absurd cc
found_at a (x ∷ ss) s e = by (holds a x) refl (found_at a ss s) where
  by : (t : Bool) → holds a x ≡ t → (find (holds a) ss ≡ Some s → (k : ℕ) × (slice_get ss k ≡ Some s) × (holds a s ≡ true)) → (k : ℕ) × (slice_get (x ∷ ss) k ≡ Some s) × (holds a s ≡ true)
  by true h later = let same : x ≡ s = (let some : Some x ≡ Some s = sym (first_here (holds a) x ss h) ∙ e in cc) in (0, ap (λ (y : Sequence). Some y) same, subst (λ (y : Sequence). holds a y ≡ true) same h)
  by false h later = let more = later (sym (first_later (holds a) x ss h) ∙ e) in (suc more.0, more.1, more.2)

none_at : (a k : ℕ) (ss : List Sequence) (s : Sequence) → find (holds a) ss ≡ None → slice_get ss k ≡ Some s → holds a s ≡ false
none_at a k [] s e there = absurd cc
none_at a k (x ∷ ss) s e there = by k (holds a x) refl there (λ i. none_at a i ss s) where
  by : (k : ℕ) (t : Bool) → holds a x ≡ t → slice_get (x ∷ ss) k ≡ Some s → ((i : ℕ) → find (holds a) ss ≡ None → slice_get ss i ≡ Some s → holds a s ≡ false) → holds a s ≡ false
  by k true h at later = absurd (let no : Some x ≡ None = sym (first_here (holds a) x ss h) ∙ e in cc)
  by zero false h at later = let same : x ≡ s = cc in subst (λ (y : Sequence). holds a y ≡ false) same h
  by (suc k) false h at later = later k (sym (first_later (holds a) x ss h) ∙ e) at

-- Where no sequence holds it, none is sought.
none_sought : (a : ℕ) (ss : List Sequence) (t : Option Start) → find (holds a) ss ≡ None → option_and_then (λ (t : Start). option_and_then (if_held a) (slice_get ss t.index)) t ≡ None
none_sought a ss None e = refl
none_sought a ss (Some t) e = by (slice_get ss t.index) refl where
  by : (o : Option Sequence) → slice_get ss t.index ≡ o → option_and_then (if_held a) o ≡ None
  by None at = refl
  by (Some s) at = not_held_at a s (none_at a t.index ss s e at)

-- Where one does, it is sought.
one_sought : (a : ℕ) (ss : List Sequence) (ts : List Start) (s : Sequence) → IsPermutation (starts_from 0 ss) ts → apart_from 0 ts ≡ true → find (holds a) ss ≡ Some s → sought a ts ss ≡ Some s
one_sought a ss ts s moved apart e =
    let f = found_at a ss s e in
    let b = begun_in a 0 f.0 f.0 ss s f.1 (omega arith) f.2 in
    let c : Contains ts b.start = Contains-permutation (starts_from 0 ss) ts b.start moved b.there in
    let at : slice_get ts c.0 ≡ Some b.start = slice_get-get_or ts c.0 b.start c.1 ∙ ap (λ (x : Start). Some x) c.2 in
    let last : last_reached first_of a ts ≡ Some b.start = last_holding ts 0 a c.0 b.start apart at b.low b.high in
    let seq : slice_get ss b.start.index ≡ Some s = ap (slice_get ss) b.is ∙ f.1 in
    ap (option_and_then (λ (t : Start). option_and_then (if_held a) (slice_get ss t.index))) last ∙ ap (option_and_then (if_held a)) seq ∙ held_at a s f.2

sought_is : (a : ℕ) (ss : List Sequence) (ts : List Start) → IsPermutation (starts_from 0 ss) ts → apart_from 0 ts ≡ true → find (holds a) ss ≡ sought a ts ss
sought_is a ss ts moved apart = by (find (holds a) ss) refl where
  by : (o : Option Sequence) → find (holds a) ss ≡ o → find (holds a) ss ≡ sought a ts ss
  by None e = e ∙ sym (none_sought a ss (last_reached first_of a ts) e)
  by (Some s) e = e ∙ sym (one_sought a ss ts s moved apart e)

-- Starts in any order serve, if they are apart.
pub are_starts : (ss : List Sequence) (ts : List Start) (apart : Bool) → IsPermutation (starts_from 0 ss) ts → apart ≡ apart_from 0 ts → AreStarts apart ts ss
are_starts ss ts apart moved is = λ yes. (apart_ascends ts 0 0 (omega arith) (sym is ∙ yes), λ a. sought_is a ss ts moved (sym is ∙ yes))
