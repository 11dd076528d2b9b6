-- The computed place of an address is the one that is described, and there is none exactly where no sequence holds the address.
use Rattle.std.proofs.Common.{◌≡◌, ℕ, ◌<◌, ◌≤◌, Bool, true, false, eqb, leb, ltb, List, [], ◌∷◌, ◌++◌, Option, Some, None, refl, sym, ap, subst, ◌∙◌, inl, inr, arith}
use Rattle.std.specs.Prelude.{find, filter, fold, ◌⊎◌, ◌&&◌, not}
use Rattle.std.specs.List.{AllByRecursion, reduce}
use Rattle.dwarf_line.specs.declared.lines.Row.{Row}
use Rattle.dwarf_line.specs.declared.lines.Sequence.{Sequence}
use Rattle.dwarf_line.specs.Place.{IsFirst, Holds, HoldsFrom, IsNearest, IsPlace, holds, holds_from, greater, nearest, place, HoldsNone, IsPlaceIfAny}

-- ---- the nearest row

abbrev pub reached : ℕ → Row → Bool
reached a r = leb r.address a

pub filter_in : (a : ℕ) (r : Row) (rows : List Row) → leb r.address a ≡ true → filter (reached a) (r ∷ rows) ≡ r ∷ filter (reached a) rows
filter_in a r rows e = rw e refl

pub filter_out : (a : ℕ) (r : Row) (rows : List Row) → leb r.address a ≡ false → filter (reached a) (r ∷ rows) ≡ filter (reached a) rows
filter_out a r rows e = rw e refl

pub greater_second : (r s : Row) → r.address ≤ s.address → greater r s ≡ s
greater_second r s h = let e : leb r.address s.address ≡ true = grind (arith, h) in rw e refl

greater_first : (r s : Row) → s.address < r.address → greater r s ≡ r
greater_first r s h = let e : leb r.address s.address ≡ false = grind (arith, h) in rw e refl

-- none past the row, but for those that are not reached
abbrev Below : ℕ → Row → List Row → Type 0
Below a row rows = AllByRecursion (λ (r : Row). r.address ≤ a → r.address < row.address) rows

abbrev NotAbove : ℕ → Row → List Row → Type 0
NotAbove a row rows = AllByRecursion (λ (r : Row). r.address ≤ a → r.address ≤ row.address) rows

-- the best row, going on from one
abbrev pub best_from : ℕ → Row → List Row → Row
best_from a best rows = fold greater best (filter (reached a) rows)

-- one row further
pub on_in : (a : ℕ) (best y : Row) (ys : List Row) → leb y.address a ≡ true → best_from a best (y ∷ ys) ≡ best_from a (greater best y) ys
on_in a best y ys e = ap (λ (rows : List Row). fold greater best rows) (filter_in a y ys e)

pub on_out : (a : ℕ) (best y : Row) (ys : List Row) → leb y.address a ≡ false → best_from a best (y ∷ ys) ≡ best_from a best ys
on_out a best y ys e = ap (λ (rows : List Row). fold greater best rows) (filter_out a y ys e)

keeps_by : (a : ℕ) (best y : Row) (ys : List Row) (t : Bool) → leb y.address a ≡ t → (y.address ≤ a → y.address < best.address) → best_from a best ys ≡ best → best_from a best (y ∷ ys) ≡ best
keeps_by a best y ys true e h more = on_in a best y ys e ∙ ap (λ (b : Row). best_from a b ys) (greater_first best y (h (grind (arith, e)))) ∙ more
keeps_by a best y ys false e h more = on_out a best y ys e ∙ more

keeps : (a : ℕ) (best : Row) (rows : List Row) → Below a best rows → best_from a best rows ≡ best
keeps a best [] h = refl
keeps a best (y ∷ ys) h = keeps_by a best y ys (leb y.address a) refl h.0 (keeps a best ys h.1)

comes_by : (a : ℕ) (row best y : Row) (ys : List Row) (t s : Bool) → leb y.address a ≡ t → leb best.address y.address ≡ s → best.address ≤ row.address → (y.address ≤ a → y.address ≤ row.address)
    → ((b : Row) → b.address ≤ row.address → best_from a b ys ≡ row) → best_from a best (y ∷ ys) ≡ row
comes_by a row best y ys true true e f h below more = on_in a best y ys e ∙ ap (λ (b : Row). best_from a b ys) (greater_second best y (grind (arith, f))) ∙ more y (below (grind (arith, e)))
comes_by a row best y ys true false e f h below more = on_in a best y ys e ∙ ap (λ (b : Row). best_from a b ys) (greater_first best y (grind (arith, f))) ∙ more best h
comes_by a row best y ys false s e f h below more = on_out a best y ys e ∙ more best h

comes : (a : ℕ) (row : Row) (before after : List Row) → row.address ≤ a → NotAbove a row before → Below a row after → (best : Row) → best.address ≤ row.address → best_from a best (before ++ row ∷ after) ≡ row
comes a row [] after r b c best h =
    let e : leb row.address a ≡ true = grind (arith, r) in
    on_in a best row after e ∙ ap (λ (x : Row). best_from a x after) (greater_second best row h) ∙ keeps a row after c
comes a row (y ∷ ys) after r b c best h = comes_by a row best y (ys ++ row ∷ after) (leb y.address a) (leb best.address y.address) refl refl h b.0 (comes a row ys after r b.1 c)

first_by : (a : ℕ) (row y : Row) (ys : List Row) (t : Bool) → leb y.address a ≡ t → (y.address ≤ a → y.address ≤ row.address)
    → nearest a ys ≡ Some row → ((best : Row) → best.address ≤ row.address → best_from a best ys ≡ row) → nearest a (y ∷ ys) ≡ Some row
first_by a row y ys true e below more go = ap (λ (rows : List Row). reduce greater rows) (filter_in a y ys e) ∙ ap (λ (x : Row). Some x) (go y (below (grind (arith, e))))
first_by a row y ys false e below more go = ap (λ (rows : List Row). reduce greater rows) (filter_out a y ys e) ∙ more

nearest_of : (a : ℕ) (row : Row) (before after : List Row) → row.address ≤ a → NotAbove a row before → Below a row after → nearest a (before ++ row ∷ after) ≡ Some row
nearest_of a row [] after r b c =
    let e : leb row.address a ≡ true = grind (arith, r) in
    ap (λ (rows : List Row). reduce greater rows) (filter_in a row after e) ∙ ap (λ (x : Row). Some x) (keeps a row after c)
nearest_of a row (y ∷ ys) after r b c = first_by a row y (ys ++ row ∷ after) (leb y.address a) refl b.0 (nearest_of a row ys after r b.1 c) (comes a row ys after r b.1 c)

-- The nearest row is what is computed.
pub nearest_is_computed : (a : ℕ) (rows : List Row) (row : Row) → IsNearest a rows row → nearest a rows ≡ Some row
nearest_is_computed a rows row n = ap (nearest a) n.parts ∙ nearest_of a row n.before n.after n.reached n.not_below n.above

-- ---- what is computed is the nearest row

-- the best row so far stays, or a later one comes
abbrev Best : ℕ → Row → List Row → Type 0
Best a best rows = Below a best rows ⊎ ((row : Row) × (best.address ≤ row.address) × IsNearest a rows row)

pub in_front : (a : ℕ) (y row : Row) (ys : List Row) → (y.address ≤ a → y.address ≤ row.address) → IsNearest a ys row → IsNearest a (y ∷ ys) row
in_front a y row ys h n = record { before = y ∷ n.before; after = n.after; parts = ap (λ (rows : List Row). y ∷ rows) n.parts; reached = n.reached; not_below = (h, n.not_below); above = n.above }

alone : (a : ℕ) (y : Row) (ys : List Row) → y.address ≤ a → Below a y ys → IsNearest a (y ∷ ys) y
alone a y ys h b = record { before = []; after = ys; parts = refl; reached = h; not_below = tt; above = b }

-- a row in front, and what is behind it
after_one : (a : ℕ) (y : Row) (ys : List Row) → y.address ≤ a → Best a y ys → (row : Row) × (y.address ≤ row.address) × IsNearest a (y ∷ ys) row
after_one a y ys h (inl b) = (y, omega arith, alone a y ys h b)
after_one a y ys h (inr n) = (n.0, n.1, in_front a y n.0 ys (λ _. n.1) n.2)

best_by : (a : ℕ) (best y : Row) (ys : List Row) (t s : Bool) → leb y.address a ≡ t → leb best.address y.address ≡ s → Best a best ys → Best a y ys → Best a best (y ∷ ys)
best_by a best y ys false s e f (inl b) other = inl ((λ h. absurd (grind (arith, e, h))), b)
best_by a best y ys false s e f (inr n) other = inr (n.0, n.1, in_front a y n.0 ys (λ h. absurd (grind (arith, e, h))) n.2)
best_by a best y ys true true e f old new = let n = after_one a y ys (grind (arith, e)) new in inr (n.0, (let h : best.address ≤ y.address = grind (arith, f) in omega (arith, h, n.1)), n.2)
best_by a best y ys true false e f (inl b) new = inl ((λ h. grind (arith, f)), b)
best_by a best y ys true false e f (inr n) new = inr (n.0, n.1, in_front a y n.0 ys (λ h. (let less : y.address < best.address = grind (arith, f) in omega (arith, less, n.1))) n.2)

best_of : (a : ℕ) (rows : List Row) (best : Row) → Best a best rows
best_of a [] best = inl tt
best_of a (y ∷ ys) best = best_by a best y ys (leb y.address a) (leb best.address y.address) refl refl (best_of a ys best) (best_of a ys y)

-- Some row is nearest, or none is reached.
abbrev Found : ℕ → List Row → Type 0
Found a rows = ((row : Row) × IsNearest a rows row) ⊎ AllByRecursion (λ (r : Row). r.address ≤ a → ⊥) rows

found_by : (a : ℕ) (y : Row) (ys : List Row) (t : Bool) → leb y.address a ≡ t → Best a y ys → Found a ys → Found a (y ∷ ys)
found_by a y ys true e best more = let n = after_one a y ys (grind (arith, e)) best in inl (n.0, n.2)
found_by a y ys false e best (inl n) = inl (n.0, in_front a y n.0 ys (λ h. absurd (grind (arith, e, h))) n.1)
found_by a y ys false e best (inr none) = inr ((λ h. grind (arith, e, h)), none)

pub nearest_found : (a : ℕ) (rows : List Row) → Found a rows
nearest_found a [] = inr tt
nearest_found a (y ∷ ys) = found_by a y ys (leb y.address a) refl (best_of a ys y) (nearest_found a ys)

-- ---- the first sequence

pub first_here : {A : Type 0} (test : A → Bool) (x : A) (xs : List A) → test x ≡ true → find test (x ∷ xs) ≡ Some x
first_here test x xs e = rw e refl

pub first_later : {A : Type 0} (test : A → Bool) (x : A) (xs : List A) → test x ≡ false → find test (x ∷ xs) ≡ find test xs
first_later test x xs e = rw e refl

find_first : {A : Type 0} (test : A → Bool) (before after : List A) (x : A) → AllByRecursion (λ y. test y ≡ false) before → test x ≡ true → find test (before ++ x ∷ after) ≡ Some x
find_first test [] after x none e = first_here test x after e
find_first test (y ∷ ys) after x none e = first_later test y (ys ++ x ∷ after) none.0 ∙ find_first test ys after x none.1 e

all_as : {A : Type 0} {P Q : A → Type 0} → ((x : A) → P x → Q x) → (xs : List A) → AllByRecursion P xs → AllByRecursion Q xs
all_as h [] all = tt
all_as h (x ∷ xs) all = (h x all.0, all_as h xs all.1)

-- The test is the fact.
pub holds_from_true : (a : ℕ) (rows : List Row) (last : ℕ) → HoldsFrom a rows last → holds_from a rows last ≡ true
holds_from_true a [] last h = absurd h
holds_from_true a (r ∷ rows) last h =
    let kept : eqb r.address 0 ≡ false = grind (arith, h.0.0) in
    let low : ltb r.address 0xfffffffe ≡ true = grind (arith, h.0.1) in
    let from : leb r.address a ≡ true = grind (arith, h.1) in
    let to : ltb a last ≡ true = grind (arith, h.2) in
    rw (kept, low, from, to) refl

holds_from_by : (a : ℕ) (r : Row) (rows : List Row) (last : ℕ) (s t u v : Bool) → eqb r.address 0 ≡ s → ltb r.address 0xfffffffe ≡ t → leb r.address a ≡ u → ltb a last ≡ v → (not s && (t && (u && v))) ≡ true → HoldsFrom a (r ∷ rows) last
holds_from_by a r rows last false true true true e f g h all = (((λ z. absurd (grind (arith, e, z))), grind (arith, f)), grind (arith, g), grind (arith, h))
holds_from_by a r rows last true t u v e f g h all = absurd cc
holds_from_by a r rows last false false u v e f g h all = absurd cc
holds_from_by a r rows last false true false v e f g h all = absurd cc
holds_from_by a r rows last false true true false e f g h all = absurd cc

pub holds_from_fact : (a : ℕ) (rows : List Row) (last : ℕ) → holds_from a rows last ≡ true → HoldsFrom a rows last
holds_from_fact a [] last e = absurd cc
holds_from_fact a (r ∷ rows) last e = holds_from_by a r rows last (eqb r.address 0) (ltb r.address 0xfffffffe) (leb r.address a) (ltb a last) refl refl refl refl e

not_held : (a : ℕ) (s : Sequence) (t : Bool) → holds a s ≡ t → (Holds a s → ⊥) → holds a s ≡ false
not_held a s true e h = absurd (h (holds_from_fact a s.rows s.«end» e))
not_held a s false e h = e

-- ---- the place

-- What is described is computed.
pub place_is_computed : (a : ℕ) (sequences : List Sequence) (row : Row) → IsPlace a sequences row → place a sequences ≡ Some row
unfolding place
place_is_computed a sequences row p =
    let none = all_as (λ (s : Sequence) h. not_held a s (holds a s) refl h) p.1.before p.1.none_before in
    let first : find (holds a) sequences ≡ Some p.0 = ap (find (holds a)) p.1.parts ∙ find_first (holds a) p.1.before p.1.after p.0 none (holds_from_true a p.0.rows p.0.«end» p.1.is) in
    rw (first, nearest_is_computed a p.0.rows row p.2) refl

-- The first that holds it is there, or none does.
abbrev Held : ℕ → List Sequence → Type 0
Held a sequences = ((s : Sequence) × IsFirst (Holds a) sequences s) ⊎ AllByRecursion (λ (s : Sequence). Holds a s → ⊥) sequences

held_by : (a : ℕ) (s : Sequence) (more : List Sequence) (t : Bool) → holds a s ≡ t → Held a more → Held a (s ∷ more)
held_by a s more true e rest = inl (s, record { before = []; after = more; parts = refl; none_before = tt; is = holds_from_fact a s.rows s.«end» e })
held_by a s more false e (inl f) = inl (f.0, record { before = s ∷ f.1.before; after = f.1.after; parts = ap (λ (xs : List Sequence). s ∷ xs) f.1.parts; none_before = ((λ h. (let yes : holds a s ≡ true = holds_from_true a s.rows s.«end» h in absurd cc)), f.1.none_before); is = f.1.is })
held_by a s more false e (inr none) = inr ((λ h. (let yes : holds a s ≡ true = holds_from_true a s.rows s.«end» h in absurd cc)), none)

held : (a : ℕ) (sequences : List Sequence) → Held a sequences
held a [] = inr tt
held a (s ∷ more) = held_by a s more (holds a s) refl (held a more)

-- A sequence that holds the address has a row that is reached.
reached_in : (a : ℕ) (rows : List Row) (last : ℕ) → HoldsFrom a rows last → Found a rows → (row : Row) × IsNearest a rows row
reached_in a rows last h (inl n) = n
reached_in a [] last h (inr none) = absurd h
reached_in a (r ∷ rows) last h (inr none) = absurd (none.0 h.1)

-- There is a place, or no sequence holds the address.
pub place_or_none : (a : ℕ) (sequences : List Sequence) → ((row : Row) × IsPlace a sequences row) ⊎ AllByRecursion (λ (s : Sequence). Holds a s → ⊥) sequences
place_or_none a sequences = by (held a sequences) where
  by : Held a sequences → ((row : Row) × IsPlace a sequences row) ⊎ AllByRecursion (λ (s : Sequence). Holds a s → ⊥) sequences
  by (inl f) = let n = reached_in a f.0.rows f.0.«end» f.1.is (nearest_found a f.0.rows) in inl (n.0, (f.0, f.1, n.1))
  by (inr none) = inr none

pub none_found : (a : ℕ) (sequences : List Sequence) → AllByRecursion (λ (s : Sequence). Holds a s → ⊥) sequences → find (holds a) sequences ≡ None
none_found a [] h = refl
none_found a (s ∷ more) h = first_later (holds a) s more (not_held a s (holds a s) refl h.0) ∙ none_found a more h.1

-- Where no sequence holds the address, none is computed.
pub no_place : (a : ℕ) (sequences : List Sequence) → AllByRecursion (λ (s : Sequence). Holds a s → ⊥) sequences → place a sequences ≡ None
unfolding place
no_place a sequences h = rw (none_found a sequences h) refl

-- What is computed is described.
pub place_is : (a : ℕ) (sequences : List Sequence) (found : Option Row) → found ≡ place a sequences → IsPlaceIfAny a sequences found
place_is a sequences found e = subst (IsPlaceIfAny a sequences) (sym e) (by (place_or_none a sequences)) where
  by : ((row : Row) × IsPlace a sequences row) ⊎ HoldsNone a sequences → IsPlaceIfAny a sequences (place a sequences)
  by (inl p) = subst (IsPlaceIfAny a sequences) (sym (place_is_computed a sequences p.0 p.1)) p.1
  by (inr none) = subst (IsPlaceIfAny a sequences) (sym (no_place a sequences none)) none
