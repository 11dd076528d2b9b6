-- Among ascending values the last one that is reached stands in front of the first that is not.
use Rattle.std.proofs.Common.{◌≡◌, ℕ, zero, suc, ◌-◌, ◌<◌, ◌≤◌, Bool, true, false, leb, List, [], ◌∷◌, length, get_or, Option, Some, None, refl, sym, ap, subst, ◌∙◌, arith, ◌≢◌}
use Rattle.std.specs.Prelude.{filter, fold}
use Rattle.std.specs.Option.{option_or}
use Rattle.std.specs.List.{reduce}
use Rattle.std.specs.List.Sorted.{IsNonDecreasingBy, IsPartitionPoint}
use Rattle.dwarf_line.specs.declared.lines.Row.{Row}
use Rattle.dwarf_line.specs.Place.{greater, nearest}
use Rattle.dwarf_line.specs.inner.Halving.{ascends_from, last_reached}
use Rattle.dwarf_line.proofs.PlaceLaws.{reached, filter_in, filter_out, greater_second, best_from, on_in, on_out}
use Rattle.std.proofs.lemmas.Bool.{and_parts}

-- ---- ascending values

pub ascends_at : {X : Type 0} (n : X → ℕ) (xs : List X) (low : ℕ) → ascends_from n low xs ≡ true → (j : ℕ) (d : X) → j < length xs → low ≤ n (get_or xs j d)
ascends_at n [] low e j d h = absurd (omega (arith, h))
ascends_at n (x ∷ xs) low e zero d h = let two = and_parts (leb low (n x)) (ascends_from n (n x) xs) e in grind (arith, two.0)
ascends_at n (x ∷ xs) low e (suc j) d h =
    let two = and_parts (leb low (n x)) (ascends_from n (n x) xs) e in
    let first : low ≤ n x = grind (arith, two.0) in
    let later : n x ≤ n (get_or xs j d) = ascends_at n xs (n x) two.1 j d (omega (arith, h)) in
    omega (arith, first, later)

pub ascends_all : {X : Type 0} (n : X → ℕ) (xs : List X) (low : ℕ) → ascends_from n low xs ≡ true → IsNonDecreasingBy n xs
ascends_all n [] low e i j d up h = absurd (omega (arith, h))
ascends_all n (x ∷ xs) low e zero zero d up h = omega arith
ascends_all n (x ∷ xs) low e zero (suc j) d up h = let two = and_parts (leb low (n x)) (ascends_from n (n x) xs) e in ascends_at n xs (n x) two.1 j d (omega (arith, h))
ascends_all n (x ∷ xs) low e (suc i) zero d up h = absurd (omega (arith, up))
ascends_all n (x ∷ xs) low e (suc i) (suc j) d up h = let two = and_parts (leb low (n x)) (ascends_from n (n x) xs) e in ascends_all n xs (n x) two.1 i j d (omega (arith, up)) (omega (arith, h))

-- ---- the last one that is reached

pub reach_first : {X : Type 0} (n : X → ℕ) (a : ℕ) (x : X) (xs : List X) → leb (n x) a ≡ true → last_reached n a (x ∷ xs) ≡ option_or (last_reached n a xs) (Some x)
reach_first n a x xs e = rw e refl

pub reach_none : {X : Type 0} (n : X → ℕ) (a : ℕ) (x : X) (xs : List X) → leb (n x) a ≡ false → last_reached n a (x ∷ xs) ≡ None
reach_none n a x xs e = rw e refl

abbrev pub IsPoint : {X : Type 0} → (X → ℕ) → ℕ → List X → ℕ → Type 0
IsPoint n a xs i = IsPartitionPoint (λ x. leb (n x) a ≡ true) (λ x. leb (n x) a ≡ false) xs i

-- the same point without the first value
behind_first : {X : Type 0} (n : X → ℕ) (a : ℕ) (x : X) (xs : List X) (i : ℕ) → IsPoint n a (x ∷ xs) (suc i) → IsPoint n a xs i
behind_first n a x xs i p = ((λ k d low high. p.0 (suc k) d (omega arith) (omega (arith, high))), (λ k d low high. p.1 (suc k) d (omega (arith, low)) (omega (arith, high))))

pub none_reached : {X : Type 0} (n : X → ℕ) (a : ℕ) (xs : List X) → IsPoint n a xs 0 → last_reached n a xs ≡ None
none_reached n a [] p = refl
none_reached n a (x ∷ xs) p = reach_none n a x xs (p.1 0 x (omega arith) (omega arith))

reached_behind : {X : Type 0} (n : X → ℕ) (a : ℕ) (xs : List X) (i : ℕ) (d : X) → IsPoint n a xs (suc i) → i < length xs → last_reached n a xs ≡ Some (get_or xs i d)
reached_behind n a [] i d p h = absurd (omega (arith, h))
reached_behind n a (x ∷ xs) zero d p h =
    reach_first n a x xs (p.0 0 x (omega arith) (omega arith)) ∙ ap (λ o. option_or o (Some x)) (none_reached n a xs (behind_first n a x xs 0 p))
reached_behind n a (x ∷ xs) (suc i) d p h =
    reach_first n a x xs (p.0 0 x (omega arith) (omega arith)) ∙ ap (λ o. option_or o (Some x)) (reached_behind n a xs i d (behind_first n a x xs (suc i) p) (omega (arith, h)))

pub reached_at : {X : Type 0} (n : X → ℕ) (a : ℕ) (xs : List X) (i : ℕ) (d : X) → IsPoint n a xs i → i ≢ 0 → i ≤ length xs → last_reached n a xs ≡ Some (get_or xs (i - 1) d)
reached_at n a xs i d p some h =
    let one : suc (i - 1) ≡ i = omega (arith, some) in
    reached_behind n a xs (i - 1) d (subst (λ (k : ℕ). IsPoint n a xs k) (sym one) p) (omega (arith, some, h))

-- ---- rows whose addresses ascend

abbrev pub address_of : Row → ℕ
address_of r = r.address

-- Past a row that is not reached none is.
none_later : (a : ℕ) (rows : List Row) (low : ℕ) → a < low → ascends_from address_of low rows ≡ true → filter (reached a) rows ≡ []
none_later a [] low h e = refl
none_later a (y ∷ ys) low h e =
    let two = and_parts (leb low y.address) (ascends_from address_of y.address ys) e in
    let first : low ≤ y.address = grind (arith, two.0) in
    let past : leb y.address a ≡ false = grind (arith, first, h) in
    filter_out a y ys past ∙ none_later a ys y.address (omega (arith, first, h)) two.1

or_some : (r y : Row) (o : Option Row) → option_or (option_or o (Some y)) (Some r) ≡ option_or o (Some y)
or_some r y None = refl
or_some r y (Some x) = refl

best_by : (a : ℕ) (r y : Row) (ys : List Row) (t : Bool) → leb y.address a ≡ t → r.address ≤ y.address → ascends_from address_of y.address ys ≡ true
    → Some (best_from a y ys) ≡ option_or (last_reached address_of a ys) (Some y) → Some (best_from a r (y ∷ ys)) ≡ option_or (last_reached address_of a (y ∷ ys)) (Some r)
best_by a r y ys true e h up more =
    ap (λ (x : Row). Some x) (on_in a r y ys e ∙ ap (λ (b : Row). best_from a b ys) (greater_second r y h)) ∙ more
    ∙ sym (ap (λ (o : Option Row). option_or o (Some r)) (reach_first address_of a y ys e) ∙ or_some r y (last_reached address_of a ys))
best_by a r y ys false e h up more =
    let past : a < y.address = grind (arith, e) in
    let left : best_from a r (y ∷ ys) ≡ r = on_out a r y ys e ∙ ap (λ (rows : List Row). fold greater r rows) (none_later a ys y.address past up) in
    ap (λ (x : Row). Some x) left ∙ sym (ap (λ (o : Option Row). option_or o (Some r)) (reach_none address_of a y ys e))

best_last : (a : ℕ) (r : Row) (rows : List Row) → ascends_from address_of r.address rows ≡ true → Some (best_from a r rows) ≡ option_or (last_reached address_of a rows) (Some r)
best_last a r [] e = refl
best_last a r (y ∷ ys) e =
    let two = and_parts (leb r.address y.address) (ascends_from address_of y.address ys) e in
    best_by a r y ys (leb y.address a) refl (grind (arith, two.0)) two.1 (best_last a y ys two.1)

nearest_by : (a : ℕ) (r : Row) (rows : List Row) (t : Bool) → leb r.address a ≡ t → ascends_from address_of r.address rows ≡ true → nearest a (r ∷ rows) ≡ last_reached address_of a (r ∷ rows)
nearest_by a r rows true e up = ap (λ (xs : List Row). reduce greater xs) (filter_in a r rows e) ∙ best_last a r rows up ∙ sym (reach_first address_of a r rows e)
nearest_by a r rows false e up =
    let past : a < r.address = grind (arith, e) in
    ap (λ (xs : List Row). reduce greater xs) (filter_out a r rows e ∙ none_later a rows r.address past up) ∙ sym (reach_none address_of a r rows e)

-- The nearest row is the last one that is reached.
pub nearest_last : (a : ℕ) (rows : List Row) → ascends_from address_of 0 rows ≡ true → nearest a rows ≡ last_reached address_of a rows
nearest_last a [] e = refl
nearest_last a (r ∷ rows) e = let two = and_parts (leb 0 r.address) (ascends_from address_of r.address rows) e in nearest_by a r rows (leb r.address a) refl two.1
