-- Entries with their places: one more behind the others, and the first with an offset, where offsets ascend.
use Rattle.std.proofs.Common.{◌≡◌, ℕ, zero, suc, ◌<◌, ◌≤◌, Bool, true, false, leb, ltb, List, [], ◌∷◌, ◌++◌, length, get_or, Option, Some, None, refl, sym, ◌∙◌, arith}
use Rattle.std.specs.Prelude.{◌==◌, find, slice_get, option_map, if◌then◌else◌}
use Rattle.std.specs.Option.{option_or}
use Rattle.std.specs.List.Sorted.{IsNonDecreasingBy, IsPartitionPoint}
use Rattle.std.proofs.lemmas.Bool.{and_parts}
use Rattle.dwarf_info.specs.declared.places.EntryPlace.{EntryPlace}
use Rattle.dwarf_info.specs.declared.places.PlacedEntry.{PlacedEntry}
use Rattle.dwarf_info.specs.inner.Settling.{placed, placed_by, place_of}
use Rattle.dwarf_info.specs.inner.Ascending.{ascends_from}

-- ---- one more

last_by : (e : PlacedEntry) (b : Bool) → option_map place_of (if b then Some e else None) ≡ (if b then Some (place_of e) else None)
last_by e true = refl
last_by e false = refl

more_by : (e : PlacedEntry) (b : Bool) (before after : Option PlacedEntry) (last : Option EntryPlace)
    → option_map place_of after ≡ option_or (option_map place_of before) last
    → option_map place_of (if b then Some e else after) ≡ option_or (option_map place_of (if b then Some e else before)) last
more_by e true before after last h = refl
more_by e false before after last h = h

pub placed_more : (es : List PlacedEntry) (e : PlacedEntry) (q : ℕ) → placed (es ++ e ∷ []) q ≡ option_or (placed es q) (if e.at == q then Some (place_of e) else None)
placed_more [] e q = last_by e (e.at == q)
placed_more (x ∷ xs) e q =
    more_by x (x.at == q) (find (λ (y : PlacedEntry). y.at == q) xs) (find (λ (y : PlacedEntry). y.at == q) (xs ++ e ∷ [])) (if e.at == q then Some (place_of e) else None) (placed_more xs e q)

-- ---- ascending offsets

abbrev pub at_of : PlacedEntry → ℕ
at_of e = e.at

ascends_at : (es : List PlacedEntry) (low : ℕ) → ascends_from low es ≡ true → (j : ℕ) (d : PlacedEntry) → j < length es → low ≤ at_of (get_or es j d)
ascends_at [] low up j d h = absurd (omega (arith, h))
ascends_at (x ∷ xs) low up zero d h = let two = and_parts (leb low x.at) (ascends_from x.at xs) up in grind (arith, two.0)
ascends_at (x ∷ xs) low up (suc j) d h =
    let two = and_parts (leb low x.at) (ascends_from x.at xs) up in
    let first : low ≤ x.at = grind (arith, two.0) in
    let later : x.at ≤ at_of (get_or xs j d) = ascends_at xs x.at two.1 j d (omega (arith, h)) in
    omega (arith, first, later)

pub ascends_all : (es : List PlacedEntry) (low : ℕ) → ascends_from low es ≡ true → IsNonDecreasingBy at_of es
ascends_all [] low up i j d le h = absurd (omega (arith, h))
ascends_all (x ∷ xs) low up zero zero d le h = omega arith
ascends_all (x ∷ xs) low up zero (suc j) d le h = let two = and_parts (leb low x.at) (ascends_from x.at xs) up in ascends_at xs x.at two.1 j d (omega (arith, h))
ascends_all (x ∷ xs) low up (suc i) zero d le h = absurd (omega (arith, le))
ascends_all (x ∷ xs) low up (suc i) (suc j) d le h = let two = and_parts (leb low x.at) (ascends_from x.at xs) up in ascends_all xs x.at two.1 i j d (omega (arith, le)) (omega (arith, h))

-- ---- the first with an offset

passed : (e : PlacedEntry) (es : List PlacedEntry) (q : ℕ) → (e.at == q) ≡ false → placed (e ∷ es) q ≡ placed es q
passed e es q other = rw other refl

none_above : (es : List PlacedEntry) (low q : ℕ) → ascends_from low es ≡ true → q < low → placed es q ≡ None
none_above [] low q up less = refl
none_above (x ∷ xs) low q up less =
    let two = and_parts (leb low x.at) (ascends_from x.at xs) up in
    let above : q < x.at = grind (arith, less, two.0) in
    let other : (x.at == q) ≡ false = grind (arith, above) in
    passed x xs q other ∙ none_above xs x.at q two.1 above

abbrev pub IsPoint : ℕ → List PlacedEntry → ℕ → Type 0
IsPoint q es i = IsPartitionPoint (λ e. ltb (at_of e) q ≡ true) (λ e. ltb (at_of e) q ≡ false) es i

at_front : (x : PlacedEntry) (xs : List PlacedEntry) (q : ℕ) (b : Bool) → (x.at == q) ≡ b → ascends_from x.at xs ≡ true → ltb x.at q ≡ false → placed (x ∷ xs) q ≡ placed_by q (Some x)
at_front x xs q true is up reached = rw is refl
at_front x xs q false is up reached =
    let above : q < x.at = grind (arith, is, reached) in
    let by : placed_by q (Some x) ≡ None = rw is refl in
    passed x xs q is ∙ none_above xs x.at q up above ∙ sym by

pub found_at : (es : List PlacedEntry) (low q i : ℕ) → ascends_from low es ≡ true → IsPoint q es i → placed es q ≡ placed_by q (slice_get es i)
found_at [] low q i up p = refl
found_at (x ∷ xs) low q zero up p =
    let two = and_parts (leb low x.at) (ascends_from x.at xs) up in
    at_front x xs q (x.at == q) refl two.1 (p.1 0 x (omega arith) (omega arith))
found_at (x ∷ xs) low q (suc i) up p =
    let two = and_parts (leb low x.at) (ascends_from x.at xs) up in
    let before : ltb x.at q ≡ true = p.0 0 x (omega arith) (omega arith) in
    let other : (x.at == q) ≡ false = grind (arith, before) in
    let behind : IsPoint q xs i = ((λ k d low high. p.0 (suc k) d (omega arith) (omega (arith, high))), (λ k d low high. p.1 (suc k) d (omega (arith, low)) (omega (arith, high)))) in
    passed x xs q other ∙ found_at xs x.at q i two.1 behind
