-- The first element of a list that passes a test, by numbers.
use Rattle.std.proofs.Common.{◌≡◌, ℕ, suc, ◌+◌, ◌<◌, ◌≤◌, ℤ, Bool, true, false, ltb, cond, List, [], ◌∷◌, Option, Some, None, refl, ap, ◌∙◌, arith}
use Rattle.std.specs.Prelude.{find, slice_get, option_and_then, if◌then◌else◌}
use Rattle.std.specs.Option.{option_or}
use Rattle.std.specs.List.{position_from, list_any}
use Rattle.dwarf_scopes.specs.Ranges.{is_between}
use Rattle.dwarf_scopes.specs.calls.Steps.{first_in}
use Rattle.dwarf_scopes.specs.calls.Numbered.{with_number, ranges_from, is_within, numbers_from, passes, is_before, first_or}
use Rattle.dwarf_scopes.proofs.StepLaws.{first_in_append}

-- ---- bounds as ranges

first_step : (index a : ℕ) (b : ℕ × ℤ) (bs : List (ℕ × ℤ)) (t : Bool) → is_between b a ≡ t
    → first_in (with_number index bs) a ≡ cond (list_any (λ (b : ℕ × ℤ). is_between b a) bs) (Some index) None
    → first_in (with_number index (b ∷ bs)) a ≡ cond (list_any (λ (b : ℕ × ℤ). is_between b a) (b ∷ bs)) (Some index) None
first_step index a b bs true e h = rw e refl
first_step index a b bs false e h = rw e h

first_of_one : (index a : ℕ) (bs : List (ℕ × ℤ)) → first_in (with_number index bs) a ≡ cond (list_any (λ (b : ℕ × ℤ). is_between b a) bs) (Some index) None
first_of_one index a [] = refl
first_of_one index a (b ∷ bs) = first_step index a b bs (is_between b a) refl (first_of_one index a bs)

or_by : {A : Type 0} (t : Bool) (x : A) (o : Option A) → option_or (cond t (Some x) None) o ≡ cond t (Some x) o
or_by true x o = refl
or_by false x o = refl

-- The first range that holds the address is of the first element with bounds that do.
pub first_numbered : {A : Type 0} (bounds : A → List (ℕ × ℤ)) (a index : ℕ) (xs : List A) → first_in (ranges_from bounds index xs) a ≡ position_from (is_within bounds a) index xs
first_numbered bounds a index [] = refl
first_numbered bounds a index (x ∷ xs) =
    first_in_append (with_number index (bounds x)) (ranges_from bounds (index + 1) xs) a
    ∙ ap (λ (o : Option ℕ). option_or o (first_in (ranges_from bounds (index + 1) xs) a)) (first_of_one index a (bounds x))
    ∙ or_by (is_within bounds a x) index (first_in (ranges_from bounds (index + 1) xs) a)
    ∙ ap (λ (o : Option ℕ). cond (is_within bounds a x) (Some index) o) (first_numbered bounds a (index + 1) xs)

-- ---- those that are tested one after the other

-- What is found from a number on is not before it.
none_before : {A : Type 0} (test : A → Bool) (index from : ℕ) (xs : List A) → index ≤ from → is_before (position_from test from xs) index ≡ false
none_before test index from [] le = refl
none_before test index from (x ∷ xs) le = by (test x) (none_before test index (from + 1) xs (omega (arith, le))) where
  by : (t : Bool) → is_before (position_from test (from + 1) xs) index ≡ false → is_before (cond t (Some from) (position_from test (from + 1) xs)) index ≡ false
  by true later = grind (arith, le)
  by false later = later

-- A number before all of these counts.
pub least_first : {A : Type 0} (listed : A → Bool) (test : ℕ → Bool) (index from : ℕ) (xs : List A) → index < from → first_or test (Some index) (numbers_from listed from xs) ≡ Some index
least_first listed test index from [] lt = refl
least_first listed test index from (x ∷ xs) lt = by (listed x) (least_first listed test index (from + 1) xs (omega (arith, lt))) where
  before : ltb index from ≡ true
  before = grind (arith, lt)

  by : (t : Bool) → first_or test (Some index) (numbers_from listed (from + 1) xs) ≡ Some index
      → first_or test (Some index) (if t then from ∷ numbers_from listed (from + 1) xs else numbers_from listed (from + 1) xs) ≡ Some index
  by true later = rw before refl
  by false later = later

-- the same list from a place on
abbrev pub StandsAt : {A : Type 0} → List A → ℕ → List A → Type 0
StandsAt all index xs = (k : ℕ) → slice_get all (index + k) ≡ slice_get xs k

pub stands_behind : {A : Type 0} (all : List A) (index : ℕ) (x : A) (xs : List A) → StandsAt all index (x ∷ xs) → StandsAt all (index + 1) xs
stands_behind all index x xs h k = let same : index + 1 + k ≡ index + suc k = omega arith in rw same (h (suc k))

start_of : {A : Type 0} (p : A → Bool) (all : List A) (index : ℕ) (x : A) (xs : List A) → StandsAt all index (x ∷ xs) → passes p (slice_get all index) ≡ p x
start_of p all index x xs h =
    let there : slice_get all index ≡ Some x = (let same : index + 0 ≡ index = omega arith in rw same at (h 0)) in
    ap (passes p) there

listed_step : (test : ℕ → Bool) (named : Option ℕ) (index : ℕ) (more : List ℕ) (t : Bool) (o : Option ℕ) → is_before named index ≡ false → test index ≡ t → first_or test named more ≡ o
    → first_or test named (index ∷ more) ≡ cond t (Some index) o
listed_step test named index more t o before e h = rw (before, e) (ap (λ (r : Option ℕ). cond t (Some index) r) h)

found_step : {A : Type 0} (p q listed : A → Bool) (all : List A) (index : ℕ) (x : A) (xs : List A) (is_listed is_q : Bool) → listed x ≡ is_listed → q x ≡ is_q
    → ((y : A) → listed y ≡ false → p y ≡ q y) → ((y : A) → listed y ≡ true → q y ≡ false) → StandsAt all index (x ∷ xs)
    → first_or (λ i. passes p (slice_get all i)) (position_from q (index + 1) xs) (numbers_from listed (index + 1) xs) ≡ position_from p (index + 1) xs
    → first_or (λ i. passes p (slice_get all i)) (position_from q index (x ∷ xs)) (numbers_from listed index (x ∷ xs)) ≡ position_from p index (x ∷ xs)
found_step p q listed all index x xs true is_q e f same none h later =
    let test = (λ (i : ℕ). passes p (slice_get all i)) in
    let named : position_from q index (x ∷ xs) ≡ position_from q (index + 1) xs = ap (λ (b : Bool). cond b (Some index) (position_from q (index + 1) xs)) (none x e) in
    let numbers : numbers_from listed index (x ∷ xs) ≡ index ∷ numbers_from listed (index + 1) xs = rw e refl in
    ap (λ (o : Option ℕ). first_or test o (numbers_from listed index (x ∷ xs))) named
    ∙ ap (first_or test (position_from q (index + 1) xs)) numbers
    ∙ listed_step test (position_from q (index + 1) xs) index (numbers_from listed (index + 1) xs) (p x) (position_from p (index + 1) xs)
    (none_before q index (index + 1) xs (omega arith)) (start_of p all index x xs h) later
found_step p q listed all index x xs false true e f same none h later =
    let is_p : p x ≡ true = same x e ∙ f in
    rw (e, f, is_p) (least_first listed (λ i. passes p (slice_get all i)) index (index + 1) xs (omega arith))
found_step p q listed all index x xs false false e f same none h later =
    let not_p : p x ≡ false = same x e ∙ f in
    rw (e, f, not_p) later

found_from : {A : Type 0} (p q listed : A → Bool) (all : List A) (index : ℕ) (xs : List A)
    → ((y : A) → listed y ≡ false → p y ≡ q y) → ((y : A) → listed y ≡ true → q y ≡ false) → StandsAt all index xs
    → first_or (λ i. passes p (slice_get all i)) (position_from q index xs) (numbers_from listed index xs) ≡ position_from p index xs
found_from p q listed all index [] same none h = refl
found_from p q listed all index (x ∷ xs) same none h =
    found_step p q listed all index x xs (listed x) (q x) refl refl same none h (found_from p q listed all (index + 1) xs same none (stands_behind all index x xs h))

at_position : {A : Type 0} (p : A → Bool) (all : List A) (index : ℕ) (xs : List A) → StandsAt all index xs → option_and_then (slice_get all) (position_from p index xs) ≡ find p xs
at_position p all index [] h = refl
at_position p all index (x ∷ xs) h = by (p x) (at_position p all (index + 1) xs (stands_behind all index x xs h)) where
  there : slice_get all index ≡ Some x
  there = let same : index + 0 ≡ index = omega arith in rw same at (h 0)

  by : (t : Bool) → option_and_then (slice_get all) (position_from p (index + 1) xs) ≡ find p xs
      → option_and_then (slice_get all) (cond t (Some index) (position_from p (index + 1) xs)) ≡ (if t then Some x else find p xs)
  by true later = there
  by false later = later

-- Where those that are not listed pass if and only if q does, and the listed ones never pass q, both together give the first.
pub found_first : {A : Type 0} (p q listed : A → Bool) (all : List A) → ((y : A) → listed y ≡ false → p y ≡ q y) → ((y : A) → listed y ≡ true → q y ≡ false)
    → option_and_then (slice_get all) (first_or (λ i. passes p (slice_get all i)) (position_from q 0 all) (numbers_from listed 0 all)) ≡ find p all
found_first p q listed all same none =
    let here : StandsAt all 0 all = (λ k. (let first : 0 + k ≡ k = omega arith in ap (slice_get all) first)) in
    ap (option_and_then (slice_get all)) (found_from p q listed all 0 all same none here) ∙ at_position p all 0 all here
