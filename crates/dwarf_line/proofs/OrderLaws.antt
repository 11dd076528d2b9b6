-- In an order of rows by their addresses, the last number that is reached is that of the nearest row.
use Rattle.std.proofs.Common.{◌≡◌, ℕ, zero, suc, ◌+◌, ◌-◌, ◌<◌, ◌≤◌, ◌⊎◌, true, false, leb, List, [], ◌∷◌, ◌++◌, length, get_or, Some, None, refl, sym, ap, subst, ◌∙◌, inl, inr, arith}
use Rattle.std.specs.Prelude.{filter, slice_get}
use Rattle.std.specs.List.{All, AllByRecursion, reduce}
use Rattle.std.specs.List.Sorted.{IsNonDecreasingBy, IsPermutation, IsSortedByKey}
use Rattle.std.specs.Cmp.{IsTotalOrder}
use Rattle.std.specs.Ordering.{MatchOrdering, nat_cmp, ordering_then, is_lt}
use Rattle.std.specs.declared.cmp.Ordering.{Ordering}
use Rattle.std.specs.declared.cmp.Ordering.TheVariants.{Less, Equal, Greater}
use Rattle.std.proofs.lemmas.Bool.{cases_lt}
use Rattle.std.proofs.lemmas.Cmp.{ranked, nat_cmp_total, on_total, then_total}
use Rattle.std.proofs.lemmas.List.{append_assoc}
use Rattle.std.proofs.lemmas.List.Elements.{All-from_get_or}
use Rattle.std.proofs.lemmas.List.Sorted.{All-permutation, IsPermutation-sym, ranks_by, sorted_far}
use Rattle.std.proofs.lemmas.Option.{slice_get-get_or, slice_get_within}
use Rattle.dwarf_line.specs.declared.lines.Row.{Row}
use Rattle.dwarf_line.specs.Place.{IsNearest, greater, nearest}
use Rattle.dwarf_line.specs.Rows.{first_registers}
use Rattle.dwarf_line.specs.inner.Order.{address_if, address_at, numbers_from, place_at, by_place, IsOrder, Serves}
use Rattle.dwarf_line.proofs.HalvingLaws.{IsPoint}
use Rattle.dwarf_line.proofs.PlaceLaws.{filter_out, in_front, nearest_is_computed, reached}

-- ---- numbers

count_of : (i more : ℕ) → length (numbers_from i more) ≡ more
count_of i zero = refl
count_of i (suc more) = ap suc (count_of (suc i) more)

number_at : (i more j d : ℕ) → j < more → get_or (numbers_from i more) j d ≡ i + j
number_at i zero j d h = absurd (omega (arith, h))
number_at i (suc more) zero d h = omega arith
number_at i (suc more) (suc j) d h = number_at (suc i) more j d (omega (arith, h)) ∙ omega arith

nth : (more j d : ℕ) → j < more → get_or (numbers_from 0 more) j d ≡ j
nth more j d h = number_at 0 more j d h ∙ omega arith

-- one more number behind others
pub numbers_on : (xs : List ℕ) (i count : ℕ) → i < count → xs ++ numbers_from i (count - i) ≡ (xs ++ i ∷ []) ++ numbers_from (i + 1) (count - (i + 1))
numbers_on xs i count h =
    let more : count - i ≡ suc (count - (i + 1)) = omega (arith, h) in
    let next : suc i ≡ i + 1 = omega arith in
    ap (λ n. xs ++ numbers_from i n) more ∙ ap (λ n. xs ++ (i ∷ numbers_from n (count - (i + 1)))) next ∙ sym (append_assoc xs (i ∷ []) (numbers_from (i + 1) (count - (i + 1))))

-- what is so of each number in an order is so of each row's
at_each : (P : ℕ → Type 0) (rows : List Row) (order : List ℕ) → IsPermutation (numbers_from 0 (length rows)) order → All P order → (j : ℕ) → j < length rows → P j
at_each P rows order moved all j h =
    let own : All P (numbers_from 0 (length rows)) = All-permutation P order (numbers_from 0 (length rows)) (IsPermutation-sym (numbers_from 0 (length rows)) order moved) all in
    let within : j < length (numbers_from 0 (length rows)) = omega (arith, h, count_of 0 (length rows)) in
    subst P (nth (length rows) j 0 h) (own j 0 within)

-- ---- the order

-- A place is not past another one.
abbrev NotPast : ℕ → ℕ → ℕ → ℕ → Type 0
NotPast a i b j = (a < b) ⊎ ((a ≡ b) × (i ≤ j))

not_past : (p q : ℕ × ℕ) → is_lt (by_place q p) ≡ false → NotPast p.0 p.1 q.0 q.1
not_past p q = by (nat_cmp q.0 p.0) (nat_cmp q.1 p.1) (ranked q.0 p.0 (nat_cmp q.0 p.0) refl) (ranked q.1 p.1 (nat_cmp q.1 p.1) refl) where
  by : (o u : Ordering) → MatchOrdering o (q.0 < p.0) (q.0 ≡ p.0) (p.0 < q.0) → MatchOrdering u (q.1 < p.1) (q.1 ≡ p.1) (p.1 < q.1) → is_lt (ordering_then o u) ≡ false → NotPast p.0 p.1 q.0 q.1
  by Less u f g e = absurd cc
  by Greater u f g e = inl f
  by Equal Less f g e = absurd cc
  by Equal Equal f g e = inr (sym f, omega (arith, g))
  by Equal Greater f g e = inr (sym f, omega (arith, g))

is_total : IsTotalOrder by_place
is_total = then_total (on_total (λ (p : ℕ × ℕ). p.0) nat_cmp_total) (on_total (λ (p : ℕ × ℕ). p.1) nat_cmp_total)

in_turn : (rows : List Row) (order : List ℕ) → IsSortedByKey (place_at rows) by_place order → (i j d : ℕ) → i ≤ j → j < length order
    → NotPast (address_at rows (get_or order i d)) (get_or order i d) (address_at rows (get_or order j d)) (get_or order j d)
in_turn rows order sorted i j d up h = not_past _ _ (sorted_far (λ m n. is_lt (by_place (place_at rows m) (place_at rows n))) (ranks_by is_total (place_at rows)) order sorted i j d up h)

pub order_rises : (rows : List Row) (order : List ℕ) → IsOrder order rows → IsNonDecreasingBy (address_at rows) order
order_rises rows order o i j d up h = elim (in_turn rows order o.1 i j d up h) [
  | inl less ↦ omega (arith, less)
  | inr same ↦ omega (arith, same.0)
]

-- ---- the nearest row

all_of : (P : Row → Type 0) (rows : List Row) → ((j : ℕ) (r : Row) → slice_get rows j ≡ Some r → P r) → AllByRecursion P rows
all_of P [] h = tt
all_of P (x ∷ rows) h = (h 0 x refl, all_of P rows (λ j r at. h (suc j) r at))

-- No reached row is past it.
abbrev IsBest : ℕ → List Row → ℕ → Row → Type 0
IsBest a rows k row = (j : ℕ) (r : Row) → slice_get rows j ≡ Some r → r.address ≤ a → NotPast r.address j row.address k

later : (a b j : ℕ) → NotPast a (suc j) b 0 → a < b
later a b j (inl less) = less
later a b j (inr same) = absurd (omega (arith, same.1))

earlier : (a b i j : ℕ) → NotPast a i b j → a ≤ b
earlier a b i j (inl less) = omega (arith, less)
earlier a b i j (inr same) = omega (arith, same.0)

behind : (a b i j : ℕ) → NotPast a (suc i) b (suc j) → NotPast a i b j
behind a b i j (inl less) = inl less
behind a b i j (inr same) = inr (same.0, omega (arith, same.1))

best_is_nearest : (a : ℕ) (rows : List Row) (k : ℕ) (row : Row) → slice_get rows k ≡ Some row → row.address ≤ a → IsBest a rows k row → IsNearest a rows row
best_is_nearest a [] k row there near best = absurd cc
best_is_nearest a (x ∷ rows) zero row there near best =
    let same : x ≡ row = cc in
    let above = all_of (λ (r : Row). r.address ≤ a → r.address < row.address) rows (λ j r at low. later r.address row.address j (best (suc j) r at low)) in
    record { before = []; after = rows; parts = ap (λ (r : Row). r ∷ rows) same; reached = near; not_below = tt; above = above }
best_is_nearest a (x ∷ rows) (suc k) row there near best =
    in_front a x row rows (λ low. earlier x.address row.address 0 (suc k) (best 0 x refl low)) (best_is_nearest a rows k row there near (λ j r at low. behind r.address row.address j k (best (suc j) r at low)))

none_near : (a : ℕ) (rows : List Row) → AllByRecursion (λ (r : Row). r.address ≤ a → ⊥) rows → filter (reached a) rows ≡ []
none_near a [] h = refl
none_near a (x ∷ rows) h = (let past : leb x.address a ≡ false = grind (arith, h.0) in filter_out a x rows past) ∙ none_near a rows h.1

-- ---- by halving

address_there : (rows : List Row) (j : ℕ) (r : Row) → slice_get rows j ≡ Some r → address_at rows j ≡ r.address
address_there rows j r at = ap address_if at

-- Where none is reached, none is nearest.
pub none_in_order : (a : ℕ) (rows : List Row) (order : List ℕ) → IsOrder order rows → IsPoint (address_at rows) a order 0 → nearest a rows ≡ None
none_in_order a rows order o point =
    let past : All (λ j. leb (address_at rows j) a ≡ false) order = λ j d h. point.1 j d (omega arith) h in
    let each = at_each (λ j. leb (address_at rows j) a ≡ false) rows order o.0 past in
    let none = all_of (λ (r : Row). r.address ≤ a → ⊥) rows (λ j r at low. (let no : leb (address_at rows j) a ≡ false = each j (slice_get_within rows j r at) in grind (arith, no, address_there rows j r at, low))) in
    ap (reduce greater) (none_near a rows none)

-- If its row is reached, it is not past that of the number k.
abbrev UpTo : ℕ → List Row → ℕ → ℕ → Type 0
UpTo a rows k j = address_at rows j ≤ a → NotPast (address_at rows j) j (address_at rows k) k

best_in_order : (a : ℕ) (rows : List Row) (order : List ℕ) (i d : ℕ) → IsOrder order rows → IsPoint (address_at rows) a order (suc i) → i < length order → (j : ℕ) → j < length rows → UpTo a rows (get_or order i d) j
best_in_order a rows order i d o point inside = at_each (UpTo a rows (get_or order i d)) rows order o.0 (All-from_get_or (UpTo a rows (get_or order i d)) order d each) where
  by : (n : ℕ) → n < length order → address_at rows (get_or order n d) ≤ a → (i < n) ⊎ (n ≤ i) → NotPast (address_at rows (get_or order n d)) (get_or order n d) (address_at rows (get_or order i d)) (get_or order i d)
  by n h near (inl past) = absurd (let no : leb (address_at rows (get_or order n d)) a ≡ false = point.1 n d (omega (arith, past)) h in grind (arith, no, near))
  by n h near (inr up) = in_turn rows order o.1 n i d up inside

  each : (n : ℕ) → n < length order → UpTo a rows (get_or order i d) (get_or order n d)
  each n h near = by n h near (cases_lt i n)

-- The row of the last number that is reached is the nearest one.
pub nearest_in_order : (a : ℕ) (rows : List Row) (order : List ℕ) (i d : ℕ) → IsOrder order rows → IsPoint (address_at rows) a order (suc i) → i < length order → nearest a rows ≡ slice_get rows (get_or order i d)
nearest_in_order a rows order i d o point inside =
    let k = get_or order i d in
    let numbered : All (λ j. j < length rows) (numbers_from 0 (length rows)) = λ j e h. (let own : j < length rows = omega (arith, h, count_of 0 (length rows)) in subst (λ n. n < length rows) (sym (nth (length rows) j e own)) own) in
    let within : k < length rows = All-permutation (λ j. j < length rows) (numbers_from 0 (length rows)) order o.0 numbered i d inside in
    let row : Row = get_or rows k first_registers in
    let there : slice_get rows k ≡ Some row = slice_get-get_or rows k first_registers within in
    let yes : leb (address_at rows k) a ≡ true = point.0 i d (omega arith) (omega arith) in
    let near : row.address ≤ a = grind (arith, yes, address_there rows k row there) in
    let best : IsBest a rows k row = λ j r at low.
    subst (λ n. NotPast r.address j n k) (address_there rows k row there)
    (subst (λ n. NotPast n j (address_at rows k) k) (address_there rows j r at) (best_in_order a rows order i d o point inside j (slice_get_within rows j r at) (subst (λ n. n ≤ a) (sym (address_there rows j r at)) low))) in
    nearest_is_computed a rows row (best_is_nearest a rows k row there near best) ∙ sym there

pub order_serves : (order : List ℕ) (rows : List Row) → IsOrder order rows → Serves false order rows
order_serves [] rows is = tt
order_serves (number ∷ order) rows is = is
