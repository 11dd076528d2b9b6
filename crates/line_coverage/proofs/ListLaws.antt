-- Lines that are listed in their order.
use Rattle.std.proofs.Common.{◌≡◌, ℕ, ◌+◌, ◌<◌, Bool, true, false, cond, eqb, ltb, List, [], ◌∷◌, Option, Some, refl, sym, ap, subst, ◌∙◌, arith}
use Rattle.std.specs.Prelude.{◌&&◌, map, is_none, nat_lt, ◌==◌}
use Rattle.std.specs.List.{AllByRecursion}
use Rattle.std.specs.List.Sorted.{IsStrictlySortedBy}
use Rattle.std.specs.Map.{keys_of, values_of}
use Rattle.std.specs.declared.cmp.Ordering.{Ordering}
use Rattle.std.specs.declared.cmp.Ordering.TheVariants.{Less, Equal, Greater}
use Rattle.std.specs.Ordering.{nat_cmp, ordering_then, is_lt}
use Rattle.std.proofs.lemmas.Map.Keys.{sorted_head, sorted_tail}
use Rattle.std.proofs.lemmas.List.Elements.{recursion_from_All}
use Rattle.line_coverage.specs.declared.spots.Spot.{Spot}
use Rattle.line_coverage.specs.declared.spots.LineCount.{LineCount}
use Rattle.line_coverage.specs.calls.Spots.{is_spot, is_before, Ascend, steps_on, lines_sum}
use Rattle.line_coverage.specs.Covers.{is_on}
use Rattle.line_coverage.specs.inner.Sums.{spots_sum, Positive}
use Rattle.line_coverage.specs.inner.Order.{spot_cmp, line_of}
use Rattle.line_coverage.proofs.SpotLaws.{same_spot}

-- ---- the order

then_lt : (x y : ℕ) (r : Ordering) → is_lt (ordering_then (nat_cmp x y) r) ≡ cond (nat_lt x y) true ((x == y) && is_lt r)
then_lt x y r = by (ltb x y) (eqb x y) refl refl where
  by : (a b : Bool) → ltb x y ≡ a → eqb x y ≡ b → is_lt (ordering_then (cond a Less (cond b Equal Greater)) r) ≡ cond a true (b && is_lt r)
  by true b e f = refl
  by false true e f = refl
  by false false e f = refl

last_lt : (x y : ℕ) → is_lt (nat_cmp x y) ≡ nat_lt x y
last_lt x y = by (ltb x y) (eqb x y) where
  by : (a b : Bool) → is_lt (cond a Less (cond b Equal Greater)) ≡ a
  by true b = refl
  by false true = refl
  by false false = refl

before_is : (a b : Spot) → is_lt (spot_cmp a b) ≡ is_before a b
before_is a b =
    then_lt a.table b.table (ordering_then (nat_cmp a.file b.file) (nat_cmp a.line b.line))
    ∙ ap (λ t. cond (nat_lt a.table b.table) true ((a.table == b.table) && t)) (then_lt a.file b.file (nat_cmp a.line b.line) ∙ ap (λ t. cond (nat_lt a.file b.file) true ((a.file == b.file) && t)) (last_lt a.line b.line))

less_before : (a b : Spot) → spot_cmp a b ≡ Less → is_before a b ≡ true
less_before a b e = sym (before_is a b) ∙ ap is_lt e

not_below : (x : ℕ) → nat_lt x x ≡ false
not_below x = by (nat_lt x x) refl where
  by : (b : Bool) → nat_lt x x ≡ b → nat_lt x x ≡ false
  by true e = absurd (grind (arith, e))
  by false e = e

not_before : (a : Spot) → is_before a a ≡ true → ⊥
not_before a h = by (nat_lt a.table a.table) (nat_lt a.file a.file) (nat_lt a.line a.line) (a.table == a.table) (a.file == a.file) (not_below a.table) (not_below a.file) (not_below a.line) h where
  by : (x y z e f : Bool) → x ≡ false → y ≡ false → z ≡ false → cond x true (e && cond y true (f && z)) ≡ true → ⊥
  by x y z true true p q r h = absurd (cc)
  by x y z true false p q r h = absurd (cc)
  by x y z false f p q r h = absurd (cc)

all_lines : (a : Spot) (es : List (Spot × ℕ)) → AllByRecursion (λ s. spot_cmp a s ≡ Less) (keys_of es) → AllByRecursion (λ (k : LineCount). is_before a k.spot ≡ true) (map line_of es)
all_lines a [] h = tt
all_lines a (e ∷ es) h = (less_before a e.0 h.0, all_lines a es h.1)

pub ascend_lines : (es : List (Spot × ℕ)) → IsStrictlySortedBy spot_cmp (keys_of es) → Ascend (map line_of es)
ascend_lines [] s = tt
ascend_lines (e ∷ es) s = (all_lines e.0 es (sorted_head spot_cmp e.0 (keys_of es) s), ascend_lines es (sorted_tail spot_cmp e.0 (keys_of es) s))

-- ---- numbers

pub same_sum : (p : Option Spot → Bool) (es : List (Spot × ℕ)) → lines_sum p (map line_of es) ≡ spots_sum p es
same_sum p [] = refl
same_sum p (e ∷ es) = ap (λ n. cond (p (Some e.0)) e.1 0 + n) (same_sum p es)

pub none_sum : (ls : List LineCount) → lines_sum is_none ls ≡ 0
none_sum [] = refl
none_sum (l ∷ ls) = omega (arith, none_sum ls)

counted_by : (es : List (Spot × ℕ)) → AllByRecursion (λ n. 0 < n) (values_of es) → AllByRecursion (λ (l : LineCount). 0 < l.steps) (map line_of es)
counted_by [] h = tt
counted_by (e ∷ es) h = (h.0, counted_by es h.1)

pub counted_lines : (es : List (Spot × ℕ)) → Positive es → AllByRecursion (λ (l : LineCount). 0 < l.steps) (map line_of es)
counted_lines es h = counted_by es (recursion_from_All (λ n. 0 < n) (values_of es) h)

-- no line behind one is that one
others_sum : (s : Spot) (ls : List LineCount) → AllByRecursion (λ (k : LineCount). is_before s k.spot ≡ true) ls → lines_sum (is_on s) ls ≡ 0
others_sum s [] h = refl
others_sum s (l ∷ ls) h = by (is_spot l.spot s) refl (others_sum s ls h.1) where
  by : (b : Bool) → is_spot l.spot s ≡ b → lines_sum (is_on s) ls ≡ 0 → cond b l.steps 0 + lines_sum (is_on s) ls ≡ 0
  by true e later = absurd (not_before s (subst (λ t. is_before s t ≡ true) (same_spot l.spot s e) h.0))
  by false e later = omega (arith, later)

pub listed_sum : (s : Spot) (ls : List LineCount) → Ascend ls → steps_on ls s ≡ lines_sum (is_on s) ls
listed_sum s [] h = refl
listed_sum s (l ∷ ls) h = by (is_spot l.spot s) refl (listed_sum s ls h.1) where
  by : (b : Bool) → is_spot l.spot s ≡ b → steps_on ls s ≡ lines_sum (is_on s) ls → cond b l.steps (steps_on ls s) ≡ cond b l.steps 0 + lines_sum (is_on s) ls
  by true e later =
      let none : lines_sum (is_on s) ls ≡ 0 = others_sum s ls (subst (λ t. AllByRecursion (λ (k : LineCount). is_before t k.spot ≡ true) ls) (same_spot l.spot s e) h.0) in
      omega (arith, none)
  by false e later = omega (arith, later)
