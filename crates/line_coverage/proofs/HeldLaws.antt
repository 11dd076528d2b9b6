-- The addresses that a sequence holds, in a map.
use Rattle.std.proofs.Common.{◌≡◌, ℕ, Bool, true, false, cond, List, [], ◌∷◌, Some, refl, sym, ap, subst, ◌∙◌, arith}
use Rattle.std.specs.Prelude.{filter, slice_get}
use Rattle.std.specs.List.{AllByRecursion}
use Rattle.std.specs.Option.{IfSome}
use Rattle.std.specs.Map.{lookup}
use Rattle.std.specs.Ordering.{nat_cmp}
use Rattle.std.specs.declared.ops.Bound.TheVariants.{Included, Excluded}
use Rattle.std.specs.BTreeMap.{BTreeMap, is_at}
use Rattle.std.specs.BTreeMap.Range.{IsRangeOf, IsEntryInRange, entries_between, range_contains}
use Rattle.std.proofs.lemmas.Bool.Decides.{nat_tests}
use Rattle.line_coverage.specs.inner.Spans.{within}

contains_is : (lo hi a : ℕ) → range_contains nat_cmp (Included lo) (Excluded hi) a ≡ within lo hi a
contains_is lo hi a = grind (arith, nat_tests)

filter_head : {X : Type 0} (p : X → Bool) (xs : List X) (x : X) (ys : List X) → filter p xs ≡ x ∷ ys → p x ≡ true
filter_head p [] x ys e = absurd cc
filter_head p (z ∷ zs) x ys e = by (p z) refl e (filter_head p zs x ys)
  where
    by : (b : Bool) → p z ≡ b → cond b (z ∷ filter p zs) (filter p zs) ≡ x ∷ ys → (filter p zs ≡ x ∷ ys → p x ≡ true) → p x ≡ true
    by true b e later = let same : z ≡ x = cc in ap p (sym same) ∙ b
    by false b e later = later e

pub first_is : (m : BTreeMap ℕ ℕ) (from to : ℕ) (r : List (ℕ × ℕ)) (e : ℕ × ℕ) (t : List (ℕ × ℕ)) → r ≡ entries_between nat_cmp (Included from) (Excluded to) m.entries → IsRangeOf nat_cmp (Included from) (Excluded to) m r → r ≡ e ∷ t
    → (within from to e.0 ≡ true) × (lookup (is_at (nat_cmp e.0)) m.entries ≡ Some e.1)
first_is m from to r e t between h is =
    let here : IsEntryInRange nat_cmp (Included from) (Excluded to) m e = subst (λ xs. IfSome (slice_get xs 0) (IsEntryInRange nat_cmp (Included from) (Excluded to) m)) is h.1 in
    (sym (contains_is from to e.0) ∙ filter_head (λ x. range_contains nat_cmp (Included from) (Excluded to) x.0) m.entries e t (sym between ∙ is), here.1)

none_passes : {X : Type 0} (p q : X → Bool) → ((x : X) → p x ≡ false → q x ≡ false) → (xs : List X) → filter p xs ≡ [] → AllByRecursion (λ x. q x ≡ false) xs
none_passes p q f [] e = tt
none_passes p q f (x ∷ xs) e = by (p x) refl e (none_passes p q f xs)
  where
    by : (b : Bool) → p x ≡ b → cond b (x ∷ filter p xs) (filter p xs) ≡ [] → (filter p xs ≡ [] → AllByRecursion (λ x. q x ≡ false) xs) → AllByRecursion (λ x. q x ≡ false) (x ∷ xs)
    by true b e later = absurd cc
    by false b e later = (f x b, later e)

pub none_is : (m : BTreeMap ℕ ℕ) (from to : ℕ) (r : List (ℕ × ℕ)) → r ≡ entries_between nat_cmp (Included from) (Excluded to) m.entries → r ≡ [] → AllByRecursion (λ v. within from to v.0 ≡ false) m.entries
none_is m from to r h is = none_passes (λ e. range_contains nat_cmp (Included from) (Excluded to) e.0) (λ v. within from to v.0) (λ e no. sym (contains_is from to e.0) ∙ no) m.entries (sym h ∙ is)
