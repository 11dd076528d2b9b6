-- Sums of numbers by their keys.
use Rattle.std.proofs.Common.{◌≡◌, ℕ, ◌+◌, ◌-◌, ◌^◌, ◌<◌, ◌≤◌, Bool, true, false, cond, List, [], ◌∷◌, Some, None, refl, sym, ap, subst, ◌∙◌, arith}
use Rattle.std.specs.Prelude.{min, unwrap_or}
use Rattle.std.specs.Map.{keys_of, lookup}
use Rattle.std.specs.List.Sorted.{IsStrictlySortedBy}
use Rattle.std.specs.Cmp.{IsTotalOrder}
use Rattle.std.specs.declared.cmp.Ordering.{Ordering}
use Rattle.std.specs.declared.cmp.Ordering.TheVariants.{Less, Equal, Greater}
use Rattle.std.specs.Ordering.{is_eq, match_ordering}
use Rattle.std.specs.BTreeMap.{insert_entry, is_at}
use Rattle.std.proofs.Math.Nat.{min-eq_left}
use Rattle.std.proofs.lemmas.Map.{lookup-none}
use Rattle.std.proofs.lemmas.Map.Keys.{sorted_tail}
use Rattle.std.proofs.lemmas.Map.Entries.{none_below_head}
use Rattle.std.proofs.lemmas.Map.Views.{All-values-insert_entry}
use Rattle.line_coverage.specs.inner.Sums.{sum_of, sum_all, Positive, AddsOne}

pub zero_if : (b : Bool) → ◌≡◌ {A = ℕ} (cond b 0 0) 0
zero_if true = refl
zero_if false = refl

pub some_at_most : (b : Bool) (n : ℕ) → cond b n 0 ≤ n
some_at_most true n = omega arith
some_at_most false n = omega arith

-- a number that grew by so many
grown : (b : Bool) (x y u n : ℕ) → x + cond b u 0 ≡ y + cond b (u + n) 0 → x ≡ y + cond b n 0
grown true x y u n e = omega (arith, e)
grown false x y u n e = omega (arith, e)

positive_min : (u n : ℕ) → 0 < n → 0 < min (u + n) (2 ^ 64 - 1)
positive_min u n h = grind (arith, h, min)

module _ {K : Type 0} where
  pub sum_at_most : (q : K → Bool) (es : List (K × ℕ)) → sum_of q es ≤ sum_all es
  sum_at_most q [] = omega arith
  sum_at_most q (e ∷ es) = omega (arith, some_at_most (q e.0) e.1, sum_at_most q es)

  pub found_at_most : (test : K → Bool) (es : List (K × ℕ)) → unwrap_or (lookup test es) 0 ≤ sum_all es
  found_at_most test [] = omega arith
  found_at_most test (e ∷ es) = by (test e.0) (found_at_most test es)
    where
      by : (b : Bool) → unwrap_or (lookup test es) 0 ≤ sum_all es → unwrap_or (cond b (Some e.1) (lookup test es)) 0 ≤ e.1 + sum_all es
      by true h = omega arith
      by false h = omega (arith, h)

  -- ---- an entry more

  module _ (q : K → Bool) {R : K → K → Ordering} (o : IsTotalOrder R) (same : (x y : K) → R x y ≡ Equal → q y ≡ q x) where
    pub insert_sum : (es : List (K × ℕ)) (k : K) (v : ℕ) → IsStrictlySortedBy R (keys_of es)
        → sum_of q (insert_entry R es k v) + cond (q k) (unwrap_or (lookup (is_at (R k)) es) 0) 0 ≡ sum_of q es + cond (q k) v 0
    insert_sum [] k v s = omega (arith, zero_if (q k))
    insert_sum (e ∷ es) k v s = by (R k e.0) refl (insert_sum es k v (sorted_tail R e.0 (keys_of es) s))
      where
        by : (r : Ordering) → R k e.0 ≡ r → sum_of q (insert_entry R es k v) + cond (q k) (unwrap_or (lookup (is_at (R k)) es) 0) 0 ≡ sum_of q es + cond (q k) v 0
            → sum_of q (match_ordering r ((k, v) ∷ e ∷ es) ((e.0, v) ∷ es) (e ∷ insert_entry R es k v)) + cond (q k) (unwrap_or (cond (is_eq r) (Some e.1) (lookup (is_at (R k)) es)) 0) 0 ≡ cond (q e.0) e.1 0 + sum_of q es + cond (q k) v 0
        by Less p later =
            let none : lookup (is_at (R k)) es ≡ None = lookup-none (is_at (R k)) es (none_below_head o k e es s p).1 in
            let gone : cond (q k) (unwrap_or (lookup (is_at (R k)) es) 0) 0 ≡ cond (q k) 0 0 = ap (λ f. cond (q k) (unwrap_or f 0) 0) none in
            omega (arith, gone, zero_if (q k))
        by Equal p later =
            let one : cond (q e.0) v 0 ≡ cond (q k) v 0 = ap (λ b. cond b v 0) (same k e.0 p) in
            let two : cond (q e.0) e.1 0 ≡ cond (q k) e.1 0 = ap (λ b. cond b e.1 0) (same k e.0 p) in
            omega (arith, one, two)
        by Greater p later = omega (arith, later)

  pub adds_one : {R : K → K → Ordering} → IsTotalOrder R → ((q : K → Bool) (x y : K) → R x y ≡ Equal → q y ≡ q x) → (old new : List (K × ℕ)) (k : K) (u n : ℕ) → IsStrictlySortedBy R (keys_of old)
      → u ≡ unwrap_or (lookup (is_at (R k)) old) 0 → new ≡ insert_entry R old k (min (u + n) (2 ^ 64 - 1)) → AddsOne old new k n
  adds_one {R} o same old new k u n s found is = record {
    sums = λ room q.
        let within : u ≤ sum_all old = subst (λ m. m ≤ sum_all old) (sym found) (found_at_most (is_at (R k)) old) in
        let fits : u + n ≤ 2 ^ 64 - 1 = omega (arith, within, room) in
        let v : min (u + n) (2 ^ 64 - 1) ≡ u + n = min-eq_left fits in
        let sum : sum_of q (insert_entry R old k (u + n)) + cond (q k) (unwrap_or (lookup (is_at (R k)) old) 0) 0 ≡ sum_of q old + cond (q k) (u + n) 0 = insert_sum q o (same q) old k (u + n) s in
        let was : cond (q k) u 0 ≡ cond (q k) (unwrap_or (lookup (is_at (R k)) old) 0) 0 = ap (λ m. cond (q k) m 0) found in
        let here : sum_of q new ≡ sum_of q (insert_entry R old k (u + n)) = ap (sum_of q) (is ∙ ap (insert_entry R old k) v) in
        grown (q k) (sum_of q new) (sum_of q old) u n (omega (arith, sum, was, here));
    positive = λ h all. subst (λ es. Positive es) (sym is) (All-values-insert_entry R k (min (u + n) (2 ^ 64 - 1)) (λ m. 0 < m) old all (positive_min u n h));
  }
