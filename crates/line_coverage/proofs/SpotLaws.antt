-- The order of a map of lines tells lines apart by their numbers.
use Rattle.std.proofs.Common.{◌≡◌, ℕ, Bool, true, false, cond, eqb, ltb, refl, sym, ap, ◌∙◌, arith}
use Rattle.std.specs.Prelude.{◌&&◌}
use Rattle.std.specs.Cmp.{IsTotalOrder, nat_cmp_total}
use Rattle.std.specs.declared.cmp.Ordering.{Ordering}
use Rattle.std.specs.declared.cmp.Ordering.TheVariants.{Less, Equal, Greater}
use Rattle.std.specs.Ordering.{nat_cmp, ordering_then, is_eq}
use Rattle.std.proofs.lemmas.Cmp.{then_total, on_total}
use Rattle.line_coverage.specs.declared.spots.Spot.{Spot}
use Rattle.line_coverage.specs.calls.Spots.{is_spot}
use Rattle.line_coverage.specs.inner.Order.{spot_cmp}
use Rattle.pm_text.proofs.Lists.{is_eq_at}

pub spot_total : IsTotalOrder spot_cmp
spot_total = then_total (on_total (λ (s : Spot). s.table) nat_cmp_total) (then_total (on_total (λ (s : Spot). s.file) nat_cmp_total) (on_total (λ (s : Spot). s.line) nat_cmp_total))

then_eq : (x y : ℕ) (r : Ordering) → is_eq (ordering_then (nat_cmp x y) r) ≡ (eqb x y && is_eq r)
then_eq x y r = by (ltb x y) (eqb x y) refl refl where
  by : (a b : Bool) → ltb x y ≡ a → eqb x y ≡ b → is_eq (ordering_then (cond (ltb x y) Less (cond (eqb x y) Equal Greater)) r) ≡ (eqb x y && is_eq r)
  by true true e f = absurd (grind (arith, e, f))
  by true false e f = rw (e, f) refl
  by false true e f = rw (e, f) refl
  by false false e f = rw (e, f) refl

pub same_key : (t s : Spot) → is_eq (spot_cmp t s) ≡ is_spot t s
same_key t s = then_eq t.table s.table (ordering_then (nat_cmp t.file s.file) (nat_cmp t.line s.line)) ∙ ap (λ b. eqb t.table s.table && b) (then_eq t.file s.file (nat_cmp t.line s.line) ∙ ap (λ b. eqb t.file s.file && b) (is_eq_at t.line s.line))

pub same_spot : (t s : Spot) → is_spot t s ≡ true → t ≡ s
same_spot t s e = by (eqb t.table s.table) (eqb t.file s.file) (eqb t.line s.line) refl refl refl e where
  by : (a b c : Bool) → eqb t.table s.table ≡ a → eqb t.file s.file ≡ b → eqb t.line s.line ≡ c → (a && (b && c)) ≡ true → t ≡ s
  by true true true e f g h =
      let p : t.table ≡ s.table = grind (arith, e) in
      let q : t.file ≡ s.file = grind (arith, f) in
      let r : t.line ≡ s.line = grind (arith, g) in
      λ i. record { table = p i; file = q i; line = r i }
  by true true false e f g h = absurd cc
  by true false c e f g h = absurd cc
  by false b c e f g h = absurd cc

pub tied_spots : (q : Spot → Bool) (x y : Spot) → spot_cmp x y ≡ Equal → q y ≡ q x
tied_spots q x y e = ap q (sym (same_spot x y (sym (same_key x y) ∙ ap is_eq e)))

pub same_number : (x y : ℕ) → nat_cmp x y ≡ Equal → x ≡ y
same_number x y e = by (eqb x y) refl (sym (is_eq_at x y) ∙ ap is_eq e) where
  by : (b : Bool) → eqb x y ≡ b → eqb x y ≡ true → x ≡ y
  by true e h = grind (arith, e)
  by false e h = absurd cc

pub tied_numbers : (q : ℕ → Bool) (x y : ℕ) → nat_cmp x y ≡ Equal → q y ≡ q x
tied_numbers q x y e = ap q (sym (same_number x y e))
