-- The tests of frames one after the other, whatever a row passes.
use Rattle.std.proofs.Common.{◌≡◌, ℕ, zero, suc, ◌<◌, ◌≤◌, ◌⊎◌, inl, inr, ⊎_elim, refl, ap, ◌∙◌, arith}
use Rattle.std.specs.Prelude.{Ok, Err}
use Rattle.dump_match.specs.declared.mismatch.Mismatch.{Mismatch}
use Rattle.dump_match.specs.Matching.{Before, group}
use Rattle.dump_match.specs.inner.Decides.{FrameJudgedBy, FramesJudgedBy, UpToBy}

module _ (P : Mismatch → Type 0) where
  pub one_more : (i : ℕ) → UpToBy P i → ((row : Mismatch) → group row ≡ suc i → P row) → UpToBy P (suc i)
  one_more i up here row pos le = by_order (less_or_same (group row) i le)
    where
      less_or_same : (a b : ℕ) → a ≤ suc b → (a ≤ b) ⊎ (a ≡ suc b)
      less_or_same zero b le = inl (omega arith)
      less_or_same (suc a) zero le = inr (omega (arith, le))
      less_or_same (suc a) (suc b) le = ⊎_elim (λ x. inl (omega (arith, x))) (λ x. inr (ap suc x)) (less_or_same a b (omega (arith, le)))

      by_order : (group row ≤ i) ⊎ (group row ≡ suc i) → P row
      by_order (inl x) = up row pos x
      by_order (inr x) = here row x

  pub first_of_frames : (i : ℕ) (row : Mismatch) → UpToBy P i → FrameJudgedBy P (Err row) i → FramesJudgedBy P (Err row)
  first_of_frames i row up h = (omega (arith, h.0), h.1, λ other pos b. by_order other pos b)
    where
      by_order : (other : Mismatch) → 0 < group other → Before other row → P other
      by_order other pos (inl x) = up other pos (omega (arith, x, h.0))
      by_order other pos (inr x) = h.2 other (x.0 ∙ h.0) x.1

  -- the rows behind so many frames pass
  pub past_end : (count i : ℕ) → ((row : Mismatch) (j : ℕ) → group row ≡ suc j → count ≤ j → P row) → count ≤ i → UpToBy P i → (row : Mismatch) → 0 < group row → P row
  past_end count i behind end up row pos = by_group (group row) refl
    where
      by_group : (n : ℕ) → group row ≡ n → P row
      by_group zero e = absurd (omega (arith, e, pos))
      by_group (suc j) e = by_order (le_or_lt (suc j) i)
        where
          le_or_lt : (a b : ℕ) → (a ≤ b) ⊎ (b < a)
          le_or_lt zero b = inl (omega arith)
          le_or_lt (suc a) zero = inr (omega arith)
          le_or_lt (suc a) (suc b) = ⊎_elim (λ x. inl (omega (arith, x))) (λ x. inr (omega (arith, x))) (le_or_lt a b)

          by_order : (suc j ≤ i) ⊎ (i < suc j) → P row
          by_order (inl x) = up row pos (omega (arith, x, e))
          by_order (inr x) = behind row j e (omega (arith, x, end))

  -- ---- the whole

  pub earlier_of_all : (row : Mismatch) → ((other : Mismatch) → group other ≡ 0 → P other) → FramesJudgedBy P (Err row) → (other : Mismatch) → Before other row → P other
  earlier_of_all row whole h other b = by_group (group other) refl
    where
      by_group : (n : ℕ) → group other ≡ n → P other
      by_group zero e = whole other e
      by_group (suc n) e = h.2 other (omega (arith, e)) b

  pub all_of_them : ((row : Mismatch) → group row ≡ 0 → P row) → FramesJudgedBy P (Ok tt) → (row : Mismatch) → P row
  all_of_them whole frames row = by_group (group row) refl
    where
      by_group : (n : ℕ) → group row ≡ n → P row
      by_group zero e = whole row e
      by_group (suc n) e = frames row (omega (arith, e))
