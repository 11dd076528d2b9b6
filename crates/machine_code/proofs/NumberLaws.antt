-- The numbers of a list of types.
use Rattle.std.proofs.Common.{◌≡◌, ℕ, zero, suc, ◌+◌, ◌<◌, ◌≤◌, List, [], ◌∷◌, ◌++◌, length, take, get_or, refl, sym, ap, ◌∙◌, inl, inr, ⊎_elim, add-one, arith, length-take}
use Rattle.std.proofs.Math.Seq.{take-suc}
use Rattle.std.specs.Prelude.{◌⊎◌, Some, slice_get}
use Rattle.wasm_syntax.specs.declared.parts.FuncType.{FuncType}
use Rattle.machine_code.specs.declared.tree.Node.{Node}
use Rattle.machine_code.specs.inner.Tree.{word, reaches, Extends}
use Rattle.machine_code.proofs.TreeLaws.{reaches_kept}
use Rattle.pm_text.proofs.Lists.{some_is}

pairs : (ts : List FuncType) (ks : List ℕ) (x : FuncType) (n j : ℕ) (t : FuncType) (k : ℕ) → length ts ≡ length ks → slice_get (ts ++ x ∷ []) j ≡ Some t → slice_get (ks ++ n ∷ []) j ≡ Some k → ((slice_get ts j ≡ Some t) × (slice_get ks j ≡ Some k)) ⊎ ((x ≡ t) × (n ≡ k))
pairs [] [] x n zero t k l e f = inr (some_is e, some_is f)
pairs [] [] x n (suc j) t k l e f = absurd (cc)
pairs [] (i ∷ ks) x n j t k l e f = absurd (omega arith)
pairs (u ∷ ts) [] x n j t k l e f = absurd (omega arith)
pairs (u ∷ ts) (i ∷ ks) x n zero t k l e f = inl (e, f)
pairs (u ∷ ts) (i ∷ ks) x n (suc j) t k l e f = let m : length ts ≡ length ks = omega arith in pairs ts ks x n j t k m e f

-- one type more
pub one_more : (types : List FuncType) (i : ℕ) (d : FuncType) (ks : List ℕ) (n : ℕ) (old new : List Node) → i < length types → length ks ≡ i → Extends old new → reaches new (word (get_or types i d)) ≡ Some n →
    ((j : ℕ) (t : FuncType) (k : ℕ) → slice_get (take i types) j ≡ Some t → slice_get ks j ≡ Some k → reaches old (word t) ≡ Some k) →
    (j : ℕ) (t : FuncType) (k : ℕ) → slice_get (take (i + 1) types) j ≡ Some t → slice_get (ks ++ n ∷ []) j ≡ Some k → reaches new (word t) ≡ Some k
one_more types i d ks n old new lt count x e before j t k p q =
    let taken : take (i + 1) types ≡ take i types ++ get_or types i d ∷ [] = ap (λ m. take m types) (add-one i) ∙ take-suc types i d lt in
    let same : length (take i types) ≡ length ks = omega (arith, length-take i types) in
    ⊎_elim (λ r. reaches_kept old new x (word t) k (before j t k r.0 r.1)) (λ r. ap (λ u. reaches new (word u)) (sym r.0) ∙ e ∙ ap Some r.1)
    (pairs (take i types) ks (get_or types i d) n j t k same (ap (λ l. slice_get l j) (sym taken) ∙ p) q)

pub all_taken : {A : Type 0} (xs : List A) (n : ℕ) → length xs ≤ n → take n xs ≡ xs
all_taken [] zero le = refl
all_taken [] (suc n) le = refl
all_taken (x ∷ xs) zero le = absurd (omega arith)
all_taken (x ∷ xs) (suc n) le = ap (λ l. x ∷ l) (all_taken xs n (omega arith))
