-- Bytes of a memory one after the other, and rows of them.
use Rattle.std.proofs.Common.{◌≡◌, ℕ, zero, suc, ◌+◌, ◌-◌, ◌<◌, ◌≤◌, List, [], ◌∷◌, ◌++◌, take, drop, refl, sym, ap, ◌∙◌, arith, append_assoc}
use Rattle.std.proofs.lemmas.List.{append-nil}
use Rattle.std.specs.Prelude.{flat_map}
use Rattle.std.specs.List.{range_with_len}
use Rattle.linear_memory.specs.Memory.{window}

take_more : (i : ℕ) (xs : List ℕ) → take (suc i) xs ≡ take i xs ++ take 1 (drop i xs)
take_more zero xs = refl
take_more (suc i) [] = refl
take_more (suc i) (x ∷ xs) = ap (λ (t : List ℕ). x ∷ t) (take_more i xs)

abbrev none : List ℕ
none = []

drop_none : (n : ℕ) → drop n none ≡ []
drop_none zero = refl
drop_none (suc n) = refl

drop_further : (at i n : ℕ) (xs : List ℕ) → at + i ≡ n → drop i (drop at xs) ≡ drop n xs
drop_further zero i n xs e = let same : n ≡ i = omega (arith, e) in rw same refl
drop_further (suc at) i n [] e = drop_none i ∙ sym (drop_none n)
drop_further (suc at) i zero (x ∷ xs) e = absurd (omega (arith, e))
drop_further (suc at) i (suc n) (x ∷ xs) e = drop_further at i n xs (omega (arith, e))

-- one more byte of a window
pub window_more : (xs : List ℕ) (at i b : ℕ) (bytes : List ℕ) → bytes ≡ window xs at i → window xs (at + i) 1 ≡ b ∷ [] → bytes ++ b ∷ [] ≡ window xs at (i + 1)
window_more xs at i b bytes so_far one =
    let more : i + 1 ≡ suc i = omega arith in
    let last : b ∷ [] ≡ take 1 (drop i (drop at xs)) = sym one ∙ ap (λ (t : List ℕ). take 1 t) (sym (drop_further at i (at + i) xs refl)) in
    ap (λ (t : List ℕ). t ++ b ∷ []) so_far ∙ ap (λ (t : List ℕ). window xs at i ++ t) last ∙ sym (take_more i (drop at xs)) ∙ ap (λ (n : ℕ). window xs at n) (sym more)

-- ---- lines of numbers

range_more : (k n : ℕ) → k < n → range_with_len k (n - k) ≡ k ∷ range_with_len (k + 1) (n - (k + 1))
range_more k n lt = let e : n - k ≡ suc (n - (k + 1)) = omega (arith, lt) in rw e refl

range_done : (k n : ℕ) → n ≤ k → range_with_len k (n - k) ≡ []
range_done k n le = let e : n - k ≡ 0 = omega (arith, le) in rw e refl

pub goes_on : (f : ℕ → List ℕ) (k n : ℕ) (out more total : List ℕ) → k < n → more ≡ out ++ f k → out ++ flat_map f (range_with_len k (n - k)) ≡ total
    → more ++ flat_map f (range_with_len (k + 1) (n - (k + 1))) ≡ total
goes_on f k n out more total lt wrote so_far =
    let one : out ++ flat_map f (range_with_len k (n - k)) ≡ more ++ flat_map f (range_with_len (k + 1) (n - (k + 1))) = rw (range_more k n lt, wrote, append_assoc) refl in
    sym one ∙ so_far

pub is_done : (f : ℕ → List ℕ) (k n : ℕ) (out total : List ℕ) → n ≤ k → out ++ flat_map f (range_with_len k (n - k)) ≡ total → out ≡ total
is_done f k n out total le so_far =
    let one : out ++ flat_map f (range_with_len k (n - k)) ≡ out = rw (range_done k n le) (append-nil out) in
    sym one ∙ so_far
