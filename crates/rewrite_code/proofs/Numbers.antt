-- Instructions that were numbered.
use Rattle.std.proofs.Common.{◌≡◌, ℕ, zero, suc, ◌+◌, ◌^◌, ◌<◌, ◌≤◌, List, [], ◌∷◌, ◌++◌, length, map, refl, sym, ap, ap₂, subst, ◌∙◌, arith, append-nil}
use Rattle.std.specs.Prelude.{min, get_or, slice_set, take, drop}
use Rattle.std.proofs.lemmas.List.{take_all, drop_all}
use Rattle.wasm_syntax.specs.declared.instruction.Op.{Op}
use Rattle.wasm_syntax.specs.Module.{Ascend}
use Rattle.wasm_syntax.specs.SameCode.{op_code}
use Rattle.rewrite_code.specs.inner.Numbered.{numbered}

pub bare_numbered : (n : ℕ) (ops : List Op) → map op_code (numbered n ops) ≡ map op_code ops
bare_numbered n [] = refl
bare_numbered n (o ∷ os) = ap (λ (rest : List Op). op_code o ∷ rest) (bare_numbered (suc n) os)

pub length-numbered : (n : ℕ) (ops : List Op) → length (numbered n ops) ≡ length ops
length-numbered n [] = refl
length-numbered n (o ∷ os) = ap suc (length-numbered (suc n) os)

-- they ascend as far as the numbers reach
pub numbered_ascend : (n : ℕ) (ops : List Op) → n + length ops ≤ 2 ^ 32 → Ascend n (numbered n ops)
numbered_ascend n [] few = tt
numbered_ascend n (o ∷ os) few =
    let same : n ≡ min n 4294967295 = omega arith in
    let rest = numbered_ascend (suc n) os (omega arith) in
    subst (λ (at : ℕ). (n ≤ at) × Ascend (suc at) (numbered (suc n) os)) same (omega arith, rest)

-- one more at the front is numbered
pub one_numbered : (n i at : ℕ) (ops : List Op) (d : Op) → i < length ops → at ≡ min (n + i) 4294967295 → slice_set (take i (numbered n ops) ++ drop i ops) i (record (get_or (take i (numbered n ops) ++ drop i ops) i d) { at = at }) ≡ take (suc i) (numbered n ops) ++ drop (suc i) ops
one_numbered n i at [] d lt e = absurd (omega (arith, lt))
one_numbered n zero at (o ∷ os) d lt e =
    let same : at ≡ min n 4294967295 = omega (arith, e) in
    ap (λ (k : ℕ). record o { at = k } ∷ os) same
one_numbered n (suc i) at (o ∷ os) d lt e =
    ap (λ (rest : List Op). record o { at = min n 4294967295 } ∷ rest) (one_numbered (suc n) i at os d (omega (arith, lt)) (omega (arith, e)))

-- all are
pub all_numbered : (i : ℕ) (ops : List Op) → i ≡ length ops → take i (numbered 0 ops) ++ drop i ops ≡ numbered 0 ops
all_numbered i ops e =
    let few : length (numbered 0 ops) ≤ i = omega (arith, length-numbered 0 ops, e) in
    let none : length ops ≤ i = omega (arith, e) in
    ap₂ (λ (a b : List Op). a ++ b) (take_all i (numbered 0 ops) few) (drop_all i ops none) ∙ append-nil (numbered 0 ops)

-- a step of numbering in place, and its end
pub numbers_more : (ops now : List Op) (i at : ℕ) (d : Op) → i < length ops → at ≡ min i 4294967295 → now ≡ take i (numbered 0 ops) ++ drop i ops → slice_set now i (record { at = at; len = (get_or now i d).len; code = (get_or now i d).code }) ≡ take (i + 1) (numbered 0 ops) ++ drop (i + 1) ops
numbers_more ops now i at d lt e s =
    let next : suc i ≡ i + 1 = omega arith in
    ap (λ (xs : List Op). slice_set xs i (record { at = at; len = (get_or xs i d).len; code = (get_or xs i d).code })) s
    ∙ one_numbered 0 i at ops d lt (omega (arith, e)) ∙ ap (λ k. take k (numbered 0 ops) ++ drop k ops) next

-- what is left in a vector, all of which was written
pub all_written : (made left : List Op) (n : ℕ) → length left ≡ length made → n ≡ length made → take n (left ++ drop (length left) made) ≡ left
all_written made left n e d =
    let none : drop (length left) made ≡ [] = drop_all (length left) made (omega (arith, e)) in
    ap (λ l. take n (left ++ l)) none ∙ ap (take n) (append-nil left) ∙ take_all n left (omega (arith, e, d))

-- instructions that were numbered ascend, as far as 32 bits count them
pub few_ascend : (ops placed : List Op) → placed ≡ numbered 0 ops → length placed ≤ 2 ^ 32 → Ascend 0 placed
few_ascend ops placed e few =
    let same = ap length e in
    let whole = length-numbered 0 ops in
    subst (λ xs. Ascend 0 xs) (sym e) (numbered_ascend 0 ops (omega (arith, same, whole, few)))
