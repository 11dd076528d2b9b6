-- What stands in a memory after bytes were put over a part of it.
use Rattle.std.proofs.Common.{◌≡◌, ℕ, ◌+◌, ◌-◌, ◌≤◌, List, ◌++◌, length, take, drop, refl, sym, ap, ◌∙◌, arith, append_assoc, length-append, length-take, length-drop}
use Rattle.std.proofs.lemmas.List.{take-take, take_at, take-append-le, drop-drop, drop_at, drop-append-le, drop-take}
use Rattle.linear_memory.specs.Memory.{window, splice}

-- what was put there
pub window-splice : (xs ys : List ℕ) (at : ℕ) → at + length ys ≤ length xs → window (splice xs at ys) at (length ys) ≡ ys
window-splice xs ys at h =
    let front : length (take at xs) ≡ at = length-take at xs ∙ omega arith in
    ap (λ (zs : List ℕ). take (length ys) (drop at zs)) (append_assoc (take at xs) ys (drop (at + length ys) xs))
    ∙ ap (λ (zs : List ℕ). take (length ys) zs) (drop_at (take at xs) (ys ++ drop (at + length ys) xs) at front)
    ∙ take_at ys (drop (at + length ys) xs) (length ys) refl

-- before it
pub window-before : (xs ys : List ℕ) (at o n : ℕ) → at + length ys ≤ length xs → o + n ≤ at → window (splice xs at ys) o n ≡ window xs o n
window-before xs ys at o n h before =
    let front : length (take at xs) ≡ at = length-take at xs ∙ omega arith in
    let rest = ys ++ drop (at + length ys) xs in
    let near : o ≤ length (take at xs) = omega arith in
    let room : n ≤ length (drop o (take at xs)) = omega (arith, length-drop o (take at xs)) in
    ap (λ (zs : List ℕ). take n (drop o zs)) (append_assoc (take at xs) ys (drop (at + length ys) xs))
    ∙ ap (λ (zs : List ℕ). take n zs) (drop-append-le o (take at xs) rest near)
    ∙ take-append-le n (drop o (take at xs)) rest room
    ∙ inside
  where
    fits : o + (at - o) ≡ at
    fits = omega arith

    inside : take n (drop o (take at xs)) ≡ window xs o n
    inside =
        ap (λ (k : ℕ). take n (drop o (take k xs))) (sym fits)
        ∙ ap (λ (zs : List ℕ). take n zs) (drop-take o (at - o) xs)
        ∙ take-take n (at - o) (drop o xs) (omega arith)

-- behind it
pub window-behind : (xs ys : List ℕ) (at o n : ℕ) → at + length ys ≤ length xs → at + length ys ≤ o → window (splice xs at ys) o n ≡ window xs o n
window-behind xs ys at o n h behind =
    let front : length (take at xs ++ ys) ≡ at + length ys = length-append (take at xs) ys ∙ (simp length-take (omega arith)) in
    let far : length (take at xs ++ ys) + (o - (at + length ys)) ≡ o = omega arith in
    let near : at + length ys + (o - (at + length ys)) ≡ o = omega arith in
    let rest = drop (at + length ys) xs in
    ap (λ (k : ℕ). take n (drop k ((take at xs ++ ys) ++ rest))) (sym far)
    ∙ ap (λ (zs : List ℕ). take n zs) (sym (drop-drop (o - (at + length ys)) (length (take at xs ++ ys)) ((take at xs ++ ys) ++ rest)))
    ∙ ap (λ (zs : List ℕ). take n (drop (o - (at + length ys)) zs)) (drop_at (take at xs ++ ys) rest (length (take at xs ++ ys)) refl)
    ∙ ap (λ (zs : List ℕ). take n zs) (drop-drop (o - (at + length ys)) (at + length ys) xs)
    ∙ ap (λ (k : ℕ). take n (drop k xs)) near
