-- One step of a copy within one list, and of a fill.
use Rattle.std.proofs.Common.{◌≡◌, ℕ, ◌+◌, ◌-◌, ◌<◌, ◌≤◌, List, ◌++◌, length, take, drop, replicate, sym, ◌∙◌, ap, arith, append_assoc, length-append, length-drop}
use Rattle.std.proofs.lemmas.List.{length-take-le, drop-drop, drop_at, take-take, take-append-le, take-append-drop, length-replicate, replicate-append-replicate}
use Rattle.linear_memory.specs.Memory.{window, splice}
use Rattle.linear_memory.proofs.Contents.{splice-splice, windows_join, drop_past, window-left}

length-window : (xs : List ℕ) (at n : ℕ) → at + n ≤ length xs → length (window xs at n) ≡ n
length-window xs at n inside = let low : n ≤ length (drop at xs) = omega (arith, length-drop at xs) in length-take-le n (drop at xs) low

window-above : (xs ys : List ℕ) (at k n : ℕ) → at + length ys ≤ k → at + length ys ≤ length xs → window (splice xs at ys) k n ≡ window xs k n
window-above xs ys at k n above room =
    let low : at ≤ length xs = omega arith in
    let j = k - (at + length ys) in let e : k ≡ at + length ys + j = omega arith in
    let head : length (take at xs ++ ys) ≡ at + length ys = omega (arith, length-append (take at xs) ys, length-take-le at xs low) in
    ap (λ (i : ℕ). take n (drop i (splice xs at ys))) e
    ∙ ap (λ (l : List ℕ). take n l) (drop_past (take at xs ++ ys) (drop (at + length ys) xs) (at + length ys) j head ∙ drop-drop j (at + length ys) xs)
    ∙ ap (λ (i : ℕ). take n (drop i xs)) (sym e)

window-below : (xs ys : List ℕ) (at k n : ℕ) → k + n ≤ at → at ≤ length xs → window (splice xs at ys) k n ≡ window xs k n
window-below xs ys at k n below low =
    let fits : k + n ≤ length (take at xs) = omega (arith, length-take-le at xs low) in
    ap (λ (l : List ℕ). window l k n) (append_assoc (take at xs) ys (drop (at + length ys) xs))
    ∙ window-left (take at xs) (ys ++ drop (at + length ys) xs) k n fits
    ∙ sym (window-left (take at xs) (drop at xs) k n fits)
    ∙ ap (λ (l : List ℕ). window l k n) (take-append-drop at xs)

splice_before : (xs ys zs : List ℕ) (a b : ℕ) → b ≡ a + length zs → b ≤ length xs → splice (splice xs b ys) a zs ≡ splice xs a (zs ++ ys)
splice_before xs ys zs a b e low =
    let tail = drop (b + length ys) xs in
    let n : length (take b xs) ≡ b = length-take-le b xs low in
    let a_fits : a ≤ length (take b xs) = omega (arith, n) in let a_low : a ≤ b = omega arith in
    let far : b + length ys ≡ a + length (zs ++ ys) = omega (arith, length-append zs ys) in
    ap (λ (l : List ℕ). take a l ++ zs ++ drop (a + length zs) l) (append_assoc (take b xs) ys tail)
    ∙ ap (λ (l : List ℕ). l ++ zs ++ drop (a + length zs) (take b xs ++ (ys ++ tail))) (take-append-le a (take b xs) (ys ++ tail) a_fits ∙ take-take a b xs a_low)
    ∙ ap (λ (k : ℕ). take a xs ++ zs ++ drop k (take b xs ++ (ys ++ tail))) (sym e)
    ∙ ap (λ (l : List ℕ). take a xs ++ zs ++ l) (drop_at (take b xs) (ys ++ tail) b n)
    ∙ sym (append_assoc (take a xs ++ zs) ys tail)
    ∙ ap (λ (l : List ℕ). l ++ tail) (append_assoc (take a xs) zs ys)
    ∙ ap (λ (k : ℕ). take a xs ++ (zs ++ ys) ++ drop k xs) far

pub forward_part : (xs : List ℕ) (to from i n : ℕ) → to ≤ from → from + i + n ≤ length xs
    → splice (splice xs to (window xs from i)) (to + i) (window (splice xs to (window xs from i)) (from + i) n) ≡ splice xs to (window xs from (i + n))
forward_part xs to from i n le inside =
    let ys = window xs from i in let zs = window xs (from + i) n in
    let ny : length ys ≡ i = length-window xs from i (omega arith) in
    let nz : length zs ≡ n = length-window xs (from + i) n inside in
    let above : to + length ys ≤ from + i = omega (arith, ny) in
    let room : to + length ys ≤ length xs = omega (arith, ny) in
    let both : to + length ys + length zs ≤ length xs = omega (arith, ny, nz) in
    let part : i ≤ i + n = omega arith in let rest : n ≡ i + n - i = omega arith in
    ap (λ (l : List ℕ). splice (splice xs to ys) (to + i) l) (window-above xs ys to (from + i) n above room)
    ∙ ap (λ (k : ℕ). splice (splice xs to ys) (to + k) zs) (sym ny)
    ∙ splice-splice xs ys zs to both
    ∙ ap (λ (k : ℕ). splice xs to (ys ++ window xs (from + i) k)) rest
    ∙ ap (λ (l : List ℕ). splice xs to l) (windows_join xs from i (i + n) part)

pub backward_part : (xs : List ℕ) (to from i n m : ℕ) → from < to → to + (i + n) + m ≤ length xs
    → splice (splice xs (to + (i + n)) (window xs (from + (i + n)) m)) (to + i) (window (splice xs (to + (i + n)) (window xs (from + (i + n)) m)) (from + i) n) ≡ splice xs (to + i) (window xs (from + i) (n + m))
backward_part xs to from i n m lt inside =
    let ys = window xs (from + (i + n)) m in let zs = window xs (from + i) n in
    let nz : length zs ≡ n = length-window xs (from + i) n (omega arith) in
    let below : from + i + n ≤ to + (i + n) = omega arith in let low : to + (i + n) ≤ length xs = omega arith in
    let e : to + (i + n) ≡ to + i + length zs = omega (arith, nz) in
    let part : n ≤ n + m = omega arith in let rest : m ≡ n + m - n = omega arith in let next : from + (i + n) ≡ from + i + n = omega arith in
    ap (λ (l : List ℕ). splice (splice xs (to + (i + n)) ys) (to + i) l) (window-below xs ys (to + (i + n)) (from + i) n below low)
    ∙ splice_before xs ys zs (to + i) (to + (i + n)) e low
    ∙ ap (λ (k : ℕ). splice xs (to + i) (zs ++ window xs k m)) next
    ∙ ap (λ (k : ℕ). splice xs (to + i) (zs ++ window xs (from + i + n) k)) rest
    ∙ ap (λ (l : List ℕ). splice xs (to + i) l) (windows_join xs (from + i) n (n + m) part)

pub fill_twice : (xs : List ℕ) (at a n v : ℕ) → a ≤ n → at + n ≤ length xs → splice (splice xs at (replicate a v)) (at + a) (replicate (n - a) v) ≡ splice xs at (replicate n v)
fill_twice xs at a n v le inside =
    let na : length (replicate a v) ≡ a = length-replicate {A = ℕ} a v in let nb : length (replicate (n - a) v) ≡ n - a = length-replicate {A = ℕ} (n - a) v in
    let both : at + length (replicate a v) + length (replicate (n - a) v) ≤ length xs = omega (arith, na, nb) in
    let sum : a + (n - a) ≡ n = omega arith in
    ap (λ (k : ℕ). splice (splice xs at (replicate a v)) (at + k) (replicate (n - a) v)) (sym na)
    ∙ splice-splice xs (replicate a v) (replicate (n - a) v) at both
    ∙ ap (λ (l : List ℕ). splice xs at l) (replicate-append-replicate a (n - a) v ∙ ap (λ (k : ℕ). replicate k v) sum)
