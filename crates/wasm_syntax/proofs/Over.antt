-- A list that new entries are put over.
use Rattle.std.proofs.Common.{◌≡◌, ℕ, ◌+◌, ◌<◌, List, [], ◌∷◌, ◌++◌, take, drop, set, length, get_or, sym, ap, ◌∙◌, append_assoc, length-append, arith}
use Rattle.std.proofs.lemmas.List.{drop_more, set_at, length-take-le}
use Rattle.wasm_syntax.specs.Run.{over}

-- one value more is put over a list
pub over_more : {A : Type 0} (xs new : List A) (at n : ℕ) (y : A) → n ≡ at + length new → n < length xs → set (over xs at new) n y ≡ over xs at (new ++ y ∷ [])
over_more xs new at n y e lt =
    let count : length (take at xs ++ new) ≡ n = omega (arith, length-append (take at xs) new, length-take-le at xs (omega arith)) in
    let next : at + length (new ++ y ∷ []) ≡ n + 1 = omega (arith, length-append new (y ∷ [])) in
    ap (λ l. set l n y) (ap (λ k. take at xs ++ (new ++ drop k xs)) (sym e) ∙ ap (λ l. take at xs ++ (new ++ l)) (drop_more xs n y lt) ∙ sym (append_assoc (take at xs) new (get_or xs n y ∷ drop (n + 1) xs)))
    ∙ set_at (take at xs ++ new) (get_or xs n y) (drop (n + 1) xs) y n count
    ∙ append_assoc (take at xs) new (y ∷ drop (n + 1) xs)
    ∙ ap (λ l. take at xs ++ l) (sym (append_assoc new (y ∷ []) (drop (n + 1) xs)))
    ∙ ap (λ k. take at xs ++ ((new ++ y ∷ []) ++ drop k xs)) (sym next)
