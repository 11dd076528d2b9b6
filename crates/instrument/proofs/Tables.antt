-- A table that is filled as far as it goes.
use Rattle.std.proofs.Common.{◌≡◌, ℕ, zero, suc, ◌+◌, ◌-◌, ◌<◌, ◌≤◌, List, [], ◌∷◌, ◌++◌, length, map, take, drop, drop-cons, get_or, Option, Some, inl, inr, refl, sym, ap, ◌∙◌, subst, arith, length-append, append-nil}
use Rattle.std.specs.Prelude.{fold}
use Rattle.std.proofs.lemmas.Bool.{cases_lt}
use Rattle.std.proofs.lemmas.List.{take_all, length-take-le, length-drop, take-append-le}
use Rattle.std.proofs.Math.Seq.{take-append-add}
use Rattle.wasm_syntax.specs.declared.parts.ElementSeg.{ElementSeg}
use Rattle.wasm_syntax.specs.declared.module.ModuleParts.{ModuleParts as Module}
use Rattle.wasm_syntax.specs.Run.{element_at, over}
use Rattle.wasm_syntax.specs.calls.Starting.{put_element}

drop_whole : {A : Type 0} (xs : List A) → drop (length xs) xs ≡ []
drop_whole [] = refl
drop_whole (x ∷ xs) = drop_whole xs

over_length : {A : Type 0} (xs new : List A) (at : ℕ) → at + length new ≤ length xs → length (over xs at new) ≡ length xs
over_length xs new at le =
    omega (arith, le, length-append (take at xs) (new ++ drop (at + length new) xs), length-append new (drop (at + length new) xs), length-drop (at + length new) xs, length-take-le at xs (omega (arith, le)))

-- as many entries as there were
pub put_length : {A : Type 0} (xs new : List A) (at : ℕ) → length (take (length xs) (over xs at new)) ≡ length xs
put_length xs new at = elim (cases_lt at (length xs)) [
  | inl inside ↦ length-take-le (length xs) (over xs at new) (omega (arith, inside, count, length-take-le at xs (omega (arith, inside))))
  | inr past ↦ length-take-le (length xs) (over xs at new) (omega (arith, past, count, ap length (take_all at xs past)))
]
  where
    count : length (over xs at new) ≡ length (take at xs) + (length new + (length xs - (at + length new)))
    count =
        length-append (take at xs) (new ++ drop (at + length new) xs)
        ∙ ap (λ n. length (take at xs) + n) (length-append new (drop (at + length new) xs) ∙ ap (λ n. length new + n) (length-drop (at + length new) xs))

-- so many as lie inside
put_first : {A : Type 0} (xs new : List A) (at n : ℕ) → at + n ≡ length xs → n ≤ length new → over xs at (take n new) ≡ take (length xs) (over xs at new)
put_first xs new at n end passes =
    let front : length (take at xs) ≡ at = length-take-le at xs (omega (arith, end)) in
    let count : length (take n new) ≡ n = length-take-le n new passes in
    let whole : at + length (take n new) ≡ length xs = omega (arith, count, end) in
    let all : length (take at xs) + n ≡ length xs = omega (arith, front, end) in
    let rest = new ++ drop (at + length new) xs in
    ap (λ k. take at xs ++ (take n new ++ drop k xs)) whole
    ∙ ap (λ zs. take at xs ++ (take n new ++ zs)) (drop_whole xs)
    ∙ ap (λ zs. take at xs ++ zs) (append-nil (take n new))
    ∙ ap (λ zs. take at xs ++ zs) (sym (take-append-le n new (drop (at + length new) xs) passes))
    ∙ sym (take-append-add (take at xs) rest n)
    ∙ ap (λ k. take k (take at xs ++ rest)) all

put_some : {A : Type 0} (xs new : List A) (at : ℕ) → at < length xs → over xs at (take (length xs - at) new) ≡ take (length xs) (over xs at new)
put_some xs new at lt = elim (cases_lt (length xs) (at + length new)) [
  | inl passes ↦ put_first xs new at (length xs - at) (omega (arith, lt)) (omega (arith, passes, lt))
  | inr fits ↦
      ap (over xs at) (take_all (length xs - at) new (omega (arith, fits, lt)))
      ∙ sym (take_all (length xs) (over xs at new) (let n = over_length xs new at fits in omega (arith, n)))
]

map_take : {A B : Type 0} (go : A → B) (n : ℕ) (xs : List A) → map go (take n xs) ≡ take n (map go xs)
map_take go zero xs = refl
map_take go (suc n) [] = refl
map_take go (suc n) (x ∷ xs) = ap (λ zs. go x ∷ zs) (map_take go n xs)

pub put_taken : (table : List (Option ℕ)) (functions : List ℕ) (at : ℕ) → at < length table → over table at (map Some (take (length table - at) functions)) ≡ take (length table) (over table at (map Some functions))
put_taken table functions at lt = ap (over table at) (map_take Some (length table - at) functions) ∙ put_some table (map Some functions) at lt

-- ---- what stands behind so many entries does not matter to them

take_twice : {A : Type 0} (n : ℕ) (xs : List A) → take n (take n xs) ≡ take n xs
take_twice zero xs = refl
take_twice (suc n) [] = refl
take_twice (suc n) (x ∷ xs) = ap (λ zs. x ∷ zs) (take_twice n xs)

take_behind : {A : Type 0} (n : ℕ) (new xs : List A) → take n (new ++ drop (length new) (take n xs)) ≡ take n (new ++ drop (length new) xs)
take_behind n [] xs = take_twice n xs
take_behind zero (y ∷ ys) xs = refl
take_behind (suc n) (y ∷ ys) [] = refl
take_behind (suc n) (y ∷ ys) (x ∷ xs) = ap (λ zs. y ∷ zs) (take_behind n ys xs)

over_one : {A : Type 0} (x : A) (xs new : List A) (at : ℕ) → over (x ∷ xs) (suc at) new ≡ x ∷ over xs at new
over_one x xs new at = let next : suc at + length new ≡ suc (at + length new) = omega arith in ap (λ k. x ∷ (take at xs ++ (new ++ drop k (x ∷ xs)))) next

take_over : {A : Type 0} (n : ℕ) (xs new : List A) (at : ℕ) → take n (over (take n xs) at new) ≡ take n (over xs at new)
take_over n xs new zero = let none : length new ≡ 0 + length new = omega arith in subst (λ k. take n (new ++ drop k (take n xs)) ≡ take n (new ++ drop k xs)) none (take_behind n new xs)
take_over zero xs new (suc at) = refl
take_over (suc n) [] new (suc at) = refl
take_over (suc n) (x ∷ xs) new (suc at) = ap (take (suc n)) (over_one x (take n xs) new at) ∙ ap (λ zs. x ∷ zs) (take_over n xs new at) ∙ sym (ap (take (suc n)) (over_one x xs new at))

over_same : {A : Type 0} (n : ℕ) (xs ys new : List A) (at : ℕ) → take n xs ≡ take n ys → take n (over xs at new) ≡ take n (over ys at new)
over_same n xs ys new at e = sym (take_over n xs new at) ∙ ap (λ zs. take n (over zs at new)) e ∙ take_over n ys new at

pub fold_same : (m : Module) (n : ℕ) (es : List ElementSeg) (xs ys : List (Option ℕ)) → take n xs ≡ take n ys → take n (fold (put_element m) xs es) ≡ take n (fold (put_element m) ys es)
fold_same m n [] xs ys e = e
fold_same m n (s ∷ es) xs ys e = fold_same m n es (put_element m xs s) (put_element m ys s) (over_same n xs ys (map Some s.functions) (element_at m s) e)

-- a segment more
pub put_more : (m : Module) (n : ℕ) (es : List ElementSeg) (s : ElementSeg) (xs ys : List (Option ℕ)) → ys ≡ take n (put_element m xs s) → take n (fold (put_element m) ys es) ≡ take n (fold (put_element m) xs (s ∷ es))
put_more m n es s xs ys e = fold_same m n es ys (put_element m xs s) (ap (take n) e ∙ take_twice n (put_element m xs s))

pub put_next : (m : Module) (n i : ℕ) (es : List ElementSeg) (s : ElementSeg) (old xs ys : List (Option ℕ)) → i < length es → s ≡ get_or es i s → ys ≡ take n (put_element m xs s)
    → take n (fold (put_element m) xs (drop i es)) ≡ take n (fold (put_element m) old es) → take n (fold (put_element m) ys (drop (i + 1) es)) ≡ take n (fold (put_element m) old es)
put_next m n i es s old xs ys lt is e so_far =
    let next : suc i ≡ i + 1 = omega arith in
    let split : drop i es ≡ s ∷ drop (i + 1) es = drop-cons es i s lt ∙ ap (λ (z : ElementSeg). z ∷ drop (suc i) es) (sym is) ∙ ap (λ k. s ∷ drop k es) next in
    put_more m n (drop (i + 1) es) s xs ys e ∙ ap (λ zs. take n (fold (put_element m) xs zs)) (sym split) ∙ so_far
