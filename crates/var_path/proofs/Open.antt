-- What is unclosed, from the last byte in front on.
use Rattle.std.proofs.Common.{◌≡◌, ℕ, suc, ◌-◌, ◌<◌, true, false, List, [], ◌∷◌, ◌++◌, length, take, get_or, refl, sym, ap, ◌∙◌, arith}
use Rattle.std.specs.Prelude.{reverse, ◌==◌}
use Rattle.std.proofs.lemmas.Bool.{eqb-true}
use Rattle.std.proofs.lemmas.List.{reverse-append, length-reverse, get_or_default}
use Rattle.std.proofs.Math.Seq.{take-suc, take-length}
use Rattle.var_path.specs.declared.path.Step.TheVariants.{Deref}
use Rattle.var_path.specs.Reading.{derefs, behind_stars}

-- the last byte comes first
pub last_first : (xs : List ℕ) (b : ℕ) → 0 < length xs → get_or xs (length xs - 1) b ≡ b → reverse xs ≡ b ∷ reverse (take (length xs - 1) xs)
last_first xs b some is =
    let lt : length xs - 1 < length xs = omega arith in
    let one : suc (length xs - 1) ≡ length xs = omega arith in
    let whole : xs ≡ take (length xs - 1) xs ++ (b ∷ []) =
    sym (take-length xs) ∙ ap (λ (n : ℕ). take n xs) (sym one) ∙ take-suc xs (length xs - 1) b lt ∙ ap (λ (x : ℕ). take (length xs - 1) xs ++ (x ∷ [])) is in
    ap reverse whole ∙ reverse-append (take (length xs - 1) xs) (b ∷ [])

pub star_derefs : (xs : List ℕ) → 0 < length xs → get_or xs (length xs - 1) 42 ≡ 42 → derefs (reverse xs) ≡ Deref ∷ derefs (reverse (take (length xs - 1) xs))
star_derefs xs some is = ap derefs (last_first xs 42 some is)

pub star_behind : (xs : List ℕ) → 0 < length xs → get_or xs (length xs - 1) 42 ≡ 42 → behind_stars (reverse xs) ≡ behind_stars (reverse (take (length xs - 1) xs))
star_behind xs some is = ap behind_stars (last_first xs 42 some is)

pub other_derefs : (xs : List ℕ) (b : ℕ) → 0 < length xs → get_or xs (length xs - 1) b ≡ b → (b == 42) ≡ false → derefs (reverse xs) ≡ []
other_derefs xs b some is other = rw (last_first xs b some is) (rw other refl)

pub other_behind : (xs : List ℕ) (b : ℕ) → 0 < length xs → get_or xs (length xs - 1) b ≡ b → (b == 42) ≡ false → behind_stars (reverse xs) ≡ reverse xs
other_behind xs b some is other = ap behind_stars (last_first xs b some is) ∙ rw other (sym (last_first xs b some is))

pub last_apart : (xs : List ℕ) → 0 < length xs → (b : ℕ) × (reverse xs ≡ b ∷ reverse (take (length xs - 1) xs))
last_apart xs some =
    let b = get_or xs (length xs - 1) 0 in
    let lt : length xs - 1 < length xs = omega arith in
    (b, last_first xs b some (get_or_default xs (length xs - 1) b 0 lt))

empty_of : (xs : List ℕ) → length xs ≡ 0 → xs ≡ []
empty_of [] e = refl
empty_of (x ∷ xs) e = absurd (omega arith)

pub none_left : (xs ys : List ℕ) → reverse xs ≡ ys → (length xs == 0) ≡ true → ys ≡ []
none_left xs ys are e = sym are ∙ ap reverse (empty_of xs (eqb-true (length xs) 0 e))

pub some_left : (xs ys : List ℕ) → reverse xs ≡ ys → (length xs == 0) ≡ false → length ys ≡ 0 → ⊥
some_left xs ys are e none =
    let zero_long : length xs ≡ 0 = sym (length-reverse xs) ∙ ap length are ∙ none in
    let no : false ≡ true = sym e ∙ ap (λ (n : ℕ). n == 0) zero_long in
    absurd cc
