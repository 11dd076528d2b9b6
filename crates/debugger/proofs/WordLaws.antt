-- The words of a text at its first space.
use Rattle.std.proofs.Common.{◌≡◌, ℕ, Bool, true, false, List, [], ◌∷◌, length, eqb, refl, sym, ap, ap₂, ◌∙◌, arith, Some, None, Bor}
use Rattle.std.specs.List.{position_or_len, slice_split, onto_first}
use Rattle.std.proofs.lemmas.List.Splits.{slice_split_first, slice_split-cons_yes, slice_split-cons_no}
use Rattle.std.proofs.lemmas.Str.Pattern.{IsSplitOnceResult, split_once_first}
use Rattle.debugger.specs.declared.command.Command.TheVariants.{Bad}
use Rattle.debugger.specs.Commands.{command_of}

pub words_split : (text : List ℕ) (p : Bor (List ℕ) × Bor (List ℕ)) → IsSplitOnceResult 32 text (Some p) → slice_split (λ b. eqb b 32) text ≡ p.0.now ∷ slice_split (λ b. eqb b 32) p.1.now
words_split text p h =
    let s = split_once_first 32 text (Some p) h (omega arith) in
    slice_split_first (λ b. eqb b 32) text 0 s.0 ∙ ap₂ (λ word rest. word ∷ slice_split (λ b. eqb b 32) rest) (sym s.1) (sym s.2)

pub none_split : (p : ℕ → Bool) (xs : List ℕ) → position_or_len p xs ≡ length xs → slice_split p xs ≡ xs ∷ []
none_split p [] e = refl
none_split p (x ∷ xs) e = by_test (p x) refl (λ e'. none_split p xs e')
  where
    by_test : (b : Bool) → p x ≡ b → (position_or_len p xs ≡ length xs → slice_split p xs ≡ xs ∷ []) → slice_split p (x ∷ xs) ≡ (x ∷ xs) ∷ []
    by_test true q ih = absurd (let z = rw q at e in omega (arith, z))
    by_test false q ih = let z = rw q at e in slice_split-cons_no p x xs q ∙ rw (ih (omega (arith, z))) refl

pub one_alone : (text : List ℕ) → IsSplitOnceResult 32 text None → slice_split (λ b. eqb b 32) text ≡ text ∷ []
one_alone text h = none_split (λ b. eqb b 32) text (split_once_first 32 text None h (omega arith))

-- there is a first word
pub split_some : (p : ℕ → Bool) (xs : List ℕ) → (word : List ℕ) × (more : List (List ℕ)) × (slice_split p xs ≡ word ∷ more)
split_some p [] = ([], [], refl)
split_some p (x ∷ xs) = by_test (p x) refl (split_some p xs)
  where
    by_test : (b : Bool) → p x ≡ b → ((word : List ℕ) × (more : List (List ℕ)) × (slice_split p xs ≡ word ∷ more)) → (word : List ℕ) × (more : List (List ℕ)) × (slice_split p (x ∷ xs) ≡ word ∷ more)
    by_test true q ih = ([], slice_split p xs, slice_split-cons_yes p x xs q)
    by_test false q ih = (x ∷ ih.0, ih.1, slice_split-cons_no p x xs q ∙ ap (onto_first x) ih.2)

pub four_words : (w x y text rest : List ℕ) → slice_split (λ b. eqb b 32) text ≡ y ∷ slice_split (λ b. eqb b 32) rest → command_of (w ∷ x ∷ slice_split (λ b. eqb b 32) text) ≡ Bad
four_words w x y text rest e =
    let s = split_some (λ b. eqb b 32) rest in
    ap (λ words. command_of (w ∷ x ∷ words)) (e ∙ ap (λ words. y ∷ words) s.2)
