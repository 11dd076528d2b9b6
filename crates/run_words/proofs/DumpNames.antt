-- Names of files for dumps.
use Rattle.std.proofs.Common.{◌≡◌, ℕ, ◌+◌, Bool, true, false, List, [], ◌∷◌, ◌++◌, length, drop, refl, ap, ◌<◌, ◌∙◌}
use Rattle.std.specs.Prelude.{◌&&◌, nat_eq, codes}
use Rattle.std.specs.List.{AllPass, starts_with}
use Rattle.std.proofs.lemmas.List.{drop-drop}
use Rattle.std.specs.Bool.{Decides}
use Rattle.std.specs.Char.{is_ascii_digit}
use Rattle.std.specs.Str.{all_ascii_digits}
use Rattle.std.proofs.lemmas.Bool.{lt-ltb}
use Rattle.std.proofs.lemmas.Bool.Decides.{Decides-by_and, same_from_decides}
use Rattle.run_words.specs.RunWords.{is_number}

both_parts : (a b c : Bool) → (a && (b && c)) ≡ ((a && b) && c)
both_parts true b c = refl
both_parts false b c = refl

-- a text begins with two parts, where it begins with the first one, and the rest with the second one
starts_both : (first mark text : List ℕ) → starts_with nat_eq text (first ++ mark) ≡ (starts_with nat_eq text first && starts_with nat_eq (drop (length first) text) mark)
starts_both [] mark text = refl
starts_both (f ∷ fs) mark [] = refl
starts_both (f ∷ fs) mark (c ∷ cs) = ap (λ (b : Bool). nat_eq f c && b) (starts_both fs mark cs) ∙ both_parts (nat_eq f c) (starts_with nat_eq cs fs) (starts_with nat_eq (drop (length fs) cs) mark)

abbrev is_numbered : (first file : List ℕ) → Bool
is_numbered first file = starts_with nat_eq file (first ++ codes ".") && is_number (drop (length first + 1) file)

pub no_front : (first file : List ℕ) → starts_with nat_eq file first ≡ false → is_numbered first file ≡ false
no_front first file other = rw (starts_both first (codes ".") file, other) refl

pub no_dot : (first file rest : List ℕ) → rest ≡ drop (length first) file → starts_with nat_eq file first ≡ true → starts_with nat_eq rest (codes ".") ≡ false → is_numbered first file ≡ false
no_dot first file rest is begins other = rw (starts_both first (codes ".") file, begins, ← is, other) refl

pub behind_dot : (first file rest number : List ℕ) → rest ≡ drop (length first) file → starts_with nat_eq file first ≡ true → starts_with nat_eq rest (codes ".") ≡ true → number ≡ drop 1 rest → is_numbered first file ≡ is_number number
behind_dot first file rest number is begins dot behind =
    let all : number ≡ drop (length first + 1) file = behind ∙ ap (drop 1) is ∙ drop-drop 1 (length first) file in
    rw (starts_both first (codes ".") file, begins, ← is, dot, ← all) refl

-- ---- digits

all_digits : (word : List ℕ) → Decides (all_ascii_digits word) (AllPass is_ascii_digit word)
all_digits word = Decides-by_and is_ascii_digit (λ b. is_ascii_digit b ≡ true) all_ascii_digits (λ b. (λ h. h, λ h. h)) refl (λ b bs. refl) word

pub is_digits : (word : List ℕ) (r : Bool) → (r ≡ true → AllPass is_ascii_digit word) × (AllPass is_ascii_digit word → r ≡ true) → 0 < length word → r ≡ is_number word
is_digits word r tells some = rw (lt-ltb 0 (length word) some) (same_from_decides r (all_ascii_digits word) tells (all_digits word))
