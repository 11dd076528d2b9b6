-- The hexadecimal digits of a number are those of the number without its last digit, and that digit.
use Rattle.std.proofs.Common.{◌≡◌, ℕ, suc, zero, ◌+◌, ◌/◌, ◌%◌, ◌^◌, ◌<◌, ◌≤◌, Bool, true, false, cond, eqb, List, [], ◌∷◌, ◌++◌, length, refl, sym, ap, inl, inr, ◌∙◌, append_assoc, arith}
use Rattle.std.proofs.lemmas.List.{length-append}
use Rattle.std.proofs.lemmas.Fmt.{hex_one_digit}
use Rattle.std.proofs.lemmas.Bool.{cases_lt}
use borrow.Author.Tests.{eq-eqb, ne_eqb}
use Rattle.std.specs.Fmt.{digits, digits_onto, digit_glyph}
use Rattle.pm_text.specs.Hex.{hex_digit}

abbrev glyph : ℕ → ℕ
glyph n = digit_glyph false (n % 16)

abbrev onto : ℕ → ℕ → List ℕ → List ℕ
onto k n acc = digits_onto k 16 false n acc

-- the digits stand in front of what they are put onto
fronted : (b : Bool) (k n g : ℕ) (acc : List ℕ) → ((more : List ℕ) → onto k n more ≡ onto k n [] ++ more) → cond b (g ∷ acc) (onto k n (g ∷ acc)) ≡ cond b (g ∷ []) (onto k n (g ∷ [])) ++ acc
fronted true k n g acc front = refl
fronted false k n g acc front = front (g ∷ acc) ∙ sym (append_assoc (onto k n []) (g ∷ []) acc) ∙ ap (λ l. l ++ acc) (sym (front (g ∷ [])))

onto_front : (k n : ℕ) (acc : List ℕ) → onto k n acc ≡ onto k n [] ++ acc
onto_front zero n acc = refl
onto_front (suc k) n acc = fronted (eqb (n / 16) 0) k (n / 16) (glyph n) acc (onto_front k (n / 16))

-- one digit more changes nothing where the number has fewer
onto_last : (k n : ℕ) (acc : List ℕ) → n < 16 → onto (suc k) n acc ≡ glyph n ∷ acc
onto_last k n acc h = ap (λ b. cond b (glyph n ∷ acc) (onto k (n / 16) (glyph n ∷ acc))) (eq-eqb (n / 16) 0 (omega arith))

onto_next : (k n : ℕ) (acc : List ℕ) → 16 ≤ n → onto (suc k) n acc ≡ onto k (n / 16) (glyph n ∷ acc)
onto_next k n acc h = ap (λ b. cond b (glyph n ∷ acc) (onto k (n / 16) (glyph n ∷ acc))) (ne_eqb (n / 16) 0 (λ e. omega arith))

onto_more : (k n : ℕ) (acc : List ℕ) → n < 16 ^ suc k → onto (suc k) n acc ≡ onto (suc (suc k)) n acc
onto_more zero n acc h = onto_last 0 n acc (omega arith) ∙ sym (onto_last 1 n acc (omega arith))
onto_more (suc k) n acc h = elim (cases_lt n 16) [
  | inl small ↦ onto_last (suc k) n acc small ∙ sym (onto_last (suc (suc k)) n acc small)
  | inr large ↦ onto_next (suc k) n acc large ∙ onto_more k (n / 16) (glyph n ∷ acc) (omega arith) ∙ sym (onto_next (suc (suc k)) n acc large)
]

pub hex_one : (n : ℕ) → n < 16 → digits 16 false n ≡ hex_digit n ∷ []
hex_one n h = hex_one_digit false n h

pub hex_step : (n : ℕ) → 16 ≤ n → n < 2 ^ 64 → digits 16 false n ≡ digits 16 false (n / 16) ++ hex_digit (n % 16) ∷ []
unfolding digits
hex_step n h small = onto_next 63 n [] h ∙ onto_front 63 (n / 16) (glyph n ∷ []) ∙ ap (λ l. l ++ glyph n ∷ []) (onto_more 62 (n / 16) [] (omega arith))

pub hex_one_len : (n : ℕ) → n < 16 → length (digits 16 false n) ≡ 1
hex_one_len n h = ap length (hex_one n h)

pub hex_step_len : (n : ℕ) → 16 ≤ n → n < 2 ^ 64 → length (digits 16 false n) ≡ length (digits 16 false (n / 16)) + 1
hex_step_len n h small = ap length (hex_step n h small) ∙ length-append (digits 16 false (n / 16)) (hex_digit (n % 16) ∷ [])
