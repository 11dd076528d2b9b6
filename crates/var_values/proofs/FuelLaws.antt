-- Numbers of one byte more.
use Rattle.std.proofs.Common.{◌≡◌, ℕ, zero, suc, ◌-◌, ◌*◌, ◌/◌, ◌%◌, ◌^◌, ◌<◌, ◌≤◌, List, [], ◌++◌, Ok, Err, Result, refl, sym, ap, ◌∙◌, append_assoc, arith}
use Rattle.std.specs.Prelude.{ℤ, pos, ◌+ℤ◌, IfOk, OnOk}
use Rattle.std.proofs.Math.Nat.{pow-le-pow_right, pow-succ'}
use Rattle.std.proofs.lemmas.List.{append-nil}
use Rattle.pm_text.specs.Hex.{hex_padded}
use Rattle.var_values.specs.declared.mark.Mark.{Mark}
use Rattle.var_values.specs.declared.source.Source.{Source}
use Rattle.var_values.specs.Bytes.{Recorded, byte_at, joined, number_at}
use Rattle.var_values.specs.Texts.{byte_digits}

pub no_bytes : (m : Recorded) (s : Source) (z : ℤ) (n : ℕ) → n ≡ 0 → number_at m s z n ≡ Ok 0
unfolding number_at
no_bytes m s z zero e = refl
no_bytes m s z (suc n) e = absurd (omega arith)

pub more_bytes : (m : Recorded) (s : Source) (z : ℤ) (n : ℕ) → 0 < n → number_at m s z n ≡ joined (byte_at m s z) (number_at m s (z +ℤ pos 1) (n - 1))
unfolding number_at
more_bytes m s z zero h = absurd (omega arith)
more_bytes m s z (suc n) h = let less : suc n - 1 ≡ n = omega arith in rw less refl

pub short_number : (r : Result ℕ Mark) (n : ℕ) → n ≤ 15 → IfOk r (λ w. w < 256 ^ n) → IfOk r (λ w. w < 2 ^ 120)
short_number (Ok w) n short h =
    let power : 256 ^ n ≤ 256 ^ 15 = pow-le-pow_right (omega arith) short in
    omega (arith, h, power)
short_number (Err m) n short h = tt

pub one_byte_more : (r : Result ℕ Mark) (n : ℕ) → 0 < n → IfOk r (λ w. w < 256 * 256 ^ (n - 1)) → IfOk r (λ w. w < 256 ^ n)
one_byte_more (Ok w) zero some h = absurd (omega arith)
one_byte_more (Ok w) (suc n) some h =
    let less : suc n - 1 ≡ n = omega arith in
    let here : w < 256 * 256 ^ n = rw less at h in
    let power : 256 ^ suc n ≡ 256 * 256 ^ n = pow-succ' 256 n in
    omega (arith, here, power)
one_byte_more (Err m) n some h = tt

pub no_digits : (n w : ℕ) → n ≡ 0 → byte_digits n w ≡ []
unfolding byte_digits
no_digits zero w e = refl
no_digits (suc n) w e = absurd (omega arith)

pub more_digits : (n w : ℕ) → 0 < n → byte_digits n w ≡ byte_digits (n - 1) (w / 256) ++ hex_padded 2 (w % 256)
unfolding byte_digits
more_digits zero w h = absurd (omega arith)
more_digits (suc n) w h = let less : suc n - 1 ≡ n = omega arith in rw less refl

pub joined_bytes : (m : Recorded) (s : Source) (z : ℤ) (n : ℕ) (all : Result ℕ Mark) (first rest : Result ℕ Mark) → 0 < n → all ≡ joined first rest → first ≡ byte_at m s z
    → rest ≡ number_at m s (z +ℤ pos 1) (n - 1) → all ≡ number_at m s z n
joined_bytes m s z n all first rest some are here next =
    are ∙ ap (λ (b : Result ℕ Mark). joined b rest) here ∙ ap (joined (byte_at m s z)) next ∙ sym (more_bytes m s z n some)

pub digits_pushed : {A E : Type 0} (r : Result A E) (new mid old : List ℕ) (n w : ℕ) → 0 < n → OnOk r (new ≡ mid ++ hex_padded 2 (w % 256)) → mid ≡ old ++ byte_digits (n - 1) (w / 256)
    → OnOk r (new ≡ old ++ byte_digits n w)
digits_pushed (Ok x) new mid old n w some last front =
    last ∙ ap (λ (ds : List ℕ). ds ++ hex_padded 2 (w % 256)) front ∙ append_assoc old (byte_digits (n - 1) (w / 256)) (hex_padded 2 (w % 256))
    ∙ ap (λ (ds : List ℕ). old ++ ds) (sym (more_digits n w some))
digits_pushed (Err e) new mid old n w some last front = tt

pub none_pushed : (old : List ℕ) (n w : ℕ) → n ≡ 0 → old ≡ old ++ byte_digits n w
none_pushed old n w none = sym (ap (λ (ds : List ℕ). old ++ ds) (no_digits n w none) ∙ append-nil old)
