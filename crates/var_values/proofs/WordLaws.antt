-- Words in bits.
use Rattle.std.proofs.Common.{◌≡◌, ℕ, ◌+◌, ◌-◌, ◌*◌, ◌/◌, ◌%◌, ◌^◌, ◌<◌, ◌≤◌, Ok, Err, sym, ap, ◌∙◌, arith}
use Rattle.std.specs.Prelude.{ℤ, pos, ◌+ℤ◌}
use Rattle.std.proofs.Math.Nat.{add-mul-div_left, add-mod-mod, mul_assoc, mul_comm}
use Rattle.std.proofs.Math.Pow.{mod-mod-pow}
use Rattle.std.proofs.lemmas.Nat.{pow-add, pow_pos}
use Rattle.var_values.specs.declared.mark.Mark.{Mark}
use Rattle.var_values.specs.declared.source.Source.{Source}
use Rattle.var_values.specs.Bytes.{Recorded, number_at}
use Rattle.var_values.proofs.FuelLaws.{no_bytes}
use Rattle.var_values.specs.declared.bits.Bits.{Bits}
use Rattle.var_values.specs.declared.word.Wide.{Wide}
use Rattle.var_values.specs.Places.{Place}
use Rattle.var_values.specs.Scalars.{holding, cut, result_map, word_in}
use Rattle.var_values.specs.inner.Wide.{value, number}

pub no_word : (m : Recorded) (s : Source) (z : ℤ) (n : ℕ) → n ≡ 0 → Ok 0 ≡ number_at m s z n
no_word m s z n none = sym (no_bytes m s z n none)

-- the first byte and the others, without the lowest s bits
shifted_is : (s first rest : ℕ) → s ≤ 8 → (first + 256 * rest) / 2 ^ s ≡ first / 2 ^ s + rest * 2 ^ (8 - s)
shifted_is s first rest le =
    let parts : s + (8 - s) ≡ 8 = omega arith in
    let whole : 2 ^ s * 2 ^ (8 - s) ≡ 256 = sym (pow-add 2 s (8 - s)) ∙ ap (λ (n : ℕ). 2 ^ n) parts in
    let some : 0 < 2 ^ s = pow_pos s in
    ap (λ (n : ℕ). (first + n) / 2 ^ s) (ap (λ (n : ℕ). n * rest) (sym whole) ∙ mul_assoc (2 ^ s) (2 ^ (8 - s)) rest)
    ∙ add-mul-div_left first (2 ^ (8 - s) * rest) some ∙ ap (λ (n : ℕ). first / 2 ^ s + n) (mul_comm (2 ^ (8 - s)) rest)

pub wrapped : (s first rest : ℕ) → s < 8 → (rest * 2 ^ (8 - s) % 2 ^ 128 + first / 2 ^ s) % 2 ^ 128 ≡ (first + 256 * rest) / 2 ^ s % 2 ^ 128
wrapped s first rest lt =
    let shift : s ≤ 8 = omega arith in
    let swap : (a b : ℕ) → a + b ≡ b + a = λ a b. omega arith in
    ap (λ (n : ℕ). n % 2 ^ 128) (swap (rest * 2 ^ (8 - s) % 2 ^ 128) (first / 2 ^ s)) ∙ add-mod-mod (first / 2 ^ s) (rest * 2 ^ (8 - s)) (2 ^ 128)
    ∙ ap (λ (n : ℕ). n % 2 ^ 128) (sym (shifted_is s first rest shift))

pub cut_is : (n k : ℕ) → k ≤ 128 → n % 2 ^ 128 % 2 ^ k ≡ n % 2 ^ k
cut_is n k le =
    let parts : 128 ≡ (128 - k) + k = omega arith in
    ap (λ (j : ℕ). n % 2 ^ j % 2 ^ k) parts ∙ mod-mod-pow n (128 - k) k

pub shifted_by : (s first rest p q f : ℕ) → s < 8 → p ≡ 2 ^ (8 - s) → q ≡ 2 ^ s → f ≡ first → (rest * p % 2 ^ 128 + f / q) % 2 ^ 128 ≡ (first + 256 * rest) / 2 ^ s % 2 ^ 128
shifted_by s first rest p q f lt up down is =
    ap (λ (n : ℕ). (rest * n % 2 ^ 128 + f / q) % 2 ^ 128) up ∙ ap (λ (n : ℕ). (rest * 2 ^ (8 - s) % 2 ^ 128 + f / n) % 2 ^ 128) down
    ∙ ap (λ (n : ℕ). (rest * 2 ^ (8 - s) % 2 ^ 128 + n / 2 ^ s) % 2 ^ 128) is ∙ wrapped s first rest lt

pub word_is : (m : Recorded) (p : Place) (b : Bits) (wide : Wide) (low shift : ℕ) → Ok (value wide) ≡ number_at m p.source (p.offset +ℤ pos (b.first / 8)) (holding b)
    → shift ≡ value wide / 2 ^ (b.first % 8) % 2 ^ 128 → low ≡ shift % 2 ^ b.count → b.count ≤ 128 → Ok low ≡ word_in m p b
unfolding word_in
word_is m p b wide low shift number shifts lows few =
    let bits : low ≡ cut b (value wide) = lows ∙ ap (λ (w : ℕ). w % 2 ^ b.count) shifts ∙ cut_is (value wide / 2 ^ (b.first % 8)) b.count few in
    ap (λ (w : ℕ). Ok w) bits ∙ ap (result_map (cut b)) number

-- a mark
pub no_word_is : (m : Recorded) (p : Place) (b : Bits) (mark : Mark) → Err mark ≡ number_at m p.source (p.offset +ℤ pos (b.first / 8)) (holding b) → Err mark ≡ word_in m p b
unfolding word_in
no_word_is m p b mark number = ap (result_map (cut b)) number
