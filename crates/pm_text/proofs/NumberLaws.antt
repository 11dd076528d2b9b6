-- Decimal texts as std reads them.
use Rattle.std.proofs.Common.{◌≡◌, ◌≢◌, ℕ, ◌^◌, ◌≤◌, ◌<◌, true, false, List, length, get_or, nat_eq, refl, sym, ap, ◌∙◌, arith, Option, Some, None}
use Rattle.std.specs.Fmt.{decimal}
use Rattle.std.specs.List.{starts_with}
use Rattle.std.specs.Str.{all_ascii_digits}
use Rattle.std.specs.Str.Parse.{ParsesUnsigned}
use Rattle.std.specs.Str.Pattern.{FindsTextPrefix}
use Rattle.std.specs.Result.{result_ok}
use Rattle.std.specs.Prelude.{Result, Ok, Err}
use Rattle.std.proofs.lemmas.Bool.Decides.{nat_tests}
use Rattle.std.proofs.lemmas.Fmt.{digits_decimal, digits_value-decimal, decimal_nonempty, length-decimal-le}
use Rattle.std.proofs.lemmas.Str.Parse.{IsNumeralModel, numerals_by_weight, tells_all_ascii_digits, parse_plain}
use Rattle.std.proofs.lemmas.Str.Pattern.{starts_text}
use Rattle.pm_text.specs.Numbers.{digits_sum, decimal_value}

-- the sum of weighted digits is the number that std reads
pub decimals : IsNumeralModel (λ ds. all_ascii_digits ds ≡ true) digits_sum
decimals = numerals_by_weight _ tells_all_ascii_digits digits_sum (record { empty = refl; more = λ c cs h. refl })

value_read : (text : List ℕ) → length text ≤ 20 → (all_ascii_digits text ≡ true) × (0 < length text) × (digits_sum text < 2 ^ 64) → decimal_value text ≡ Some (digits_sum text)
unfolding decimal_value
value_read text short (digits, some, small) = grind (arith, nat_tests)

pub value_none : (text : List ℕ) → ((all_ascii_digits text ≡ true) × (0 < length text) × (digits_sum text < 2 ^ 64) → ⊥) → decimal_value text ≡ None
unfolding decimal_value
value_none text not = grind (arith, nat_tests)

pub parsed : {E : Type 0} (text : List ℕ) (r : Result ℕ E) (o : Option ℕ) → ParsesUnsigned 64 10 text r → get_or text 0 0 ≢ 43 → length text ≤ 20 → o ≡ result_ok r → o ≡ decimal_value text
parsed {E} text (Ok x) o h plus short e = let p = parse_plain decimals {E = E} 64 text (Ok x) h plus in e ∙ ap Some p.1 ∙ sym (value_read text short p.0)
parsed {E} text (Err x) o h plus short e = let p = parse_plain decimals {E = E} 64 text (Err x) h plus in e ∙ sym (value_none text p)

pub begins : (front text : List ℕ) (k : ℕ) → FindsTextPrefix front text (Some k) → starts_with nat_eq text front ≡ true
begins front text k h = sym (starts_text true front text (k, (h.0, h.1, h.2), rw h.0 h.2))

pub begins_not : (front text : List ℕ) → FindsTextPrefix front text None → starts_with nat_eq text front ≡ false
begins_not front text h = sym (starts_text false front text h)

-- a number below 2 ^ 64 is read from the text that it is written as
pub decimal_back : (n : ℕ) → n < 2 ^ 64 → decimal_value (decimal n) ≡ Some n
decimal_back n small =
    let same : digits_sum (decimal n) ≡ n = digits_value-decimal decimals n small in
    let short : length (decimal n) ≤ 20 = length-decimal-le 20 n (omega arith) (omega arith) small in
    value_read (decimal n) short (digits_decimal decimals n small, decimal_nonempty n small, omega arith) ∙ ap Some same
