-- The numbers that a text writes fit their width.
use Rattle.std.proofs.Common.{◌≡◌, ℕ, ◌-◌, ◌%◌, ◌^◌, ◌<◌, Bool, true, false, cond, List, refl, sym, ap, arith, Option, Some, None}
use Rattle.std.specs.Prelude.{nat_lt, nat_le, codes, drop, option_and_then}
use Rattle.std.specs.List.{starts_with}
use Rattle.std.specs.Option.{option_map}
use Rattle.std.proofs.lemmas.Bool.{ltb-true}
use Rattle.pm_text.specs.Numbers.{number_value, integer_bits, positive_bits, negative_bits, number_of, decimal_value}
use Rattle.pm_text.specs.declared.numbers.Number.{Number}
use Rattle.std.specs.Prelude.{nat_eq}

positive_fits : (n bits : ℕ) → positive_bits 32 n ≡ Some bits → bits < 2 ^ 32
positive_fits n bits is = cases (nat_lt n (2 ^ 32)) refl is where
  cases : (b : Bool) → nat_lt n (2 ^ 32) ≡ b → (let none : Option ℕ = None in cond b (Some n) none) ≡ Some bits → bits < 2 ^ 32
  cases true e is = let same : n ≡ bits = cc in omega (arith, same, ltb-true n (2 ^ 32) e)
  cases false e is = cc

negative_fits : (n bits : ℕ) → negative_bits 32 n ≡ Some bits → bits < 2 ^ 32
negative_fits n bits is = cases (nat_le n (2 ^ (32 - 1))) is where
  cases : (b : Bool) → (let none : Option ℕ = None in cond b (Some ((2 ^ 32 - n) % 2 ^ 32)) none) ≡ Some bits → bits < 2 ^ 32
  cases true is = let same : (2 ^ 32 - n) % 2 ^ 32 ≡ bits = cc in omega (arith, same)
  cases false is = cc

after : (f : ℕ → Option ℕ) (o : Option ℕ) (bits : ℕ) → ((n m : ℕ) → f n ≡ Some m → m < 2 ^ 32) → option_and_then f o ≡ Some bits → bits < 2 ^ 32
after f (Some n) bits fits is = fits n bits is
after f None bits fits is = cc

integer_fits : (text : List ℕ) (bits : ℕ) → integer_bits 32 text ≡ Some bits → bits < 2 ^ 32
unfolding integer_bits
integer_fits text bits is = cases (starts_with nat_eq text (codes "-")) is where
  cases : (b : Bool) → cond b (option_and_then (negative_bits 32) (decimal_value (drop 1 text))) (option_and_then (positive_bits 32) (decimal_value text)) ≡ Some bits → bits < 2 ^ 32
  cases true is = after (negative_bits 32) (decimal_value (drop 1 text)) bits negative_fits is
  cases false is = after (positive_bits 32) (decimal_value text) bits positive_fits is

narrow : (o : Option ℕ) (n : Number) → option_map (number_of false) o ≡ Some n → o ≡ Some n.bits
narrow (Some m) n is = let same : number_of false m ≡ n = cc in ap Some (ap (λ (k : Number). k.bits) same)
narrow None n is = cc

wide : (o : Option ℕ) (n : Number) → option_map (number_of true) o ≡ Some n → n.wide ≡ true
wide (Some m) n is = let same : number_of true m ≡ n = cc in sym (ap (λ (k : Number). k.wide) same)
wide None n is = cc

-- a number of 32 bits is below 2 ^ 32
pub number_fits : (text : List ℕ) (n : Number) → number_value text ≡ Some n → n.wide ≡ false → n.bits < 2 ^ 32
unfolding number_value
number_fits text n is small = cases (starts_with nat_eq text (codes "i32:")) (starts_with nat_eq text (codes "i64:")) is where
  cases : (b c : Bool) → cond b (option_map (number_of false) (integer_bits 32 (drop 4 text))) (let none : Option Number = None in cond c (option_map (number_of true) (integer_bits 64 (drop 4 text))) none) ≡ Some n → n.bits < 2 ^ 32
  cases true c is = integer_fits (drop 4 text) n.bits (narrow (integer_bits 32 (drop 4 text)) n is)
  cases false true is = let w = wide (integer_bits 64 (drop 4 text)) n is in absurd cc
  cases false false is = cc
