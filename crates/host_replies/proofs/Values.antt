-- A value is read from the word that it is written as.
use Rattle.std.proofs.Common.{◌≡◌, ℕ, suc, ◌-◌, ◌%◌, ◌^◌, ◌<◌, ◌≤◌, true, false, List, [], ◌∷◌, ◌++◌, refl, sym, ap, ◌∙◌, inl, inr, arith, Option, Some, None}
use Rattle.std.specs.Prelude.{◌==◌, nat_eq, All, IfSome, codes}
use Rattle.std.specs.List.{starts_with}
use Rattle.std.specs.Fmt.{decimal, signed_decimal}
use Rattle.std.specs.Int.{w32, w64, cast_signed}
use Rattle.std.proofs.Math.IntN.{negsuc}
use Rattle.std.proofs.Math.Facts.{to_z-neg}
use Rattle.std.proofs.lemmas.Bool.{cases_lt, le-leb, lt-ltb, ne_eqb}
use Rattle.std.proofs.lemmas.Int.{to_z_pos}
use Rattle.std.proofs.lemmas.List.Elements.{All-append, All-cons, All-head}
use Rattle.pm_text.specs.Numbers.{integer_bits, number_of, number_value}
use Rattle.pm_text.proofs.NumberLaws.{decimal_back}
use Rattle.wasm_syntax.specs.declared.value.Value.{Value}
use Rattle.wasm_syntax.specs.declared.value.Value.TheVariants as values
use Rattle.wasm_syntax.specs.Numbers.{IsValue}
use Rattle.host_replies.specs.Replies.{first_word}
use Rattle.host_replies.specs.Record.{value_word}
use Rattle.host_replies.proofs.RecordWords.{InWord, IsDigit, decimal_digits, digits_in_word, literal_in_word, word_is_text}

-- ---- integers

-- a text of an integer of this width
record IsInteger (width n : ℕ) (text : List ℕ) : Type 0 where
  in_word : All InWord text
  back : integer_bits width text ≡ Some n

no_minus : (ds : List ℕ) → All IsDigit ds → starts_with nat_eq ds (codes "-") ≡ false
no_minus [] h = refl
no_minus (d ∷ ds) h =
    let first : IsDigit d = All-head IsDigit d ds h in
    let ne : nat_eq 45 d ≡ false = ne_eqb 45 d (λ e. omega arith) in
    rw ne refl

plain_back : (width n : ℕ) → n < 2 ^ width → n < 2 ^ 64 → integer_bits width (decimal n) ≡ Some n
unfolding integer_bits
plain_back width n fits small = rw (no_minus (decimal n) (decimal_digits n small), decimal_back n small, lt-ltb n (2 ^ width) fits) refl

minus_back : (width n k : ℕ) → suc k ≤ 2 ^ (width - 1) → suc k < 2 ^ 64 → (2 ^ width - suc k) % 2 ^ width ≡ n → integer_bits width (45 ∷ decimal (suc k)) ≡ Some n
unfolding integer_bits
minus_back width n k low small is = rw (decimal_back (suc k) small, le-leb (suc k) (2 ^ (width - 1)) low, is) refl

plain : (width n : ℕ) → n < 2 ^ width → n < 2 ^ 64 → IsInteger width n (decimal n)
plain width n fits small = record { in_word = digits_in_word (decimal n) (decimal_digits n small); back = plain_back width n fits small }

minus : (width n k : ℕ) → suc k ≤ 2 ^ (width - 1) → suc k < 2 ^ 64 → (2 ^ width - suc k) % 2 ^ width ≡ n → IsInteger width n (signed_decimal (negsuc k))
minus width n k low small is = record {
  in_word = All-cons InWord 45 (decimal (suc k)) (omega arith, omega arith) (digits_in_word (decimal (suc k)) (decimal_digits (suc k) small));
  back = minus_back width n k low small is;
}

signed_32 : (n : ℕ) → n < 2 ^ 32 → IsInteger 32 n (signed_decimal (cast_signed w32 n))
signed_32 n h = elim (cases_lt n (2 ^ 31)) [
  | inl low ↦ rw (to_z_pos w32 n low) (plain 32 n h (omega arith))
  | inr high ↦
      let is : 2 ^ 32 - suc (2 ^ 32 - 1 - n) ≡ n = omega arith in
      let back : cast_signed w32 n ≡ negsuc (2 ^ 32 - 1 - n) = ap (cast_signed w32) (sym is) ∙ to_z-neg w32 (2 ^ 32 - 1 - n) (omega arith) in
      rw back (minus 32 n (2 ^ 32 - 1 - n) (omega arith) (omega arith) (omega arith))
]

signed_64 : (n : ℕ) → n < 2 ^ 64 → IsInteger 64 n (signed_decimal (cast_signed w64 n))
signed_64 n h = elim (cases_lt n (2 ^ 63)) [
  | inl low ↦ rw (to_z_pos w64 n low) (plain 64 n h h)
  | inr high ↦
      let is : 2 ^ 64 - suc (2 ^ 64 - 1 - n) ≡ n = omega arith in
      let back : cast_signed w64 n ≡ negsuc (2 ^ 64 - 1 - n) = ap (cast_signed w64) (sym is) ∙ to_z-neg w64 (2 ^ 64 - 1 - n) (omega arith) in
      rw back (minus 64 n (2 ^ 64 - 1 - n) (omega arith) (omega arith) (omega arith))
]

narrow_number : (n : ℕ) (text : List ℕ) → integer_bits 32 text ≡ Some n → number_value (codes "i32:" ++ text) ≡ Some (number_of false n)
unfolding number_value
narrow_number n text is = rw is refl

wide_number : (n : ℕ) (text : List ℕ) → integer_bits 64 text ≡ Some n → number_value (codes "i64:" ++ text) ≡ Some (number_of true n)
unfolding number_value
wide_number n text is = rw is refl

-- ---- the first word of a line

-- It begins with no `#`, and is read as the value.
pub record IsFirst (v : Option Value) (word : List ℕ) : Type 0 where
  pub in_word : All InWord word
  pub first : ℕ
  pub others : List ℕ
  pub begins : word ≡ first ∷ others
  pub no_comment : (first == 35) ≡ false
  pub back : first_word word ≡ Some v

none_back : first_word (codes "none") ≡ Some None
unfolding first_word
none_back = refl

narrow_back : (n : ℕ) (text : List ℕ) → All InWord (codes "i32:" ++ text) → integer_bits 32 text ≡ Some n → first_word (codes "i32:" ++ text) ≡ Some (Some (values.I32 n))
unfolding first_word
narrow_back n text h is = rw (word_is_text (codes "i32:" ++ text) h, narrow_number n text is) refl

wide_back : (n : ℕ) (text : List ℕ) → All InWord (codes "i64:" ++ text) → integer_bits 64 text ≡ Some n → first_word (codes "i64:" ++ text) ≡ Some (Some (values.I64 n))
unfolding first_word
wide_back n text h is = rw (word_is_text (codes "i64:" ++ text) h, wide_number n text is) refl

pub value_first : (v : Option Value) → IfSome v IsValue → IsFirst v (value_word v)
value_first None fits = record {
  in_word = literal_in_word (codes "none") refl;
  first = 110;
  others = codes "one";
  begins = refl;
  no_comment = refl;
  back = none_back;
}
value_first (Some (values.I32 n)) fits =
    let integer : IsInteger 32 n (signed_decimal (cast_signed w32 n)) = signed_32 n fits in
    let word : All InWord (codes "i32:" ++ signed_decimal (cast_signed w32 n)) = All-append InWord (codes "i32:") (signed_decimal (cast_signed w32 n)) (literal_in_word (codes "i32:") refl) integer.in_word in
    record {
      in_word = word;
      first = 105;
      others = codes "32:" ++ signed_decimal (cast_signed w32 n);
      begins = refl;
      no_comment = refl;
      back = narrow_back n (signed_decimal (cast_signed w32 n)) word integer.back;
    }
value_first (Some (values.I64 n)) fits =
    let integer : IsInteger 64 n (signed_decimal (cast_signed w64 n)) = signed_64 n fits in
    let word : All InWord (codes "i64:" ++ signed_decimal (cast_signed w64 n)) = All-append InWord (codes "i64:") (signed_decimal (cast_signed w64 n)) (literal_in_word (codes "i64:") refl) integer.in_word in
    record {
      in_word = word;
      first = 105;
      others = codes "64:" ++ signed_decimal (cast_signed w64 n);
      begins = refl;
      no_comment = refl;
      back = wide_back n (signed_decimal (cast_signed w64 n)) word integer.back;
    }
