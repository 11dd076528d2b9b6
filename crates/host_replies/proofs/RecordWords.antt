-- The bytes of words.
use Rattle.std.proofs.Common.{◌≡◌, ℕ, suc, ◌+◌, ◌/◌, ◌%◌, ◌^◌, ◌<◌, ◌≤◌, Bool, true, false, List, [], ◌∷◌, refl, arith}
use Rattle.std.specs.Prelude.{◌==◌, ◌&&◌, All, nat_lt, slice_index}
use Rattle.std.specs.Fmt.{decimal}
use Rattle.std.proofs.lemmas.Bool.{and_parts, ltb-true, ne_eqb}
use Rattle.std.proofs.lemmas.Fmt.{decimal_by_steps}
use Rattle.std.proofs.lemmas.List.Elements.{All-nil, All-cons, All-push, All-weaker, All-get_or}
use Rattle.std.proofs.lemmas.Str.{is_utf8-from_IsUtf8, IsUtf8-from_ascii}
use Rattle.std.proofs.lemmas.Str.Ascii.{IsAscii-from_all}
use Rattle.std.specs.Str.{is_utf8}
use Rattle.hex.specs.Hex.{IsBytes, encode_lower, encode_with, lower_digits}

-- behind the space, and ASCII
abbrev pub InWord : ℕ → Type 0
InWord b = (32 < b) × (b < 128)

abbrev pub IsDigit : ℕ → Type 0
IsDigit b = (48 ≤ b) × (b ≤ 57)

-- no separator of words
abbrev pub NoSpace : ℕ → Type 0
NoSpace b = (b == 32) ≡ false

pub decimal_digits : (n : ℕ) → n < 2 ^ 64 → All IsDigit (decimal n)
decimal_digits = decimal_by_steps (λ (m : ℕ) (ds : List ℕ). All IsDigit ds) (λ m l. All-cons IsDigit (48 + m) [] (omega arith, omega arith) (All-nil IsDigit)) (λ m ds l h. All-push IsDigit ds (48 + m % 10) h (omega arith, omega arith))

pub digits_in_word : (ds : List ℕ) → All IsDigit ds → All InWord ds
digits_in_word ds h = All-weaker IsDigit InWord (λ b d. (omega arith, omega arith)) ds h

pub no_spaces : (word : List ℕ) → All InWord word → All NoSpace word
no_spaces word h = All-weaker InWord NoSpace (λ b d. ne_eqb b 32 (λ e. omega arith)) word h

pub word_is_text : (word : List ℕ) → All InWord word → is_utf8 word ≡ true
word_is_text word h = is_utf8-from_IsUtf8 word (IsUtf8-from_ascii word (IsAscii-from_all word (All-weaker InWord (λ b. b < 128) (λ b d. d.1) word h)))

-- ---- words that are written out

abbrev all_in_word : List ℕ → Bool
all_in_word [] = true
all_in_word (b ∷ bs) = (nat_lt 32 b && nat_lt b 128) && all_in_word bs

pub literal_in_word : (bs : List ℕ) → all_in_word bs ≡ true → All InWord bs
literal_in_word [] h = All-nil InWord
literal_in_word (b ∷ bs) h =
    let parts = and_parts (nat_lt 32 b && nat_lt b 128) (all_in_word bs) h in
    let both = and_parts (nat_lt 32 b) (nat_lt b 128) parts.0 in
    All-cons InWord b bs (ltb-true 32 b both.0, ltb-true b 128 both.1) (literal_in_word bs parts.1)

-- ---- digits

lower_in_word : All InWord lower_digits
lower_in_word = literal_in_word lower_digits refl

digit_in_word : (d : ℕ) → d < 16 → InWord (slice_index lower_digits d)
digit_in_word d small = All-get_or InWord lower_digits d 0 small lower_in_word

pub pairs_in_word : (bytes : List ℕ) → IsBytes bytes → All InWord (encode_lower bytes)
unfolding encode_with
pairs_in_word [] are = All-nil InWord
pairs_in_word (b ∷ bs) are =
    let small : b < 256 = are 0 in
    All-cons InWord (slice_index lower_digits (b / 16)) (slice_index lower_digits (b % 16) ∷ encode_lower bs) (digit_in_word (b / 16) (omega arith))
    (All-cons InWord (slice_index lower_digits (b % 16)) (encode_lower bs) (digit_in_word (b % 16) (omega arith)) (pairs_in_word bs (λ i. are (suc i))))
