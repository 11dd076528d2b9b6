-- Digits are a text, and none of them closes a bracket.
use Rattle.std.proofs.Common.{◌≡◌, ℕ, zero, suc, ◌<◌, ◌≤◌, Bool, true, false, List, [], ◌∷◌, length, Some, None, refl, lit<, arith}
use Rattle.std.specs.Prelude.{◌==◌, ◌&&◌, ◌^◌, nat_lt, nat_le, slice_index, option_and_then, if◌then◌else◌}
use Rattle.std.specs.Char.{is_ascii_digit}
use Rattle.std.specs.List.{list_all}
use Rattle.std.specs.Str.{all_ascii_digits, IsUtf8}
use Rattle.std.proofs.lemmas.Bool.{eqb-true, leb-true, and_parts}
use Rattle.std.proofs.lemmas.Str.{IsUtf8-from_ascii}
use Rattle.pm_text.specs.Numbers.{digits_sum, decimal_value}
use Rattle.var_path.specs.Words.{is_bracketed, within_greatest, index_value}

digit_below : (c : ℕ) → is_ascii_digit c ≡ true → c < 58
digit_below c e = let parted = and_parts (nat_le 48 c) (nat_le c 57) e in let most : c ≤ 57 = leb-true c 57 parted.1 in omega arith

all_ascii : (ds : List ℕ) → all_ascii_digits ds ≡ true → (i : ℕ) → slice_index ds i < 128
all_ascii [] e i = lit< tt
all_ascii (d ∷ ds) e zero = let most : d < 58 = digit_below d (and_parts (is_ascii_digit d) (all_ascii_digits ds) e).0 in omega arith
all_ascii (d ∷ ds) e (suc i) = all_ascii ds (and_parts (is_ascii_digit d) (all_ascii_digits ds) e).1 i

one_bracketed : (d : ℕ) → d < 58 → is_bracketed d ≡ true
one_bracketed d lt = by_test d lt (d == 93) refl
  where
    by_test : (d : ℕ) → d < 58 → (t : Bool) → (d == 93) ≡ t → is_bracketed d ≡ true
    by_test d lt true is = let same : d ≡ 93 = eqb-true d 93 is in absurd (omega arith)
    by_test d lt false is = rw is refl

all_bracketed : (ds : List ℕ) → all_ascii_digits ds ≡ true → list_all is_bracketed ds ≡ true
all_bracketed [] e = refl
all_bracketed (d ∷ ds) e =
    let parted = and_parts (is_ascii_digit d) (all_ascii_digits ds) e in
    rw (one_bracketed d (digit_below d parted.0)) (all_bracketed ds parted.1)

digits_by : (a b c d : Bool) (n : ℕ) (m : ℕ) → option_and_then within_greatest (if a && b && c && d then Some n else None) ≡ Some m → a ≡ true
digits_by true b c d n m e = refl
digits_by false b c d n m e = absurd cc

pub some_index : (digits : List ℕ) (n : ℕ) → index_value digits ≡ Some n → list_all is_bracketed digits ≡ true
unfolding decimal_value
some_index ds n e =
    all_bracketed ds (digits_by (all_ascii_digits ds) (nat_lt 0 (length ds)) (nat_le (length ds) 20) (nat_lt (digits_sum ds) (2 ^ 64)) (digits_sum ds) n e)

no_digits_by : (ds : List ℕ) (t : Bool) → all_ascii_digits ds ≡ t → (IsUtf8 ds → ⊥) → index_value ds ≡ None
unfolding decimal_value
no_digits_by ds true e h = absurd (h (IsUtf8-from_ascii ds (all_ascii ds e)))
no_digits_by ds false e h = rw e refl

pub no_digits : (ds : List ℕ) → (IsUtf8 ds → ⊥) → index_value ds ≡ None
no_digits ds h = no_digits_by ds (all_ascii_digits ds) refl h
