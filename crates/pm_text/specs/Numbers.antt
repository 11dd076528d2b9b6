-- Texts that are read as numbers.
use Rattle.std.specs.Prelude.{ℕ, ◌+◌, ◌-◌, ◌*◌, ◌%◌, ◌^◌, Bool, true, false, ◌&&◌, List, [], ◌∷◌, length, nat_lt, nat_le, nat_eq, Option, Some, None, if◌then◌else◌, codes, drop, option_and_then}
use Rattle.std.specs.List.{starts_with}
use Rattle.std.specs.Option.{option_map}
use Rattle.std.specs.Str.{all_ascii_digits}
use Rattle.pm_text.specs.declared.numbers.Number.{Number}

-- the number that decimal digits write: each digit times ten to the count of those behind it
abbrev pub digits_sum : List ℕ → ℕ
digits_sum [] = 0
digits_sum (d ∷ ds) = (d - 48) * 10 ^ length ds + digits_sum ds

-- 1 to 20 decimal digits whose number is below 2 ^ 64
unfoldable pub decimal_value : List ℕ → Option ℕ
decimal_value text =
    if all_ascii_digits text && nat_lt 0 (length text) && nat_le (length text) 20 && nat_lt (digits_sum text) (2 ^ 64)
    then Some (digits_sum text) else None

-- a number of this width, modulo 2 ^ width, where it is at most 2 ^ width - 1
abbrev pub positive_bits : ℕ → ℕ → Option ℕ
positive_bits width n = if nat_lt n (2 ^ width) then Some n else None

-- the same of -n, where it is at least -2 ^ (width - 1)
abbrev pub negative_bits : ℕ → ℕ → Option ℕ
negative_bits width n = if nat_le n (2 ^ (width - 1)) then Some ((2 ^ width - n) % 2 ^ width) else None

-- an optional `-` and digits
unfoldable pub integer_bits : ℕ → List ℕ → Option ℕ
integer_bits width text =
    if starts_with nat_eq text (codes "-") then option_and_then (negative_bits width) (decimal_value (drop 1 text))
    else option_and_then (positive_bits width) (decimal_value text)

abbrev pub number_of : Bool → ℕ → Number
number_of wide bits = record { wide = wide; bits = bits }

-- `i32:` or `i64:`, and an integer of that width
unfoldable pub number_value : List ℕ → Option Number
number_value text =
    if starts_with nat_eq text (codes "i32:") then option_map (number_of false) (integer_bits 32 (drop 4 text))
    else (if starts_with nat_eq text (codes "i64:") then option_map (number_of true) (integer_bits 64 (drop 4 text))
    else None)
