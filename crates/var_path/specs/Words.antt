-- Bytes and words of paths.
use Rattle.std.specs.Prelude.{ℕ, ◌==◌, ◌&&◌, ◌||◌, not, Bool, false, nat_le, List, [], ◌∷◌, Option, Some, None, option_and_then, if◌then◌else◌}
use Rattle.std.specs.List.{list_all}
use Rattle.pm_text.specs.Numbers.{decimal_value}

abbrev pub is_letter : ℕ → Bool
is_letter b = (nat_le 65 b && nat_le b 90) || (nat_le 97 b && nat_le b 122) || b == 95

abbrev pub is_digit : ℕ → Bool
is_digit b = nat_le 48 b && nat_le b 57

abbrev pub is_name_byte : ℕ → Bool
is_name_byte b = is_letter b || is_digit b

-- ASCII letters, digits and `_`, no digit first
abbrev pub is_name : List ℕ → Bool
is_name [] = false
is_name (b ∷ bs) = is_letter b && list_all is_name_byte bs

abbrev pub within_greatest : ℕ → Option ℕ
within_greatest n = if nat_le n 2147483647 then Some n else None

-- decimal digits that write at most 2,147,483,647
abbrev pub index_value : List ℕ → Option ℕ
index_value digits = option_and_then within_greatest (decimal_value digits)

-- ---- the bytes in front that pass a test, and what stands behind them

abbrev pub in_front : (ℕ → Bool) → List ℕ → List ℕ
in_front p [] = []
in_front p (b ∷ bs) = if p b then b ∷ in_front p bs else []

abbrev pub behind : (ℕ → Bool) → List ℕ → List ℕ
behind p [] = []
behind p (b ∷ bs) = if p b then behind p bs else b ∷ bs

-- `*`
abbrev pub is_star : ℕ → Bool
is_star b = b == 42

-- `*` and `(`
abbrev pub is_front : ℕ → Bool
is_front b = b == 42 || b == 40

-- all but `]`
abbrev pub is_bracketed : ℕ → Bool
is_bracketed b = not (b == 93)
