-- Hexadecimal digits in lower case.
use Rattle.std.specs.Prelude.{ℕ, ◌+◌, ◌-◌, ◌/◌, ◌%◌, false, List, [], ◌∷◌, ◌++◌, length, nat_lt, replicate, if◌then◌else◌}
use Rattle.std.specs.Fmt.{digits}

-- the digit of a number below 16
abbrev pub hex_digit : ℕ → ℕ
hex_digit n = if nat_lt n 10 then 48 + n else 87 + n

-- a byte in two digits
abbrev pub hex_byte : ℕ → List ℕ
hex_byte b = hex_digit (b / 16) ∷ hex_digit (b % 16) ∷ []

-- a number with zeros in front up to so many digits
unfoldable pub hex_padded : ℕ → ℕ → List ℕ
hex_padded count n = replicate (count - length (digits 16 false n)) 48 ++ digits 16 false n
