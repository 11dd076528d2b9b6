-- Counts that are known of arrays.
use Rattle.std.specs.Prelude.{ℕ, nat_le, Bool, false, Option, Some, None}

-- at or past a count, where there is one and it is known
abbrev pub is_past_known : Option (Option ℕ) → ℕ → Bool
is_past_known (Some (Some c)) n = nat_le c n
is_past_known (Some None) n = false
is_past_known None n = false
