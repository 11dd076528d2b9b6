-- Which calls of a device fail.
use Rattle.std.specs.Prelude.{◌≡◌, ℕ, ◌+◌, ◌-◌, ◌^◌, List, min, Contains}

-- the numbers of the calls that fail, counted from 0, the number of the next call, and how often a call has failed
pub record Plan : Type 0 where
  pub failing : List ℕ
  pub next : ℕ
  pub count : ℕ

-- the next call fails
abbrev pub IsToFail : Plan → Type 0
IsToFail plan = Contains plan.failing plan.next

-- one more, up to the greatest number of 64 bits
abbrev pub one_more : ℕ → ℕ
one_more n = min (n + 1) (2 ^ 64 - 1)

-- one call more was made
abbrev pub HasCounted : Plan → Plan → Type 0
HasCounted old new = (new.failing ≡ old.failing) × (new.next ≡ one_more old.next)
