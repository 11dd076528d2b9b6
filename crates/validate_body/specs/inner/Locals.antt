-- Locals in groups, found by the number of locals up to and with each group.
use Rattle.std.specs.Prelude.{ℕ, ◌+◌, ◌-◌, ◌<◌, ◌≤◌, List, [], ◌∷◌, length, get_or}
use Rattle.wasm_syntax.specs.declared.parts.LocalGroup.{LocalGroup}

-- the number of locals up to and with each group, where so many come before
abbrev pub ends : ℕ → List LocalGroup → List ℕ
ends n [] = []
ends n (g ∷ gs) = (n + g.count) ∷ ends (n + g.count) gs

-- the first end above a number is at this index
pub record Splits (ends : List ℕ) (n at : ℕ) : Type 0 where
  pub within : at ≤ length ends
  pub low : 0 < at → get_or ends (at - 1) 0 ≤ n
  pub high : at < length ends → n < get_or ends at 0
