-- Instructions found by their offsets.
use Rattle.std.specs.Prelude.{◌≡◌, ℕ, ◌-◌, ◌<◌, ◌≤◌, Bool, true, false, List, length, slice_get, Some}
use Rattle.wasm_syntax.specs.declared.instruction.Op.{Op}
use Rattle.wasm_validate.specs.calls.Instructions.{is_node}

-- the first instruction at an offset or behind it has this number
pub record SplitsAt (ops : List Op) (at n : ℕ) : Type 0 where
  pub within : n ≤ length ops
  pub low : (o : Op) → 0 < n → slice_get ops (n - 1) ≡ Some o → o.at < at
  pub high : (o : Op) → slice_get ops n ≡ Some o → at ≤ o.at

-- whether the instruction at a number stands at an offset and is none of `else` and `end`
abbrev pub IsNodeAt : Bool → List Op → ℕ → ℕ → Type 0
IsNodeAt true ops n at = (o : Op) × (slice_get ops n ≡ Some o) × (o.at ≡ at) × (is_node o.code ≡ true)
IsNodeAt false ops n at = (o : Op) → slice_get ops n ≡ Some o → o.at ≡ at → is_node o.code ≡ true → ⊥
