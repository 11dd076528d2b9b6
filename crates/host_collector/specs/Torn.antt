-- Calls of the collector that are not whole.
use Rattle.std.specs.Prelude.{ℕ, ◌+◌, ◌<◌, ◌≤◌, List, length, take}
use Rattle.wasm_syntax.specs.declared.host.CollectorCall.{CollectorCall}
use Rattle.dump_write.specs.Collected.{Whole, BeginsWhole}

-- The calls are not whole, and this is the index of the first one up to and with which they begin no whole list; it is their number
-- where there is none.
pub record IsFirstOffending (calls : List CollectorCall) (at : ℕ) : Type 0 where
  pub torn : Whole calls → ⊥
  pub before : (i : ℕ) → i < at → BeginsWhole (take (i + 1) calls)
  pub there : at < length calls → BeginsWhole (take (at + 1) calls) → ⊥
  pub within : at ≤ length calls
