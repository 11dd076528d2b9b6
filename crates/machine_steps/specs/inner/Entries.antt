-- What an entry of the table leads to (Core 4.4.5, call_indirect).
use Rattle.std.specs.Prelude.{◌≡◌, ℕ, List, slice_get, ◌⊎◌}
use Rattle.wasm_syntax.specs.declared.value.Value.{Value}
use Rattle.wasm_syntax.specs.declared.host.CollectorCall.{CollectorCall}
use Rattle.wasm_syntax.specs.Tree.{Nodes}
use Rattle.wasm_syntax.specs.Module.{function_at}
use Rattle.wasm_syntax.specs.Host.{World}
use Rattle.wasm_syntax.specs.Machine.{Engine, Label, Frame, Stepped, stuck, calls, calls_typed, trapped}
use Rattle.machine_basics.specs.calls.Traps.{trap_code}
use Rattle.machine_steps.specs.declared.indirect.Entry.{Entry}
use Rattle.machine_steps.specs.declared.indirect.Entry.TheVariants as entries

module _ (M : Engine) (w : World) (t n : ℕ) where
  -- the step of a call through this entry is stuck, or it is this one
  abbrev pub Is : (List Value → ℕ → Nodes → Frame → Label → List Label → List Frame → List CollectorCall → Stepped) → Type 0
  Is s = (vs : List Value) (at : ℕ) (rest : Nodes) (f : Frame) (l : Label) (ls : List Label) (fs : List Frame) (co : List CollectorCall) →
      (calls_typed M (slice_get M.program.module_.types t) (slice_get w.table n) vs at rest f l ls fs w co ≡ stuck)
      ⊎ (calls_typed M (slice_get M.program.module_.types t) (slice_get w.table n) vs at rest f l ls fs w co ≡ s vs at rest f l ls fs co)

  abbrev pub EntryFits : Entry → Type 0
  EntryFits (entries.Function g) = Is (λ vs at rest f l ls fs co. calls M (function_at M.program g) g vs at rest f l ls fs w co)
  EntryFits (entries.Trap kind) = Is (λ vs at rest f l ls fs co. trapped M (trap_code kind) f l ls fs w co)
  EntryFits entries.Stuck = Is (λ vs at rest f l ls fs co. stuck)
