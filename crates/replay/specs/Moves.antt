-- Moves between the steps of a run, each of which shows the state behind that many steps.
use Rattle.std.specs.Prelude.{◌≡◌, ℕ, ◌<◌, ◌≤◌, ◌/◌, max, Bool, true, false, Some, None, Result, Ok, Err}
use Rattle.wasm_syntax.specs.Module.{Program}
use Rattle.wasm_syntax.specs.Machine.{Config}
use Rattle.wasm_syntax.specs.Run.{no_export, bad_arguments, element_out, data_out}
use Rattle.machine_hosted.specs.declared.answer.RunEnd.{RunEnd}
use Rattle.wasm_machine.specs.calls.Instances.{State, StandsAt}
use Rattle.replay.specs.declared.fault.StartRefusal.{StartRefusal}
use Rattle.replay.specs.declared.fault.StartRefusal.TheVariants.{NoExport, BadArguments, ElementOut, DataOut, NoMemory}
use Rattle.replay.specs.Replays.{Recording, IsOf, cause_in, state_at, is_there}

-- A replay: what is run, how far apart its checkpoints are at first, its last step and how the run ended there, how many checkpoints are kept,
-- and the step that is shown, with the instance that shows it.
pub record Replay : Type 0 where
  pub recording : Recording
  pub every : ℕ
  pub end : ℕ
  pub outcome : RunEnd
  pub checkpoints : ℕ
  pub step : ℕ
  pub state : State

-- the instance stands at the state behind so many steps
abbrev pub Shows : Program → Recording → ℕ → State → Type 0
Shows p x n s = (c : Config) × (state_at p x n ≡ Some c) × StandsAt s p c

-- of each program of the module
abbrev pub OfEach : Recording → (Program → Type 0) → Type 0
OfEach x P = (p : Program) → IsOf x p → P p

-- the cause for which the run does not start
abbrev pub IsFault : StartRefusal → Recording → Type 0
IsFault NoExport x = cause_in x ≡ Some no_export
IsFault BadArguments x = cause_in x ≡ Some bad_arguments
IsFault (ElementOut i) x = cause_in x ≡ Some (element_out i)
IsFault (DataOut i) x = cause_in x ≡ Some (data_out i)
IsFault NoMemory x = Unit {0}

-- A new replay stands at the first state; or the run does not start.
abbrev pub Starts : Result Replay StartRefusal → Recording → ℕ → Type 0
Starts (Ok r) x every = (cause_in x ≡ None) × (r.recording ≡ x) × (r.every ≡ every) × (r.step ≡ 0)
Starts (Err fault) x every = IsFault fault x

-- the step that is shown is all that a move changes, with the instance that shows it
pub record Went (old new : Replay) (step : ℕ) : Type 0 where
  pub recording : new.recording ≡ old.recording
  pub every : new.every ≡ old.every
  pub end : new.end ≡ old.end
  pub outcome : new.outcome ≡ old.outcome
  pub checkpoints : new.checkpoints ≡ old.checkpoints
  pub step_is : new.step ≡ step

-- the least step above one, up to a last one, at which the innermost frame is there
pub record IsNext (p : Program) (x : Recording) (function offset from end step : ℕ) : Type 0 where
  pub above : from < step
  pub within : step ≤ end
  pub there : is_there p x function offset step ≡ true
  pub none_before : (k : ℕ) → from < k → k < step → is_there p x function offset k ≡ false

-- there is no such step
abbrev pub HasNoNext : Program → Recording → (function offset from end : ℕ) → Type 0
HasNoNext p x function offset from end = (k : ℕ) → from < k → k ≤ end → is_there p x function offset k ≡ false

-- It went to the next step at which the innermost frame is there; or there is none, and nothing is changed.
abbrev pub Found : Bool → Replay → (function offset : ℕ) → Replay → Type 0
Found true old function offset new = Went old new new.step × OfEach old.recording (λ p. IsNext p old.recording function offset old.step old.end new.step)
Found false old function offset new = (new ≡ old) × OfEach old.recording (λ p. HasNoNext p old.recording function offset old.step old.end)

-- so few steps were made again to show a state
abbrev pub near : Replay → ℕ
near r = max r.every (r.end / 8)
