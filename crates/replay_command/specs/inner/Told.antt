-- What the code comes to where a run starts, and where it does not.
use Rattle.std.specs.Prelude.{◌≡◌, ℕ, ◌<◌, ◌^◌, List, Some}
use Rattle.wasm_syntax.specs.declared.module.ModuleParts.{ModuleParts as Module}
use Rattle.commands.specs.declared.outcome.Outcome.{Outcome}
use Rattle.run_command.specs.Starting.{cause_text, not_started_with}
use Rattle.replay.specs.declared.fault.StartRefusal.{StartRefusal}
use Rattle.replay.specs.Moves.{IsFault, Replay}
use Rattle.replay.specs.Replays.{Recording, cause_in}

-- the cause that a fault is, by the name of the function
abbrev pub TellsFault : StartRefusal → List ℕ → Outcome → Type 0
TellsFault fault entry o = (x : Recording) → IsFault fault x → (cause : List ℕ) × (cause_text entry (cause_in x) ≡ Some cause) × (o ≡ not_started_with cause)

-- a replay of a module that stands at its first step
pub record StandsAtStart (m : Module) (r : Replay) : Type 0 where
  pub module_ : r.recording.module_ ≡ m
  pub depth : r.recording.depth < 2 ^ 32
  pub step : r.step ≡ 0
