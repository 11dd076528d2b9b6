-- The states that an invocation goes through, step by step, where its host replies as it did before (Core 4.2, 4.4.7, 4.5.5).
use Rattle.std.specs.Prelude.{◌≡◌, ◌≢◌, ℕ, ◌<◌, ◌≤◌, Bool, false, ◌==◌, ◌&&◌, List, [], ◌∷◌, slice_get, Option, Some, None, option_map}
use Rattle.wasm_syntax.specs.declared.value.Value.{Value}
use Rattle.wasm_syntax.specs.declared.host.HostCall.{HostCall}
use Rattle.wasm_syntax.specs.declared.host.Reply.{Reply}
use Rattle.wasm_syntax.specs.declared.module.ModuleParts.{ModuleParts as Module}
use Rattle.wasm_syntax.specs.Module.{Program, IsProgram, option_then}
use Rattle.wasm_syntax.specs.Machine.{Config}
use Rattle.wasm_syntax.specs.Run.{Outcome, finished, trapped, lacks_reply, misfits, running, Ran, Invocation, Cause, cause_of, run}
use Rattle.dump_write.specs.Image.{DumpFrame, frame_images}
use Rattle.machine_basics.specs.calls.Traps.{trap_code}
use Rattle.machine_hosted.specs.declared.answer.RunEnd.{RunEnd}
use Rattle.machine_hosted.specs.declared.answer.RunEnd.TheVariants.{Finished, Trapped, NoReply, BadReply, DeviceFault, FuelSpent, NoMemory}

-- What is run: an exported function of a module, by its name, on arguments, where the host gives these replies in order, with at most so
-- many frames at once and for at most so many steps.
pub record Recording : Type 0 where
  pub module_ : Module
  pub entry : List ℕ
  pub args : List Value
  pub replies : List Reply
  pub depth : ℕ
  pub fuel : ℕ

-- its one invocation
abbrev pub invocation_of : Recording → Invocation
invocation_of x = record { name = x.entry; args = x.args }

-- why it does not start, if it does not
abbrev pub cause_in : Recording → Option Cause
cause_in x = cause_of x.module_ (invocation_of x ∷ [])

-- these are the trees of the module's bodies
pub record IsOf (x : Recording) (p : Program) : Type 0 where
  pub of_module : p.module_ ≡ x.module_
  pub writes_out : IsProgram p

module _ (p : Program) (x : Recording) where
  -- what the invocation comes to within so many steps
  abbrev pub ran_within : ℕ → Option Ran
  ran_within n = slice_get (run p false (invocation_of x ∷ []) x.replies x.depth n) 0

  -- the state that it is in behind so many steps, or in which it ended before
  abbrev pub state_at : ℕ → Option Config
  state_at n = option_then (ran_within n) (λ r. r.last)

  abbrev pub outcome_at : ℕ → Option Outcome
  outcome_at n = option_map (λ r. r.outcome) (ran_within n)

  -- the least number of steps, up to those that may be made, behind which it is not going on, or all that may be made
  pub record IsEnd (end : ℕ) : Type 0 where
    pub within : end ≤ x.fuel
    pub going : (n : ℕ) → n < end → outcome_at n ≡ Some running
    pub ended : end < x.fuel → outcome_at end ≢ Some running

-- ---- how it ended

-- the outcome that is answered; there are no devices
abbrev pub IsOutcome : RunEnd → Outcome → Type 0
IsOutcome (Finished value) o = o ≡ finished value
IsOutcome (Trapped kind) o = o ≡ trapped (trap_code kind)
IsOutcome NoReply o = (call : HostCall) × (o ≡ lacks_reply call)
IsOutcome (BadReply reply) o = (call : HostCall) × (o ≡ misfits call reply)
IsOutcome FuelSpent o = o ≡ running
IsOutcome (DeviceFault name) o = ⊥
IsOutcome NoMemory o = ⊥

abbrev pub EndsWith : Program → Recording → ℕ → RunEnd → Type 0
EndsWith p x end answer = (o : Outcome) × (outcome_at p x end ≡ Some o) × IsOutcome answer o

-- ---- where the innermost frame stands

abbrev pub is_frame : (function offset : ℕ) → Option DumpFrame → Bool
is_frame function offset None = false
is_frame function offset (Some f) = (f.function == function) && (f.offset == offset)

-- the innermost frame is of this function, at this code offset
abbrev pub is_in : (function offset : ℕ) → Config → Bool
is_in function offset c = is_frame function offset (slice_get (frame_images c.frames) 0)

abbrev pub is_in_some : (function offset : ℕ) → Option Config → Bool
is_in_some function offset None = false
is_in_some function offset (Some c) = is_in function offset c

-- it is there behind so many steps
abbrev pub is_there : Program → Recording → (function offset : ℕ) → ℕ → Bool
is_there p x function offset n = is_in_some function offset (state_at p x n)
