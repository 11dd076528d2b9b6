-- Answers, by cases.
use Rattle.std.proofs.Common.{◌≡◌, ◌≢◌, ℕ, refl, sym}
use Rattle.std.specs.Prelude.{Bool}
use Rattle.wasm_syntax.specs.declared.parts.Import.{Import}
use Rattle.wasm_syntax.specs.Module.{Program}
use Rattle.wasm_syntax.specs.Machine.{Config}
use Rattle.wasm_syntax.specs.Run.{Outcome, running}
use Rattle.machine_hosted.specs.declared.answer.RunEnd.{RunEnd}
use Rattle.machine_hosted.specs.declared.answer.RunEnd.TheVariants.{Finished, Trapped, NoReply, BadReply, DeviceFault, FuelSpent, NoMemory}
use Rattle.machine_hosted.specs.calls.Answers.{KeepsThen, given_steps}
use Rattle.machine_hosted.specs.calls.Invocations.{HasOutcome}
use Rattle.wasm_machine.specs.calls.Instances as instances
use Rattle.wasm_machine.specs.calls.Instances.{State, StandsAt}
use Rattle.wasm_machine.specs.calls.Sessions.{HadMemory}
use Rattle.wasm_machine.proofs.StandingLaws.{trap_stands}
use Rattle.replay.specs.Replays.{IsOutcome}
use Rattle.replay.specs.inner.Reached.{IfHad, HasEnded}

pub had_memory : (answer : RunEnd) → HasEnded answer → HadMemory answer
had_memory NoMemory h = absurd h
had_memory (Finished value) h = tt
had_memory (Trapped kind) h = tt
had_memory NoReply h = tt
had_memory (BadReply reply) h = tt
had_memory (DeviceFault name) h = tt
had_memory FuelSpent h = tt

pub all_given : (answer : RunEnd) (fuel steps : ℕ) → HasEnded answer → given_steps answer fuel steps ≡ fuel
all_given NoMemory fuel steps h = absurd h
all_given (Finished value) fuel steps h = refl
all_given (Trapped kind) fuel steps h = refl
all_given NoReply fuel steps h = refl
all_given (BadReply reply) fuel steps h = refl
all_given (DeviceFault name) fuel steps h = refl
all_given FuelSpent fuel steps h = refl

-- where it ended the instance stands at the last configuration
pub stands : (answer : RunEnd) (s : State) (p : Program) (c : Config) → HasEnded answer → instances.IsOf s p → KeepsThen p s.prepared.codes.items answer s.machine c → StandsAt s p c
stands NoMemory s p c h is k = absurd h
stands (Finished value) s p c h is k = record { is_of = is; keeps = k }
stands (Trapped kind) s p c h is k = trap_stands s p c is k
stands NoReply s p c h is k = record { is_of = is; keeps = k }
stands (BadReply reply) s p c h is k = record { is_of = is; keeps = k }
stands (DeviceFault name) s p c h is k = absurd h
stands FuelSpent s p c h is k = record { is_of = is; keeps = k }

pub is_outcome : (p : Program) (used_up : Import → Bool) (answer : RunEnd) (o : Outcome) → HasEnded answer → HasOutcome p used_up answer o → IsOutcome answer o
is_outcome p used_up NoMemory o h k = absurd h
is_outcome p used_up (Finished value) o h k = k
is_outcome p used_up (Trapped kind) o h k = k
is_outcome p used_up NoReply o h k = (k.0, k.1)
is_outcome p used_up (BadReply reply) o h k = k
is_outcome p used_up (DeviceFault name) o h k = absurd h
is_outcome p used_up FuelSpent o h k = k

-- it goes on exactly where its steps are used up
pub running_spent : (answer : RunEnd) (o : Outcome) → IsOutcome answer o → o ≡ running → answer ≡ FuelSpent
running_spent NoMemory o h e = absurd h
running_spent (Finished value) o h e = let z = sym h in absurd (cc)
running_spent (Trapped kind) o h e = let z = sym h in absurd (cc)
running_spent NoReply o h e = let z = sym h.1 in absurd (cc)
running_spent (BadReply reply) o h e = let z = sym h.1 in absurd (cc)
running_spent (DeviceFault name) o h e = absurd h
running_spent FuelSpent o h e = refl

pub spent_running : (o : Outcome) → IsOutcome FuelSpent o → o ≡ running
spent_running o h = h

pub had : (answer : RunEnd) (P : Type 0) → IfHad answer P → answer ≢ NoMemory → P
had NoMemory P h n = absurd (n refl)
had (Finished value) P h n = h
had (Trapped kind) P h n = h
had NoReply P h n = h
had (BadReply reply) P h n = h
had (DeviceFault name) P h n = h
had FuelSpent P h n = h
