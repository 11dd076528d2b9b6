-- What a watch sees of a run whose imports a host side serves: where each step is made.
use Rattle.std.specs.Prelude.{◌≡◌, ℕ, ◌≤◌, List, ◌++◌, length, Option}
use Rattle.wasm_syntax.specs.declared.value.Value.{Value}
use Rattle.wasm_syntax.specs.declared.module.ModuleParts.{ModuleParts as Module}
use Rattle.wasm_syntax.specs.declared.host.Reply.{Reply}
use Rattle.wasm_syntax.specs.declared.host.CollectorCall.{CollectorCall}
use Rattle.wasm_syntax.specs.Host.{World}
use Rattle.wasm_syntax.specs.Machine.{Engine}
use Rattle.machine_steps.specs.Places.{Place, entry_places, invocation_places}
use Rattle.host_devices.specs.calls.HostSides.{Calls}
use Rattle.host_devices.specs.Given.{replies_of}
use Rattle.machine_hosted.specs.calls.Hosted.{replying, Asked, Grew}
use Rattle.machine_hosted.specs.declared.answer.RunEnd.{RunEnd}
use Rattle.machine_hosted.specs.declared.answer.RunEnd.TheVariants.{Finished, Trapped, NoReply, BadReply, DeviceFault, FuelSpent, NoMemory}

-- where steps are made, as a function of all replies and the number of steps
abbrev pub Placing : Type 0
Placing = List Reply → ℕ → List (Option Place)

abbrev pub function_placing : Engine → ℕ → List Value → World → List CollectorCall → Placing
function_placing M f args w co replies n = entry_places M n f args (replying w replies) co

abbrev pub invocation_placing : Engine → Option ℕ → ℕ → List Value → World → Placing
invocation_placing M start f args w replies n = invocation_places M start n f args (replying w replies)

-- All steps that were made are seen. With want of memory it is some number of steps that may be made.
abbrev pub IsCount : RunEnd → (fuel steps count : ℕ) → Type 0
IsCount (Finished value) fuel steps count = count ≡ steps
IsCount (Trapped kind) fuel steps count = count ≡ steps
IsCount NoReply fuel steps count = count ≡ steps
IsCount (BadReply reply) fuel steps count = count ≡ steps
IsCount (DeviceFault name) fuel steps count = count ≡ steps
IsCount FuelSpent fuel steps count = count ≡ steps
IsCount NoMemory fuel steps count = count ≤ fuel

-- So many steps were made and seen, each where the definitions make it on the replies that the host side gave, whatever replies are left.
pub record Watched {W : Type 0} (saw : Module → W → List (Option Place) → Type 0) (m : Module) (placing : Placing) (fuel : ℕ) (answer : RunEnd) (steps : ℕ) (before now : W) (old new : Calls) : Type 0 where
  pub asked : Asked
  pub grew : Grew asked old new
  pub count : ℕ
  pub is : IsCount answer fuel steps count
  pub made : (more : List Reply) → length (placing (replies_of asked.given ++ more) count) ≡ count
  pub sees : (more : List Reply) (seen : List (Option Place)) → saw m before seen → saw m now (seen ++ placing (replies_of asked.given ++ more) count)
