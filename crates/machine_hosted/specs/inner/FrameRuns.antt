-- What a run of frames comes to where a host side serves its imports (Core 4.4.7).
use Rattle.std.specs.Prelude.{◌≡◌, ℕ, ◌-◌, ◌≤◌, Bool, List, [], ◌++◌, Option}
use Rattle.wasm_syntax.specs.declared.value.Value.{Value}
use Rattle.wasm_syntax.specs.declared.parts.Import.{Import}
use Rattle.wasm_syntax.specs.declared.host.Reply.{Reply}
use Rattle.wasm_syntax.specs.declared.host.CollectorCall.{CollectorCall}
use Rattle.wasm_syntax.specs.Module.{Program}
use Rattle.wasm_syntax.specs.Host.{World}
use Rattle.wasm_syntax.specs.Machine.{Stepped, next, ends, traps, no_reply, bad_reply, stuck, first}
use Rattle.wasm_syntax.specs.Run.{ended}
use Rattle.machine_basics.specs.calls.Traps.{trap_code}
use Rattle.machine_code.specs.declared.code.Code.{Code}
use Rattle.machine_steps.specs.declared.machine.Machine.{Machine}
use Rattle.machine_steps.specs.calls.Meets.{StandsFor, Shares}
use Rattle.host_devices.specs.calls.HostSides.{Calls}
use Rattle.host_devices.specs.Given.{replies_of}
use Rattle.machine_hosted.specs.declared.answer.RunEnd.{RunEnd}
use Rattle.machine_hosted.specs.declared.answer.RunEnd.TheVariants.{Finished, Trapped, NoReply, BadReply, DeviceFault, FuelSpent, NoMemory}
use Rattle.machine_hosted.specs.calls.Hosted.{Asked, Grew, Served, Going, IsFaultOf, IsUsedUp}
use Rattle.machine_hosted.specs.calls.Answers.{AdmitsReplies, given_steps}

-- the machine, where the last frame was left with these results, of which the first one is given
pub record IsLeft (m : Machine) (w : World) (results : List Value) (value : Option Value) : Type 0 where
  pub value_is : value ≡ first results
  pub frames : m.stack.frames ≡ []
  pub shares : Shares m w

-- what the answer says of the run's end, and of the machine then
abbrev pub Tells : Program → List Code → (Import → Bool) → RunEnd → Stepped → Machine → Type 0
Tells p codes used_up NoMemory s m = Unit {0}
Tells p codes used_up FuelSpent (next c) m = StandsFor p codes m c
Tells p codes used_up FuelSpent (ends w vs co) m = ⊥
Tells p codes used_up FuelSpent (traps k c) m = ⊥
Tells p codes used_up FuelSpent (no_reply call c) m = ⊥
Tells p codes used_up FuelSpent (bad_reply call r c) m = ⊥
Tells p codes used_up FuelSpent stuck m = ⊥
Tells p codes used_up (Finished value) (next c) m = ⊥
Tells p codes used_up (Finished value) (ends w vs co) m = IsLeft m w vs value
Tells p codes used_up (Finished value) (traps k c) m = ⊥
Tells p codes used_up (Finished value) (no_reply call c) m = ⊥
Tells p codes used_up (Finished value) (bad_reply call r c) m = ⊥
Tells p codes used_up (Finished value) stuck m = ⊥
Tells p codes used_up (Trapped kind) (next c) m = ⊥
Tells p codes used_up (Trapped kind) (ends w vs co) m = ⊥
Tells p codes used_up (Trapped kind) (traps k c) m = (trap_code kind ≡ k) × StandsFor p codes m c
Tells p codes used_up (Trapped kind) (no_reply call c) m = ⊥
Tells p codes used_up (Trapped kind) (bad_reply call r c) m = ⊥
Tells p codes used_up (Trapped kind) stuck m = ⊥
Tells p codes used_up NoReply (next c) m = ⊥
Tells p codes used_up NoReply (ends w vs co) m = ⊥
Tells p codes used_up NoReply (traps k c) m = ⊥
Tells p codes used_up NoReply (no_reply call c) m = StandsFor p codes m c × IsUsedUp p used_up call
Tells p codes used_up NoReply (bad_reply call r c) m = ⊥
Tells p codes used_up NoReply stuck m = ⊥
Tells p codes used_up (DeviceFault name) (next c) m = ⊥
Tells p codes used_up (DeviceFault name) (ends w vs co) m = ⊥
Tells p codes used_up (DeviceFault name) (traps k c) m = ⊥
Tells p codes used_up (DeviceFault name) (no_reply call c) m = IsFaultOf p used_up call name × StandsFor p codes m c
Tells p codes used_up (DeviceFault name) (bad_reply call r c) m = ⊥
Tells p codes used_up (DeviceFault name) stuck m = ⊥
Tells p codes used_up (BadReply reply) (next c) m = ⊥
Tells p codes used_up (BadReply reply) (ends w vs co) m = ⊥
Tells p codes used_up (BadReply reply) (traps k c) m = ⊥
Tells p codes used_up (BadReply reply) (no_reply call c) m = ⊥
Tells p codes used_up (BadReply reply) (bad_reply call r c) m = (r ≡ reply) × StandsFor p codes m c
Tells p codes used_up (BadReply reply) stuck m = ⊥

-- The run came to this after so many steps, with these calls and, whatever replies were left, these. With want of memory it is what some
-- number of steps comes to.
pub record Came (p : Program) (codes : List Code) (used_up : Import → Bool) (go : Going) (w : World) (co : List CollectorCall) (fuel : ℕ) (asked : Asked) (answer : RunEnd) (steps : ℕ) (m : Machine) (more : List Reply) : Type 0 where
  pub what : Stepped
  pub within : steps ≤ fuel
  pub gives : go (replies_of asked.given ++ more) (given_steps answer fuel steps) ≡ ended what (given_steps answer fuel steps - steps)
  pub tells : Tells p codes used_up answer what m
  pub served : Served asked w co more what

-- the host side was asked for something, and with the replies that it gave the run came to this
pub record CameWith (p : Program) (codes : List Code) (used_up : Import → Bool) (go : Going) (w : World) (co : List CollectorCall) (fuel : ℕ) (answer : RunEnd) (steps : ℕ) (m : Machine) (old new : Calls) : Type 0 where
  pub asked : Asked
  pub grew : Grew asked old new
  pub came : (more : List Reply) → AdmitsReplies answer more → Came p codes used_up go w co fuel asked answer steps m more
