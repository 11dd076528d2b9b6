-- What an invocation comes to: the start function, where it is due, and then the entry (Core 4.5.4, 4.5.5).
use Rattle.std.specs.Prelude.{◌≡◌, ℕ, ◌-◌, ◌≤◌, ◌==◌, ◌&&◌, not, Bool, true, false, List, ◌++◌, drop, length, Option, Some}
use Rattle.wasm_syntax.specs.declared.value.Value.{Value}
use Rattle.wasm_syntax.specs.declared.parts.Import.{Import}
use Rattle.wasm_syntax.specs.declared.host.HostCall.{HostCall}
use Rattle.wasm_syntax.specs.declared.host.Reply.{Reply}
use Rattle.wasm_syntax.specs.Module.{Program}
use Rattle.wasm_syntax.specs.Host.{World}
use Rattle.wasm_syntax.specs.Machine.{Engine, Config}
use Rattle.wasm_syntax.specs.Run.{Outcome, finished, trapped, lacks_reply, misfits, running, Ran, goes_on, invoked}
use Rattle.machine_basics.specs.calls.Traps.{trap_code}
use Rattle.machine_code.specs.declared.code.Code.{Code}
use Rattle.machine_steps.specs.declared.machine.Machine.{Machine}
use Rattle.host_devices.specs.calls.HostSides.{Calls}
use Rattle.host_devices.specs.Given.{unfitting}
use Rattle.machine_hosted.specs.calls.Hosted.{replying, Asked, Grew, IsFaultOf, IsUsedUp}
use Rattle.host_devices.specs.Given.{replies_of}
use Rattle.machine_hosted.specs.declared.answer.RunEnd.{RunEnd}
use Rattle.machine_hosted.specs.declared.answer.RunEnd.TheVariants.{Finished, Trapped, NoReply, BadReply, DeviceFault, FuelSpent, NoMemory}
use Rattle.machine_hosted.specs.calls.Answers.{KeepsThen, AdmitsReplies, given_steps}

-- the outcome that is answered
abbrev pub HasOutcome : Program → (Import → Bool) → RunEnd → Outcome → Type 0
HasOutcome p used_up (Finished value) o = o ≡ finished value
HasOutcome p used_up (Trapped kind) o = o ≡ trapped (trap_code kind)
HasOutcome p used_up NoReply o = (call : HostCall) × (o ≡ lacks_reply call) × IsUsedUp p used_up call
HasOutcome p used_up (DeviceFault name) o = (call : HostCall) × (o ≡ lacks_reply call) × IsFaultOf p used_up call name
HasOutcome p used_up (BadReply reply) o = (call : HostCall) × (o ≡ misfits call reply)
HasOutcome p used_up FuelSpent o = o ≡ running
HasOutcome p used_up NoMemory o = Unit {0}

-- whether another invocation may follow
abbrev pub may_follow : RunEnd → Ran → Bool
may_follow NoMemory r = false
may_follow (Finished value) r = goes_on r.outcome r.entered
may_follow (Trapped kind) r = goes_on r.outcome r.entered
may_follow NoReply r = goes_on r.outcome r.entered
may_follow (DeviceFault name) r = goes_on r.outcome r.entered
may_follow (BadReply reply) r = goes_on r.outcome r.entered
may_follow FuelSpent r = goes_on r.outcome r.entered

-- whether the entry was begun, behind the start function; with want of memory nothing is said
abbrev pub IsEntered : RunEnd → (entered : Bool) → Ran → Type 0
IsEntered NoMemory entered r = Unit {0}
IsEntered (Finished value) entered r = entered ≡ r.entered
IsEntered (Trapped kind) entered r = entered ≡ r.entered
IsEntered NoReply entered r = entered ≡ r.entered
IsEntered (DeviceFault name) entered r = entered ≡ r.entered
IsEntered (BadReply reply) entered r = entered ≡ r.entered
IsEntered FuelSpent entered r = entered ≡ r.entered

-- the function gave its result
abbrev pub finishes : RunEnd → Bool
finishes (Finished value) = true
finishes (Trapped kind) = false
finishes NoReply = false
finishes (BadReply reply) = false
finishes (DeviceFault name) = false
finishes FuelSpent = false
finishes NoMemory = false

-- the same by the answer, where the run ended inside the entry, or inside the start function
abbrev pub follows_behind : RunEnd → (entered : Bool) → Bool
follows_behind (Finished value) entered = true
follows_behind (Trapped kind) entered = not (trap_code kind == 8) && entered
follows_behind NoReply entered = false
follows_behind (DeviceFault name) entered = false
follows_behind (BadReply reply) entered = false
follows_behind FuelSpent entered = false
follows_behind NoMemory entered = false

-- an invocation as a function of all replies and the number of steps
abbrev pub Invoking : Type 0
Invoking = List Reply → ℕ → Ran

-- The invocation came to this after so many steps, with these calls, whatever replies were left behind those that were given. With want of
-- memory it is what some number of steps comes to.
pub record InvocationCame (p : Program) (codes : List Code) (used_up : Import → Bool) (go : Invoking) (fuel : ℕ) (asked : Asked) (answer : RunEnd) (steps : ℕ) (ready entered : Bool) (m : Machine) (more : List Reply) : Type 0 where
  pub ran : Ran
  pub within : steps ≤ fuel
  pub gives : go (replies_of asked.given ++ more) (given_steps answer fuel steps) ≡ ran
  pub outcome : HasOutcome p used_up answer ran.outcome
  pub left : ran.left ≡ given_steps answer fuel steps - steps
  pub served : asked.given ≡ ran.served ++ unfitting ran.outcome
  pub collected : asked.told ≡ ran.collected
  pub follows : ready ≡ may_follow answer ran
  pub entered_is : IsEntered answer entered ran
  pub last : Config
  pub last_is : ran.last ≡ Some last
  pub keeps : KeepsThen p codes answer m last
  -- the replies that were not asked for
  pub replies : drop (length (unfitting ran.outcome)) last.world.replies ≡ more

pub record InvocationCameWith (p : Program) (codes : List Code) (used_up : Import → Bool) (go : Invoking) (fuel : ℕ) (answer : RunEnd) (steps : ℕ) (ready entered : Bool) (m : Machine) (old new : Calls) : Type 0 where
  pub asked : Asked
  pub grew : Grew asked old new
  pub came : (more : List Reply) → AdmitsReplies answer more → InvocationCame p codes used_up go fuel asked answer steps ready entered m more

abbrev pub invoking : Engine → Option ℕ → ℕ → List Value → World → Invoking
invoking M start f args w replies n = invoked M start n f args (replying w replies)
