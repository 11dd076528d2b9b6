-- What the run of one function comes to where a host side serves its imports (Core 4.4.7, 4.5.5).
use Rattle.std.specs.Prelude.{◌≡◌, ℕ, ◌-◌, ◌≤◌, Bool, List, [], ◌∷◌, ◌++◌, Option, Some, None}
use Rattle.wasm_syntax.specs.declared.value.Value.{Value}
use Rattle.wasm_syntax.specs.declared.parts.Import.{Import}
use Rattle.wasm_syntax.specs.declared.host.HostCall.{HostCall}
use Rattle.wasm_syntax.specs.declared.host.Reply.{Reply}
use Rattle.wasm_syntax.specs.declared.host.CollectorCall.{CollectorCall}
use Rattle.wasm_syntax.specs.declared.module.ModuleParts.{ModuleParts as Module}
use Rattle.wasm_syntax.specs.Module.{Program, function_at}
use Rattle.wasm_syntax.specs.Host.{World}
use Rattle.wasm_syntax.specs.Machine.{Engine, Frame, Config, config, Stepped, next, ends, traps, no_reply, bad_reply, stuck, first}
use Rattle.wasm_syntax.specs.Run.{ended, run_function}
use Rattle.causes.specs.Counts.{Rose}
use Rattle.machine_basics.specs.calls.Traps.{trap_code}
use Rattle.machine_code.specs.declared.code.Code.{Code}
use Rattle.machine_steps.specs.calls.Layout as layout
use Rattle.machine_steps.specs.declared.machine.Machine.{Machine}
use Rattle.machine_steps.specs.calls.Meets.{StandsFor, Shares}
use Rattle.machine_hosted.specs.calls.Safe.{RunFits}
use Rattle.host_devices.specs.calls.HostSides.{Calls}
use Rattle.machine_hosted.specs.calls.Hosted.{Going, replying, Asked, Grew, Served, IsFaultOf, IsUsedUp}
use Rattle.host_devices.specs.Given.{replies_of}
use Rattle.machine_hosted.specs.calls.Settings.{MachineFits}
use Rattle.machine_hosted.specs.declared.answer.RunEnd.{RunEnd}
use Rattle.machine_hosted.specs.declared.answer.RunEnd.TheVariants.{Finished, Trapped, NoReply, BadReply, DeviceFault, FuelSpent, NoMemory}

-- ---- what the machine keeps

-- the frames of a configuration, or none where it has none
abbrev pub KeepsFrames : Program → List Code → Machine → List Frame → Type 0
KeepsFrames p codes m [] = m.stack.frames ≡ []
KeepsFrames p codes m (f ∷ fs) = layout.StandsFor p codes m.stack (f ∷ fs)

pub record Keeps (p : Program) (codes : List Code) (m : Machine) (c : Config) : Type 0 where
  pub frames : KeepsFrames p codes m c.frames
  pub shares : Shares m c.world

-- A trap leaves frames. After want of memory the machine is of no use.
abbrev pub KeepsThen : Program → List Code → RunEnd → Machine → Config → Type 0
KeepsThen p codes (Finished value) m c = Keeps p codes m c
KeepsThen p codes (Trapped kind) m c = StandsFor p codes m c
KeepsThen p codes NoReply m c = Keeps p codes m c
KeepsThen p codes (DeviceFault name) m c = Keeps p codes m c
KeepsThen p codes (BadReply reply) m c = Keeps p codes m c
KeepsThen p codes FuelSpent m c = Keeps p codes m c
KeepsThen p codes NoMemory m c = Unit {0}

-- the last configuration
abbrev pub last_in : Stepped → Option Config
last_in (next c) = Some c
last_in (ends w vs co) = Some (config [] w co)
last_in (traps k c) = Some c
last_in (no_reply call c) = Some c
last_in (bad_reply call reply c) = Some c
last_in stuck = None

-- ---- what the answer says

abbrev pub AnswersTo : Program → (Import → Bool) → RunEnd → Stepped → Type 0
AnswersTo p used_up (Finished value) s = (w : World) × (vs : List Value) × (co : List CollectorCall) × (s ≡ ends w vs co) × (value ≡ first vs)
AnswersTo p used_up (Trapped kind) s = (c : Config) × (s ≡ traps (trap_code kind) c)
AnswersTo p used_up NoReply s = (call : HostCall) × (c : Config) × (s ≡ no_reply call c) × IsUsedUp p used_up call
AnswersTo p used_up (DeviceFault name) s = (call : HostCall) × (c : Config) × (s ≡ no_reply call c) × IsFaultOf p used_up call name
AnswersTo p used_up (BadReply reply) s = (call : HostCall) × (c : Config) × (s ≡ bad_reply call reply c)
AnswersTo p used_up FuelSpent s = (c : Config) × (s ≡ next c)
AnswersTo p used_up NoMemory s = Unit {0}

-- without a reply, none was left
abbrev pub AdmitsReplies : RunEnd → List Reply → Type 0
AdmitsReplies NoReply more = more ≡ []
AdmitsReplies (DeviceFault name) more = more ≡ []
AdmitsReplies (Finished value) more = Unit {0}
AdmitsReplies (Trapped kind) more = Unit {0}
AdmitsReplies (BadReply reply) more = Unit {0}
AdmitsReplies FuelSpent more = Unit {0}
AdmitsReplies NoMemory more = Unit {0}

-- how many steps the run was given, where it came to this after so many: with want of memory these are all
abbrev pub given_steps : RunEnd → (fuel steps : ℕ) → ℕ
given_steps NoMemory fuel steps = steps
given_steps (Finished value) fuel steps = fuel
given_steps (Trapped kind) fuel steps = fuel
given_steps NoReply fuel steps = fuel
given_steps (DeviceFault name) fuel steps = fuel
given_steps (BadReply reply) fuel steps = fuel
given_steps FuelSpent fuel steps = fuel

-- The run came to this after so many steps, with these calls, whatever replies were left behind those that were given.
pub record FunctionCame (p : Program) (codes : List Code) (used_up : Import → Bool) (go : Going) (w : World) (co : List CollectorCall) (fuel : ℕ) (asked : Asked) (answer : RunEnd) (steps : ℕ) (m : Machine) (more : List Reply) : Type 0 where
  pub what : Stepped
  pub within : steps ≤ fuel
  pub gives : go (replies_of asked.given ++ more) (given_steps answer fuel steps) ≡ ended what (given_steps answer fuel steps - steps)
  pub answers : AnswersTo p used_up answer what
  pub keeps : (c : Config) → last_in what ≡ Some c → KeepsThen p codes answer m c
  pub served : Served asked w co more what
  pub fits : RunFits p.module_ what

-- the host side was asked for something, and with the replies that it gave the run came to this
pub record FunctionCameWith (p : Program) (codes : List Code) (used_up : Import → Bool) (go : Going) (w : World) (co : List CollectorCall) (fuel : ℕ) (answer : RunEnd) (steps : ℕ) (m : Machine) (old new : Calls) : Type 0 where
  pub asked : Asked
  pub grew : Grew asked old new
  pub came : (more : List Reply) → AdmitsReplies answer more → FunctionCame p codes used_up go w co fuel asked answer steps m more

-- a function as a function of all replies and the number of steps
abbrev pub function_going : Engine → ℕ → List Value → World → List CollectorCall → Going
function_going M f args w co replies n = run_function M n f (function_at M.program f) args (replying w replies) co

-- what is outside the frames fits the module, where the run ended or trapped
abbrev pub FitsThen : Module → RunEnd → Machine → Type 0
FitsThen m (Finished value) machine = MachineFits m machine
FitsThen m (Trapped kind) machine = MachineFits m machine
FitsThen m NoReply machine = Unit {0}
FitsThen m (DeviceFault name) machine = Unit {0}
FitsThen m (BadReply reply) machine = Unit {0}
FitsThen m FuelSpent machine = Unit {0}
FitsThen m NoMemory machine = Unit {0}

-- a device that failed is named, and its count of faults rose
abbrev pub HasCause : RunEnd → (List ℕ → ℕ) → (List ℕ → ℕ) → Type 0
HasCause (DeviceFault name) before now = Rose (before name) (now name)
HasCause (Finished value) before now = Unit {0}
HasCause (Trapped kind) before now = Unit {0}
HasCause NoReply before now = Unit {0}
HasCause (BadReply reply) before now = Unit {0}
HasCause FuelSpent before now = Unit {0}
HasCause NoMemory before now = Unit {0}
