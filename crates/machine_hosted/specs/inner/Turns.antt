-- Runs whose imports are served, and one call of an import in them (Core 4.4.7, host functions).
use Rattle.std.specs.Prelude.{◌≡◌, ◌≢◌, ℕ, ◌≤◌, ◌^◌, length, List, [], ◌∷◌, ◌++◌, reverse, slice_get, Bool, true, Option, Some, None, if◌then◌else◌}
use Rattle.wasm_syntax.specs.declared.value.Value.{Value}
use Rattle.wasm_syntax.specs.declared.parts.Import.{Import}
use Rattle.wasm_syntax.specs.declared.parts.FuncType.{FuncType}
use Rattle.wasm_syntax.specs.declared.module.ModuleParts.{ModuleParts as Module}
use Rattle.wasm_syntax.specs.declared.host.HostCall.{HostCall}
use Rattle.wasm_syntax.specs.declared.host.Reply.{Reply}
use Rattle.wasm_syntax.specs.declared.host.CollectorCall.{CollectorCall}
use Rattle.wasm_syntax.specs.Numbers.{types}
use Rattle.wasm_syntax.specs.Host.{World, answer, collector_of}
use Rattle.wasm_syntax.specs.Machine as steps
use Rattle.wasm_syntax.specs.Machine.{Engine, Frame, Config, config, Stepped, step, host, host_call}
use Rattle.wasm_syntax.specs.Run.{run_steps}
use Rattle.machine_code.specs.declared.code.Code.{Code}
use Rattle.machine_steps.specs.declared.machine.Machine.{Machine}
use Rattle.machine_code.specs.declared.prepared.Prepared.{Prepared}
use Rattle.machine_steps.specs.declared.machine.ImportCall.{ImportCall}
use Rattle.machine_steps.specs.calls.Meets.{CallsImport}
use Rattle.machine_steps.specs.calls.Runs.{Begins}
use Rattle.machine_hosted.specs.calls.Safe.{ValidProgram}
use Rattle.host_devices.specs.calls.HostSides.{Calls}
use Rattle.machine_hosted.specs.declared.answer.RunEnd.{RunEnd}
use Rattle.machine_hosted.specs.declared.answer.RunEnd.TheVariants.{Finished, Trapped, NoReply, BadReply, DeviceFault, FuelSpent, NoMemory}
use Rattle.machine_hosted.specs.declared.turn.Turn.{Turn}
use Rattle.machine_hosted.specs.declared.turn.Turn.TheVariants.{Goes, Ends, Lacking}
use Rattle.machine_hosted.specs.calls.Hosted.{replying, Asked, Grew, Served, Going}
use Rattle.machine_hosted.specs.calls.Answers.{AdmitsReplies}
use Rattle.machine_hosted.specs.inner.FrameRuns.{Tells}
use Rattle.host_devices.specs.Given.{replies_of}

-- ---- what a run begins with

-- a valid module, whose imports the host side serves
pub record Setting (M : Engine) (source : Module) (collecting : Bool) (serving : Import → FuncType → Bool) : Type 0 where
  pub valid : ValidProgram M.program
  pub source_is : source ≡ M.program.module_
  pub collects : M.collects ≡ collecting
  pub serves : (f : ℕ) (i : Import) (type : FuncType) → slice_get source.imports f ≡ Some i → slice_get source.types i.ftype ≡ Some type → serving i type ≡ true
  -- an index of an import has 32 bits
  pub few : length source.imports ≤ 2 ^ 32

-- the machine stands where a safe run begins, whatever the replies are
pub record Ready (prepared : Prepared) (source : Module) (depth : ℕ) (m : Machine) (collecting : Bool) (serving : Import → FuncType → Bool) : Type 0 where
  pub engine : Engine
  pub setting : Setting engine source collecting serving
  pub frames : List Frame
  pub world : World
  pub collected : List CollectorCall
  pub begins : (replies : List Reply) → Begins engine prepared depth (config frames (replying world replies) collected) m

-- the run from there
abbrev pub going : Engine → List Frame → World → List CollectorCall → Going
going M fs w co replies n = run_steps M n (config fs (replying w replies) co)

-- ---- one call of an import

-- the machine stands where the next step is a call of an import, whatever replies are left
pub record Calling (source : Module) (call : ImportCall) (m : Machine) (collecting : Bool) (serving : Import → FuncType → Bool) : Type 0 where
  pub engine : Engine
  pub codes : List Code
  pub setting : Setting engine source collecting serving
  pub there : List Reply → Config
  pub replies : (more : List Reply) → (there more).world.replies ≡ more
  pub calls : (more : List Reply) → CallsImport engine codes (there more) call (step engine (there more)) m
  pub safe : (more : List Reply) → step engine (there more) ≢ steps.stuck

-- the call of the collector that this one is, where the definitions collect
abbrev pub told_by : Engine → HostCall → Option CollectorCall
told_by M call = if M.collects then collector_of M.program.module_ call else None

-- the step is a call of this import, with these arguments on top of the operands below
pub record AtCall (M : Engine) (codes : List Code) (call : ImportCall) (import : Import) (type : FuncType) (args : List Value) (m : Machine) (c : Config) : Type 0 where
  pub calls : CallsImport M codes c call (step M c) m
  pub import_is : calls.import ≡ import
  pub type_is : calls.type ≡ type
  pub count : length args ≡ length type.params
  pub typed : types args ≡ type.params
  pub below : List Value
  pub operands : calls.operands ≡ reverse args ++ below
  pub step_is : step M c ≡ host M (answer M.collects M.program.module_ (host_call call.function import type args) c.world) (host_call call.function import type args) below calls.rest calls.frame calls.label calls.outer calls.callers c.world c.collected

-- how the run ends, or that it goes on
abbrev pub end_of : Turn → RunEnd
end_of Goes = FuelSpent
end_of (Ends answer) = answer
end_of Lacking = NoMemory

-- it is no end where the run goes on
abbrev pub Stops : RunEnd → Type 0
Stops FuelSpent = ⊥
Stops (Finished value) = Unit {0}
Stops (Trapped kind) = Unit {0}
Stops NoReply = Unit {0}
Stops (DeviceFault name) = Unit {0}
Stops (BadReply reply) = Unit {0}
Stops NoMemory = Unit {0}

abbrev pub StopsOrGoes : Turn → Type 0
StopsOrGoes Goes = Unit {0}
StopsOrGoes (Ends answer) = Stops answer
StopsOrGoes Lacking = ⊥

-- the host side was asked for nothing, for one reply, or for one call of the collector
abbrev pub nothing : Asked
nothing = record { given = []; told = [] }

abbrev pub one_reply : HostCall → Reply → Asked
one_reply call reply = record { given = record { call = call; reply = reply } ∷ []; told = [] }

abbrev pub one_told : CollectorCall → Asked
one_told k = record { given = []; told = k ∷ [] }

-- the step comes to what the turn says
pub record Turned (M : Engine) (codes : List Code) (used_up : Import → Bool) (asked : Asked) (turn : Turn) (c : Config) (m : Machine) (more : List Reply) : Type 0 where
  pub what : Stepped
  pub is : step M c ≡ what
  pub stops : StopsOrGoes turn
  pub tells : Tells M.program codes used_up (end_of turn) what m
  pub served : Served asked c.world c.collected more what

-- the host side was asked for something, and with its reply the step comes to what the turn says
pub record TurnedWith (M : Engine) (codes : List Code) (used_up : Import → Bool) (turn : Turn) (there : List Reply → Config) (m : Machine) (old new : Calls) : Type 0 where
  pub asked : Asked
  pub grew : Grew asked old new
  pub turned : (more : List Reply) → AdmitsReplies (end_of turn) more → Turned M codes used_up asked turn (there (replies_of asked.given ++ more)) m more

-- where memory ran out before the host side answered, nothing is said but that it was asked for nothing
abbrev pub TurnMeets : Engine → List Code → (Import → Bool) → Turn → (List Reply → Config) → Machine → Calls → Calls → Type 0
TurnMeets M codes used_up Lacking there m old new = new ≡ old
TurnMeets M codes used_up Goes there m old new = TurnedWith M codes used_up Goes there m old new
TurnMeets M codes used_up (Ends answer) there m old new = TurnedWith M codes used_up (Ends answer) there m old new

-- it is no end for want of a reply
abbrev pub IsReplied : RunEnd → Type 0
IsReplied NoReply = ⊥
IsReplied (DeviceFault name) = ⊥
IsReplied FuelSpent = Unit {0}
IsReplied (Finished value) = Unit {0}
IsReplied (Trapped kind) = Unit {0}
IsReplied (BadReply reply) = Unit {0}
IsReplied NoMemory = Unit {0}
