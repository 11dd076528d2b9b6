-- What a step of a machine has to come to.
use Rattle.std.specs.Prelude.{◌≡◌, ℕ, suc, Bool, true, false, List, [], ◌∷◌, Some}
use Rattle.wasm_syntax.specs.declared.value.Value.{Value}
use Rattle.wasm_syntax.specs.declared.value.Value.TheVariants as values
use Rattle.wasm_syntax.specs.declared.parts.Import.{Import as Imported}
use Rattle.wasm_syntax.specs.declared.parts.FuncType.{FuncType}
use Rattle.wasm_syntax.specs.declared.host.CollectorCall.{CollectorCall}
use Rattle.wasm_syntax.specs.Tree.{Jump, Nodes, jump}
use Rattle.wasm_syntax.specs.Module.{Program, imported, function_at}
use Rattle.wasm_syntax.specs.Host.{World}
use Rattle.wasm_syntax.specs.Machine as steps
use Rattle.wasm_syntax.specs.Machine.{Engine, Label, Frame, Config}
use Rattle.machine_basics.specs.calls.Traps.{trap_code}
use Rattle.machine_basics.specs.calls.Performs.{Holds}
use Rattle.machine_code.specs.declared.code.Code.{Code}
use Rattle.machine_steps.specs.declared.layout.Stepped.{Stepped}
use Rattle.machine_steps.specs.declared.layout.Stepped.TheVariants as stepped
use Rattle.machine_steps.specs.calls.Layout as layout
use Rattle.machine_steps.specs.calls.FramesMeet.{Point, with_labels, Inner}
use Rattle.machine_steps.specs.declared.machine.Machine.{Machine}
use Rattle.machine_steps.specs.declared.machine.ImportCall.{ImportCall}
use Rattle.machine_steps.specs.declared.machine.Outcome.{Outcome}
use Rattle.machine_steps.specs.declared.machine.Outcome.TheVariants.{Next, Ended, Trap, Import, NoMemory, Stuck}

-- the outcome of a step of the frames
abbrev pub outcome_of : Stepped → Outcome
outcome_of stepped.Next = Next
outcome_of stepped.Ended = Ended
outcome_of (stepped.Trap kind) = Trap kind
outcome_of stepped.NoMemory = NoMemory
outcome_of stepped.Stuck = Stuck

-- what frames share is that of a world; of replies the machine knows nothing
pub record Shares (m : Machine) (w : World) : Type 0 where
  pub holds : Holds m.shared w
  pub table : w.table ≡ m.table

-- the machine stands for a configuration
pub record StandsFor (p : Program) (codes : List Code) (m : Machine) (c : Config) : Type 0 where
  pub frames : layout.StandsFor p codes m.stack c.frames
  pub shares : Shares m c.world

-- the host is as it was
pub record SameHost (w : World) (co : List CollectorCall) (w' : World) (co' : List CollectorCall) : Type 0 where
  pub replies : w'.replies ≡ w.replies
  pub served : w'.served ≡ w.served
  pub collected : co' ≡ co

-- the machine stands for a configuration then, and the host is as it was
pub record Then (p : Program) (codes : List Code) (w : World) (co : List CollectorCall) (m : Machine) (c : Config) : Type 0 where
  pub stands : StandsFor p codes m c
  pub host : SameHost w co c.world c.collected

-- the last frame was left with these results
pub record Left (w : World) (co : List CollectorCall) (m : Machine) (w' : World) (results : List Value) (co' : List CollectorCall) : Type 0 where
  pub values : m.stack.values ≡ results
  pub controls : m.stack.controls ≡ []
  pub frames : m.stack.frames ≡ []
  pub shares : Shares m w'
  pub host : SameHost w co w' co'

-- the operands are these, under the index of a table's entry where there is one
abbrev pub UnderIndex : Bool → (operands vs : List Value) → Type 0
UnderIndex false operands vs = operands ≡ vs
UnderIndex true operands vs = (i : ℕ) × (operands ≡ values.I32 i ∷ vs)

-- The step is a call of an import from this point, and the machine stands there.
pub record CallsImport (engine : Engine) (codes : List Code) (c : Config) (call : ImportCall) (s : steps.Stepped) (m : Machine) : Type 0 where
  pub import : Imported
  pub type : FuncType
  pub is : function_at engine.program call.function ≡ Some (imported import type)
  pub frame : Frame
  pub label : Label
  pub outer : List Label
  pub callers : List Frame
  pub frames_are : c.frames ≡ with_labels frame (label ∷ outer) ∷ callers
  pub at : ℕ
  pub jumps : Jump
  pub rest : Nodes
  pub node : label.nodes ≡ jump at jumps rest
  pub operands : List Value
  pub under : UnderIndex call.indirect label.operands operands
  pub next : call.next ≡ suc m.stack.position
  pub step : s ≡ steps.calls engine (function_at engine.program call.function) call.function operands at rest frame label outer callers c.world c.collected
  pub stands : StandsFor engine.program codes m c

-- What the code came to is what the step from a configuration gives. A stuck configuration binds nothing, and want of memory may come
-- always.
abbrev pub Meets : Engine → List Code → Config → Outcome → steps.Stepped → Machine → Type 0
Meets M codes c NoMemory s m = Unit {0}
Meets M codes c Next (steps.next c') m = Then M.program codes c.world c.collected m c'
Meets M codes c Next (steps.ends w vs co) m = ⊥
Meets M codes c Next (steps.traps k c') m = ⊥
Meets M codes c Next (steps.no_reply call c') m = ⊥
Meets M codes c Next (steps.bad_reply call r c') m = ⊥
Meets M codes c Next steps.stuck m = Unit {0}
Meets M codes c Ended (steps.next c') m = ⊥
Meets M codes c Ended (steps.ends w vs co) m = Left c.world c.collected m w vs co
Meets M codes c Ended (steps.traps k c') m = ⊥
Meets M codes c Ended (steps.no_reply call c') m = ⊥
Meets M codes c Ended (steps.bad_reply call r c') m = ⊥
Meets M codes c Ended steps.stuck m = Unit {0}
Meets M codes c (Trap kind) (steps.next c') m = ⊥
Meets M codes c (Trap kind) (steps.ends w vs co) m = ⊥
Meets M codes c (Trap kind) (steps.traps k c') m = (trap_code kind ≡ k) × Then M.program codes c.world c.collected m c'
Meets M codes c (Trap kind) (steps.no_reply call c') m = ⊥
Meets M codes c (Trap kind) (steps.bad_reply call r c') m = ⊥
Meets M codes c (Trap kind) steps.stuck m = Unit {0}
Meets M codes c (Import call) (steps.next c') m = CallsImport M codes c call (steps.next c') m
Meets M codes c (Import call) (steps.ends w vs co) m = ⊥
Meets M codes c (Import call) (steps.traps k c') m = ⊥
Meets M codes c (Import call) (steps.no_reply call' c') m = CallsImport M codes c call (steps.no_reply call' c') m
Meets M codes c (Import call) (steps.bad_reply call' r c') m = CallsImport M codes c call (steps.bad_reply call' r c') m
Meets M codes c (Import call) steps.stuck m = Unit {0}
Meets M codes c Stuck (steps.next c') m = ⊥
Meets M codes c Stuck (steps.ends w vs co) m = ⊥
Meets M codes c Stuck (steps.traps k c') m = ⊥
Meets M codes c Stuck (steps.no_reply call c') m = ⊥
Meets M codes c Stuck (steps.bad_reply call r c') m = ⊥
Meets M codes c Stuck steps.stuck m = Unit {0}

-- a machine at a point of a run, in this code
pub record Here (x : Point) (m : Machine) (code : Code) : Type 0 where
  pub inner : Inner x m.stack code
  pub shares : Shares m x.world

-- the configuration of a point
abbrev pub config_at : Point → Config
config_at x = steps.config (with_labels x.frame (x.label ∷ x.outer) ∷ x.callers) x.world x.collected

abbrev pub MeetsAt : Point → Outcome → steps.Stepped → Machine → Type 0
MeetsAt x o s m = Meets x.engine x.codes (config_at x) o s m
