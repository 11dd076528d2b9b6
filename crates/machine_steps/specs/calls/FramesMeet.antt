-- What a step of a stack of calls has to come to.
use Rattle.std.specs.Prelude.{◌≡◌, ℕ, ◌+◌, List, [], ◌∷◌, length}
use Rattle.wasm_syntax.specs.declared.value.Value.{Value}
use Rattle.wasm_syntax.specs.declared.value.Value.TheVariants as values
use Rattle.wasm_syntax.specs.declared.parts.Body.{Body}
use Rattle.wasm_syntax.specs.declared.parts.FuncType.{FuncType}
use Rattle.wasm_syntax.specs.declared.host.CollectorCall.{CollectorCall}
use Rattle.wasm_syntax.specs.Tree.{Item, Jump, Nodes, jump, Tree}
use Rattle.wasm_syntax.specs.Module.{Program, function_at}
use Rattle.wasm_syntax.specs.Host.{World}
use Rattle.wasm_syntax.specs.Machine as steps
use Rattle.wasm_syntax.specs.Machine.{Engine, Label, Frame, Config, runs}
use Rattle.machine_basics.specs.calls.Traps.{trap_code}
use Rattle.machine_code.specs.declared.code.Code.{Code}
use Rattle.machine_code.specs.calls.Flat.{Is}
use Rattle.machine_code.specs.calls.Code.{items, Prepares}
use Rattle.machine_steps.specs.declared.layout.Control.{Control}
use Rattle.machine_steps.specs.declared.layout.CallFrame.{CallFrame}
use Rattle.machine_steps.specs.declared.layout.CallStack.{CallStack}
use Rattle.machine_steps.specs.declared.layout.Stepped.{Stepped}
use Rattle.machine_steps.specs.declared.layout.Stepped.TheVariants.{Next, Ended, Trap, NoMemory, Stuck}
use Rattle.machine_steps.specs.calls.Layout.{Level, Waiting, StandsFor}

-- a point of a run: the innermost frame with its labels, the frames that wait, and what is outside of them
pub record Point : Type 0 where
  pub engine : Engine
  pub codes : List Code
  pub frame : Frame
  pub label : Label
  pub outer : List Label
  pub callers : List Frame
  pub world : World
  pub collected : List CollectorCall

-- the innermost frame with these labels
abbrev pub with_labels : Frame → List Label → Frame
with_labels f ls = steps.frame f.function f.result f.call f.locals ls

-- the same point with these operands on top
abbrev pub with_operands : Point → List Value → Point
with_operands x vs = record x { label = steps.label vs x.label.nodes x.label.end x.label.kind }

-- the step from there
abbrev pub step_at : Point → steps.Stepped
step_at x = runs x.engine x.label.nodes x.frame x.label x.outer x.callers x.world x.collected

-- frames then, and nothing outside of them is changed
pub record Then (p : Program) (codes : List Code) (w : World) (co : List CollectorCall) (m : CallStack) (c : Config) : Type 0 where
  pub frames : StandsFor p codes m c.frames
  pub world : c.world ≡ w
  pub collected : c.collected ≡ co

-- the last frame was left with these results
pub record Left (w : World) (co : List CollectorCall) (m : CallStack) (w' : World) (results : List Value) (co' : List CollectorCall) : Type 0 where
  pub values : m.values ≡ results
  pub controls : m.controls ≡ []
  pub frames : m.frames ≡ []
  pub world : w' ≡ w
  pub collected : co' ≡ co

-- the step is a call of a function with these operands on top, from the jump at this offset in front of these nodes
abbrev pub call_at : Point → ℕ → List Value → ℕ → Nodes → steps.Stepped
call_at x g vs at rest = steps.calls x.engine (function_at x.engine.program g) g vs at rest x.frame x.label x.outer x.callers x.world x.collected

-- What the code came to is what the step gives. A stuck configuration binds nothing, and want of memory may come always.
abbrev pub Meets : Point → Stepped → steps.Stepped → CallStack → Type 0
Meets x NoMemory s m = Unit {0}
Meets x Next (steps.next c) m = Then x.engine.program x.codes x.world x.collected m c
Meets x Next (steps.ends w vs co) m = ⊥
Meets x Next (steps.traps k c) m = ⊥
Meets x Next (steps.no_reply call c) m = ⊥
Meets x Next (steps.bad_reply call r c) m = ⊥
Meets x Next steps.stuck m = Unit {0}
Meets x Ended (steps.next c) m = ⊥
Meets x Ended (steps.ends w vs co) m = Left x.world x.collected m w vs co
Meets x Ended (steps.traps k c) m = ⊥
Meets x Ended (steps.no_reply call c) m = ⊥
Meets x Ended (steps.bad_reply call r c) m = ⊥
Meets x Ended steps.stuck m = Unit {0}
Meets x (Trap kind) (steps.next c) m = ⊥
Meets x (Trap kind) (steps.ends w vs co) m = ⊥
Meets x (Trap kind) (steps.traps k c) m = (trap_code kind ≡ k) × Then x.engine.program x.codes x.world x.collected m c
Meets x (Trap kind) (steps.no_reply call c) m = ⊥
Meets x (Trap kind) (steps.bad_reply call r c) m = ⊥
Meets x (Trap kind) steps.stuck m = Unit {0}
Meets x Stuck (steps.next c) m = ⊥
Meets x Stuck (steps.ends w vs co) m = ⊥
Meets x Stuck (steps.traps k c) m = ⊥
Meets x Stuck (steps.no_reply call c) m = ⊥
Meets x Stuck (steps.bad_reply call r c) m = ⊥
Meets x Stuck steps.stuck m = Unit {0}

-- the stack of calls stands at the point, in this code
pub record Inner (x : Point) (m : CallStack) (code : Code) : Type 0 where
  pub prepares : Prepares x.engine.program x.codes
  pub e : CallFrame
  pub es : List CallFrame
  pub es_are : m.frames ≡ e ∷ es
  pub ks_below : List Control
  pub vs_below : List Value
  pub level : Level x.engine.program x.codes x.frame.function x.frame.result x.frame.locals (x.label ∷ x.outer) e code m.position m.controls m.values ks_below vs_below
  pub waiting : Waiting x.engine.program x.codes x.callers es e.returns_to ks_below vs_below

-- what stands at the position
abbrev pub Reads : CallStack → Code → Item → Type 0
Reads m code item = (at : ℕ) × Is (items code) code.sides m.position at item

-- a call from this place, where the index of a table's entry was popped, if there was one
pub record Site (x : Point) (m : CallStack) (code : Code) (operands : List Value) (at : ℕ) (rest : Nodes) : Type 0 where
  pub inner : Inner (with_operands x operands) m code
  pub j : Jump
  pub node : x.label.nodes ≡ jump at j rest

-- the innermost label is at a jump with the index of a table's entry on top of these operands
pub record CallPlace (x : Point) : Type 0 where
  pub index : ℕ
  pub operands : List Value
  pub operands_are : x.label.operands ≡ values.I32 index ∷ operands
  pub at : ℕ
  pub j : Jump
  pub rest : Nodes
  pub node : x.label.nodes ≡ jump at j rest

-- a return from there, and a branch
abbrev pub return_at : Point → steps.Stepped
return_at x = steps.moved x.engine (steps.out_some (steps.top x.frame.result x.label.operands)) x.frame x.callers x.world x.collected

abbrev pub branch_at : Point → ℕ → steps.Stepped
branch_at x n = steps.moved x.engine (steps.branch n x.label.operands (x.label ∷ x.outer)) x.frame x.callers x.world x.collected

-- a function was begun on these arguments, with no frame under it
abbrev pub Begun : Program → List Code → ℕ → Body → Tree → FuncType → List Value → Stepped → CallStack → Type 0
Begun p codes function body tree type args Next m = StandsFor p codes m (steps.entered (length p.module_.imports + function) body tree type args ∷ [])
Begun p codes function body tree type args NoMemory m = Unit {0}
Begun p codes function body tree type args Ended m = ⊥
Begun p codes function body tree type args (Trap kind) m = ⊥
Begun p codes function body tree type args Stuck m = ⊥
