-- Configurations (Core 4.2) and their steps (Core 4.4.5 to 4.4.8). A step is defensive: what Core knows from validation is tested, and
-- where a test fails, the step is stuck.
use Rattle.std.specs.Prelude.{ℕ, zero, suc, nat_lt, Bool, true, false, List, [], ◌∷◌, ◌++◌, map, reverse, length, slice_get, Option, Some, None, option_to_list, option_map, unwrap_or}
use Rattle.wasm_syntax.specs.declared.value.ValType.{ValType}
use Rattle.wasm_syntax.specs.declared.value.Value.{Value}
use Rattle.wasm_syntax.specs.declared.value.Value.TheVariants as values
use Rattle.wasm_syntax.specs.declared.instruction.Basic.{Basic}
use Rattle.wasm_syntax.specs.Numbers.{value, types, type_of, same_type}
use Rattle.wasm_syntax.specs.Tree.{Jump, Unreachable, Br, BrIf, BrTable, Return, Call, CallIndirect, Nodes, stop, basic, jump, block, loop, choose, Tree}
use Rattle.wasm_syntax.specs.declared.parts.FuncType.{FuncType}
use Rattle.wasm_syntax.specs.declared.parts.Import.{Import}
use Rattle.wasm_syntax.specs.declared.parts.Body.{Body}
use Rattle.wasm_syntax.specs.Module.{Program, Function, imported, defined, function_at, type_at, declared_locals, same_types, same_functype}
use Rattle.wasm_syntax.specs.declared.host.HostCall.{HostCall}
use Rattle.wasm_syntax.specs.declared.host.Reply.{Reply}
use Rattle.wasm_syntax.specs.declared.host.CollectorCall.{CollectorCall}
use Rattle.wasm_syntax.specs.Host.{World, Answer, replied, told, silent, misfit, answer}
use Rattle.wasm_syntax.specs.Effect.{Effect, gives, fails, unfit, effect, takes}
use Rattle.std.specs.Bool.{then_some}

-- what a branch to a label does (Core 4.2.12): it leaves a block or an arm, begins a loop anew, or leaves the function
pub data Kind : Type 0 where
  leaves : (t : Option ValType) → Kind
  again : (at : ℕ) (t : Option ValType) (body : Nodes) (end : ℕ) → Kind
  returns : (t : Option ValType) → Kind

-- the operands, the topmost first, the nodes still to be run, and the offset of the `end` or `else` behind them
pub record Label : Type 0 where
  pub operands : List Value
  pub nodes : Nodes
  pub end : ℕ
  pub kind : Kind

-- a function under way: what it gives, the offset of the last call that it made, which is under way where another frame is above it, its
-- locals, and its labels from the innermost out; the last one is that of its body
pub record Frame : Type 0 where
  pub function : ℕ
  pub result : Option ValType
  pub call : ℕ
  pub locals : List Value
  pub labels : List Label

-- the frames stand innermost first, the collector calls newest first
pub record Config : Type 0 where
  pub frames : List Frame
  pub world : World
  pub collected : List CollectorCall

abbrev pub label : List Value → Nodes → ℕ → Kind → Label
label vs nodes end kind = record { operands = vs; nodes = nodes; end = end; kind = kind }

abbrev pub frame : ℕ → Option ValType → ℕ → List Value → List Label → Frame
frame f t call ls labels = record { function = f; result = t; call = call; locals = ls; labels = labels }

abbrev pub config : List Frame → World → List CollectorCall → Config
config fs w co = record { frames = fs; world = w; collected = co }

-- what is fixed in a run: the program, whether the collector's imports are taken, and the most frames
pub record Engine : Type 0 where
  pub program : Program
  pub collects : Bool
  pub depth : ℕ

pub data Stepped : Type 0 where
  next : Config → Stepped
  -- the last frame was left
  ends : World → List Value → List CollectorCall → Stepped
  -- these change nothing
  traps : (kind : ℕ) → Config → Stepped
  no_reply : HostCall → Config → Stepped
  bad_reply : HostCall → Reply → Config → Stepped
  stuck : Stepped

-- ---- operands

-- the first n of a list and the others
pub data Cut : Type 0 where
  short : Cut
  parts : (taken below : List Value) → Cut

abbrev pub one_more : Value → Cut → Cut
one_more v short = short
one_more v (parts t b) = parts (v ∷ t) b

abbrev pub cut : ℕ → List Value → Cut
cut zero vs = parts [] vs
cut (suc n) [] = short
cut (suc n) (v ∷ vs) = one_more v (cut n vs)

-- the results of this type on top
abbrev pub top : Option ValType → List Value → Option (List Value)
top None vs = Some []
top (Some t) [] = None
top (Some t) (v ∷ vs) = then_some (same_type (type_of v) t) (v ∷ [])

-- the results of this type, where there is nothing else
abbrev pub exactly : Option ValType → List Value → Option (List Value)
exactly None [] = Some []
exactly (Some t) (v ∷ []) = then_some (same_type (type_of v) t) (v ∷ [])
exactly _ _ = None

-- ---- moves inside a frame (Core 4.4.5)

-- where a move leads: to these labels, or out of the function, with these results
pub data Went : Type 0 where
  inside : List Label → Went
  outside : List Value → Went
  nowhere : Went

-- results come to the innermost of these labels
abbrev pub arrive : List Value → List Label → Went
arrive vs [] = nowhere
arrive vs (l ∷ ls) = inside (label (vs ++ l.operands) l.nodes l.end l.kind ∷ ls)

abbrev pub arrive_some : Option (List Value) → List Label → Went
arrive_some None ls = nowhere
arrive_some (Some vs) ls = arrive vs ls

abbrev pub out_some : Option (List Value) → Went
out_some None = nowhere
out_some (Some vs) = outside vs

-- the end of a label's nodes, inside these labels
abbrev pub leave : Kind → List Value → List Label → Went
leave (leaves t) vs ls = arrive_some (exactly t vs) ls
leave (again at t body end) vs ls = arrive_some (exactly t vs) ls
leave (returns t) vs ls = out_some (exactly t vs)

-- the loop is the next node
abbrev pub loops : ℕ → Option ValType → Nodes → ℕ → List Label → Went
loops at t body end [] = nowhere
loops at t body end (l ∷ ls) = inside (label l.operands (loop at t body end l.nodes) l.end l.kind ∷ ls)

-- a branch that has come to its label
abbrev pub land : Kind → List Value → List Label → Went
land (leaves t) vs ls = arrive_some (top t vs) ls
land (again at t body end) vs ls = loops at t body end ls
land (returns t) vs ls = out_some (top t vs)

-- a branch with the operands vs on top to the n-th of these labels
abbrev pub branch : ℕ → List Value → List Label → Went
branch n vs [] = nowhere
branch zero vs (l ∷ ls) = land l.kind vs ls
branch (suc n) vs (l ∷ ls) = branch n vs ls

-- what a branch to a label takes with it
abbrev pub carried_by : Kind → Option ValType
carried_by (leaves t) = t
carried_by (again at t body end) = None
carried_by (returns t) = t

abbrev pub carry : ℕ → List Label → Option (Option ValType)
carry n [] = None
carry zero (l ∷ ls) = Some (carried_by l.kind)
carry (suc n) (l ∷ ls) = carry n ls

abbrev pub same_result : Option ValType → Option ValType → Bool
same_result None None = true
same_result (Some t) (Some u) = same_type t u
same_result _ _ = false

abbrev pub same_carry : Option (Option ValType) → Option (Option ValType) → Bool
same_carry (Some a) (Some b) = same_result a b
same_carry _ _ = false

abbrev pub pick : List ℕ → ℕ → ℕ → ℕ
pick [] d n = d
pick (t ∷ ts) d zero = t
pick (t ∷ ts) d (suc n) = pick ts d n

-- ---- functions

abbrev pub zero_of : ValType → Value
zero_of t = value t 0

abbrev pub zeros : List ValType → List Value
zeros ts = map zero_of ts

abbrev pub first : {A : Type 0} → List A → Option A
first [] = None
first (x ∷ xs) = Some x

-- a function has at most one result
abbrev pub result_of : FuncType → Option ValType
result_of type = first type.results

abbrev pub function_type : Function → FuncType
function_type (imported import type) = type
function_type (defined body tree type) = type

-- the frame in which a function begins, on arguments in the parameters' order
abbrev pub entered : ℕ → Body → Tree → FuncType → List Value → Frame
entered f body tree type args =
    frame f (result_of type) 0 (args ++ zeros (declared_locals body.groups)) (label [] tree.nodes tree.end (returns (result_of type)) ∷ [])

abbrev pub host_call : ℕ → Import → FuncType → List Value → HostCall
host_call f import type args = record { import = f; name = import.name; args = args; result = result_of type }

module _ (M : Engine) where
  -- ---- results and calls (Core 4.4.7)

  abbrev pub goes_to : Went → Frame → List Frame → World → List CollectorCall → Stepped
  goes_to (inside ls) f fs w co = next (config (frame f.function f.result f.call f.locals ls ∷ fs) w co)
  goes_to _ f fs w co = stuck

  -- these results are handed to the call that is under way, or are those of the run
  abbrev pub deliver : List Value → List Frame → World → List CollectorCall → Stepped
  deliver vs [] w co = ends w vs co
  deliver vs (f ∷ fs) w co = goes_to (arrive vs f.labels) f fs w co

  abbrev pub moved : Went → Frame → List Frame → World → List CollectorCall → Stepped
  moved (inside ls) f fs w co = next (config (frame f.function f.result f.call f.locals ls ∷ fs) w co)
  moved (outside vs) f fs w co = deliver vs fs w co
  moved nowhere f fs w co = stuck

  -- a host function has answered; below are the operands under its arguments
  abbrev pub host : Answer → HostCall → List Value → Nodes → Frame → Label → List Label → List Frame → World → List CollectorCall → Stepped
  host (replied w' v) call below rest f l ls fs w co =
      next (config (frame f.function f.result f.call f.locals (label (option_to_list v ++ below) rest l.end l.kind ∷ ls) ∷ fs) w' co)
  host (told k) call below rest f l ls fs w co =
      next (config (frame f.function f.result f.call f.locals (label below rest l.end l.kind ∷ ls) ∷ fs) w (k ∷ co))
  host silent call below rest f l ls fs w co = no_reply call (config (frame f.function f.result f.call f.locals (l ∷ ls) ∷ fs) w co)
  host (misfit reply) call below rest f l ls fs w co = bad_reply call reply (config (frame f.function f.result f.call f.locals (l ∷ ls) ∷ fs) w co)

  -- a function begins above the frame that called it, which keeps what the call left
  abbrev pub enters : Bool → Frame → List Value → ℕ → Nodes → Frame → Label → List Label → List Frame → World → List CollectorCall → Stepped
  enters false new below at rest f l ls fs w co = traps 8 (config (frame f.function f.result f.call f.locals (l ∷ ls) ∷ fs) w co)
  enters true new below at rest f l ls fs w co =
      next (config (new ∷ frame f.function f.result at f.locals (label below rest l.end l.kind ∷ ls) ∷ fs) w co)

  abbrev pub applied : Function → ℕ → List Value → List Value → ℕ → Nodes → Frame → Label → List Label → List Frame → World → List CollectorCall → Stepped
  applied (imported import type) g args below at rest f l ls fs w co =
      host (answer M.collects M.program.module_ (host_call g import type args) w) (host_call g import type args) below rest f l ls fs w co
  applied (defined body tree type) g args below at rest f l ls fs w co =
      enters (nat_lt (suc (length fs)) M.depth) (entered g body tree type args) below at rest f l ls fs w co

  -- the arguments are of the parameters' types
  abbrev pub applied_if : Bool → Function → ℕ → List Value → List Value → ℕ → Nodes → Frame → Label → List Label → List Frame → World → List CollectorCall → Stepped
  applied_if false fn g args below at rest f l ls fs w co = stuck
  applied_if true fn g args below at rest f l ls fs w co = applied fn g args below at rest f l ls fs w co

  abbrev pub calls_on : Function → ℕ → Cut → ℕ → Nodes → Frame → Label → List Label → List Frame → World → List CollectorCall → Stepped
  calls_on fn g short at rest f l ls fs w co = stuck
  calls_on fn g (parts vs below) at rest f l ls fs w co =
      applied_if (same_types (types (reverse vs)) (function_type fn).params) fn g (reverse vs) below at rest f l ls fs w co

  -- a call with these operands
  abbrev pub calls : Option Function → ℕ → List Value → ℕ → Nodes → Frame → Label → List Label → List Frame → World → List CollectorCall → Stepped
  calls None g vs at rest f l ls fs w co = stuck
  calls (Some fn) g vs at rest f l ls fs w co = calls_on fn g (cut (length (function_type fn).params) vs) at rest f l ls fs w co

  abbrev pub trapped : ℕ → Frame → Label → List Label → List Frame → World → List CollectorCall → Stepped
  trapped kind f l ls fs w co = traps kind (config (frame f.function f.result f.call f.locals (l ∷ ls) ∷ fs) w co)

  -- an entry of the table is called, where its type is the one that is asked for (Core 4.4.5, call_indirect)
  abbrev pub calls_if : Option Bool → ℕ → List Value → ℕ → Nodes → Frame → Label → List Label → List Frame → World → List CollectorCall → Stepped
  calls_if None g vs at rest f l ls fs w co = stuck
  calls_if (Some false) g vs at rest f l ls fs w co = trapped 7 f l ls fs w co
  calls_if (Some true) g vs at rest f l ls fs w co = calls (function_at M.program g) g vs at rest f l ls fs w co

  abbrev pub fits_entry : FuncType → ℕ → Option Bool
  fits_entry type g = option_map (λ u. same_functype u type) (type_at M.program.module_ g)

  abbrev pub calls_entry : Option (Option ℕ) → FuncType → List Value → ℕ → Nodes → Frame → Label → List Label → List Frame → World → List CollectorCall → Stepped
  calls_entry None type vs at rest f l ls fs w co = trapped 5 f l ls fs w co
  calls_entry (Some None) type vs at rest f l ls fs w co = trapped 6 f l ls fs w co
  calls_entry (Some (Some g)) type vs at rest f l ls fs w co = calls_if (fits_entry type g) g vs at rest f l ls fs w co

  abbrev pub calls_typed : Option FuncType → Option (Option ℕ) → List Value → ℕ → Nodes → Frame → Label → List Label → List Frame → World → List CollectorCall → Stepped
  calls_typed None q vs at rest f l ls fs w co = stuck
  calls_typed (Some type) q vs at rest f l ls fs w co = calls_entry q type vs at rest f l ls fs w co

  -- the topmost operand is the number of an entry
  abbrev pub calls_indirect : ℕ → List Value → ℕ → Nodes → Frame → Label → List Label → List Frame → World → List CollectorCall → Stepped
  calls_indirect t (values.I32 n ∷ vs) at rest f l ls fs w co = calls_typed (slice_get M.program.module_.types t) (slice_get w.table n) vs at rest f l ls fs w co
  calls_indirect t _ at rest f l ls fs w co = stuck

  -- ---- the other instructions that may go elsewhere (Core 4.4.5)

  abbrev pub branch_if : ℕ → List Value → Nodes → Frame → Label → List Label → List Frame → World → List CollectorCall → Stepped
  branch_if n (values.I32 zero ∷ vs) rest f l ls fs w co =
      next (config (frame f.function f.result f.call f.locals (label vs rest l.end l.kind ∷ ls) ∷ fs) w co)
  branch_if n (values.I32 (suc c) ∷ vs) rest f l ls fs w co = moved (branch n vs (l ∷ ls)) f fs w co
  branch_if n _ rest f l ls fs w co = stuck

  abbrev pub moved_if : Bool → Went → Frame → List Frame → World → List CollectorCall → Stepped
  moved_if false x f fs w co = stuck
  moved_if true x f fs w co = moved x f fs w co

  -- the target takes with it what the default takes
  abbrev pub branch_table : List ℕ → ℕ → List Value → Frame → Label → List Label → List Frame → World → List CollectorCall → Stepped
  branch_table ts d (values.I32 n ∷ vs) f l ls fs w co =
      moved_if (same_carry (carry (pick ts d n) (l ∷ ls)) (carry d (l ∷ ls))) (branch (pick ts d n) vs (l ∷ ls)) f fs w co
  branch_table ts d _ f l ls fs w co = stuck

  abbrev pub jumps : Jump → ℕ → Nodes → Frame → Label → List Label → List Frame → World → List CollectorCall → Stepped
  jumps Unreachable at rest f l ls fs w co = trapped 1 f l ls fs w co
  jumps (Br n) at rest f l ls fs w co = moved (branch n l.operands (l ∷ ls)) f fs w co
  jumps (BrIf n) at rest f l ls fs w co = branch_if n l.operands rest f l ls fs w co
  jumps (BrTable ts d) at rest f l ls fs w co = branch_table ts d l.operands f l ls fs w co
  jumps Return at rest f l ls fs w co = moved (out_some (top f.result l.operands)) f fs w co
  jumps (Call g) at rest f l ls fs w co = calls (function_at M.program g) g l.operands at rest f l ls fs w co
  jumps (CallIndirect t) at rest f l ls fs w co = calls_indirect t l.operands at rest f l ls fs w co

  -- ---- the nodes

  abbrev pub affects : Effect → List Value → Nodes → Frame → Label → List Label → List Frame → World → List CollectorCall → Stepped
  affects (gives w' locals vs) below rest f l ls fs w co =
      next (config (frame f.function f.result f.call locals (label (vs ++ below) rest l.end l.kind ∷ ls) ∷ fs) w' co)
  affects (fails kind) below rest f l ls fs w co = trapped kind f l ls fs w co
  affects unfit below rest f l ls fs w co = stuck

  abbrev pub does : Basic → Cut → Nodes → Frame → Label → List Label → List Frame → World → List CollectorCall → Stepped
  does i short rest f l ls fs w co = stuck
  does i (parts vs below) rest f l ls fs w co = affects (effect i w f.locals vs) below rest f l ls fs w co

  -- an arm is opened
  abbrev pub opens_arm : Option ValType → Nodes → ℕ → List Value → Nodes → Frame → Label → List Label → List Frame → World → List CollectorCall → Stepped
  opens_arm t arm end vs rest f l ls fs w co =
      next (config (frame f.function f.result f.call f.locals (label [] arm end (leaves t) ∷ label vs rest l.end l.kind ∷ ls) ∷ fs) w co)

  abbrev pub chooses : List Value → Option ValType → Nodes → Option ℕ → Nodes → ℕ → Nodes → Frame → Label → List Label → List Frame → World → List CollectorCall → Stepped
  chooses (values.I32 zero ∷ vs) t a else_at b end rest f l ls fs w co = opens_arm t b end vs rest f l ls fs w co
  chooses (values.I32 (suc c) ∷ vs) t a else_at b end rest f l ls fs w co = opens_arm t a (unwrap_or else_at end) vs rest f l ls fs w co
  chooses _ t a else_at b end rest f l ls fs w co = stuck

  -- the first node of the innermost label is run, or where there is none, that label is left
  abbrev pub runs : Nodes → Frame → Label → List Label → List Frame → World → List CollectorCall → Stepped
  runs stop f l ls fs w co = moved (leave l.kind l.operands ls) f fs w co
  runs (basic at i rest) f l ls fs w co = does i (cut (takes i) l.operands) rest f l ls fs w co
  runs (jump at j rest) f l ls fs w co = jumps j at rest f l ls fs w co
  runs (block at t body end rest) f l ls fs w co =
      next (config (frame f.function f.result f.call f.locals (label [] body end (leaves t) ∷ label l.operands rest l.end l.kind ∷ ls) ∷ fs) w co)
  runs (loop at t body end rest) f l ls fs w co =
      next (config (frame f.function f.result f.call f.locals (label [] body end (again at t body end) ∷ label l.operands rest l.end l.kind ∷ ls) ∷ fs) w co)
  runs (choose at t a else_at b end rest) f l ls fs w co = chooses l.operands t a else_at b end rest f l ls fs w co

  abbrev pub in_frame : List Label → Frame → List Frame → World → List CollectorCall → Stepped
  in_frame [] f fs w co = stuck
  in_frame (l ∷ ls) f fs w co = runs l.nodes f l ls fs w co

  abbrev pub steps : List Frame → World → List CollectorCall → Stepped
  steps [] w co = stuck
  steps (f ∷ fs) w co = in_frame f.labels f fs w co

  -- one step
  abbrev pub step : Config → Stepped
  step c = steps c.frames c.world c.collected

-- ---- what a frame shows

-- the offset of the first node, or of the `end` or `else` where there is none
abbrev pub offset_in : Nodes → ℕ → ℕ
offset_in stop end = end
offset_in (basic at i rest) end = at
offset_in (jump at j rest) end = at
offset_in (block at t body e rest) end = at
offset_in (loop at t body e rest) end = at
offset_in (choose at t a ea b e rest) end = at

-- of the innermost frame
abbrev pub offset_of : List Label → ℕ
offset_of [] = 0
offset_of (l ∷ ls) = offset_in l.nodes l.end

-- the operands of all labels, the topmost first
abbrev pub joined : List Label → List Value
joined [] = []
joined (l ∷ ls) = l.operands ++ joined ls

abbrev pub operands : Frame → List Value
operands f = joined f.labels
