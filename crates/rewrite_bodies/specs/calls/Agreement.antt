-- The configuration of the rewritten module that stands for one of the original.
use Rattle.std.specs.Prelude.{◌≡◌, ℕ, zero, suc, ◌+◌, ◌*◌, ◌<◌, ◌≤◌, List, [], ◌∷◌, ◌++◌, length, Option, Some, None, Bool, true, false, slice_get}
use Rattle.wasm_syntax.specs.declared.value.ValType.{ValType}
use Rattle.wasm_syntax.specs.declared.value.Value.{Value}
use Rattle.wasm_syntax.specs.Numbers.{type_of, types}
use Rattle.wasm_syntax.specs.Tree.{Nodes, basic, Jump, Unreachable, Br, BrIf, BrTable, Return, Call, CallIndirect, stop, jump, block, loop, choose}
use Rattle.wasm_syntax.specs.Host.{World}
use Rattle.wasm_syntax.specs.Machine.{Kind, Label, Frame, Config, label, frame, config, Engine, leaves, again, returns, zero_of, result_of}
use Rattle.rewrite_bodies.specs.calls.Guards.{first_table, less_word, renew_both}
use Rattle.rewrite_bodies.specs.calls.Slots.{Place, Spilled, Known, Copied, place_type, Ctx, slot, kind_at, length_at, added, measured, less, grown, under, result_type, after_plain, greatest, Landing}
use Rattle.rewrite_bodies.specs.calls.Pieces.{store, reload, drops}
use Rattle.wasm_syntax.specs.declared.value.Value.TheVariants as values
use Rattle.wasm_syntax.specs.declared.parts.FuncType.{FuncType}
use Rattle.wasm_syntax.specs.Module.{type_at}
use Rattle.wasm_syntax.specs.Effect.{takes}
use Rattle.rewrite_bodies.specs.calls.Rewrite.{with_result, after_call, spare, passes, test_both, rewrite, exit_code, landing_code}
use Rattle.rewrite_bodies.specs.Numbering.{mapped, place_in, global_types, helper_base, helped, new_entries}
use Rattle.linear_memory.specs.Memory.{Memory}
use Rattle.rewrite_bodies.specs.calls.Offsets.{SmallOffset}
use Rattle.rewrite_bodies.specs.calls.Facts.{exposed_in}
use Rattle.rewrite_bodies.specs.calls.Derived.{derived_of, DerivedConfig}
use Rattle.rewrite_bodies.specs.calls.Known.{HasLeast, nodes_in, KnownConfig}

-- the operand is in its slot besides, or is the constant, or in the local
abbrev pub One : Ctx → List Value → List Value → ℕ → Place → Value → Type 0
One C l ex h (Spilled t) v = (slice_get ex (slot C.slots t h) ≡ Some v) × (type_of v ≡ t)
One C l ex h (Known w) v = w ≡ v
One C l ex h (Copied t x) v = (slice_get l x ≡ Some v) × (type_of v ≡ t)

-- so are all of a label's, above these places
abbrev pub Holds : Ctx → List Value → List Value → List Place → List Value → List Place → Type 0
Holds C l ex js [] [] = Unit {0}
Holds C l ex js [] (e ∷ es) = ⊥
Holds C l ex js (v ∷ ops) [] = ⊥
Holds C l ex js (v ∷ ops) (e ∷ es) = One C l ex (length (es ++ js)) e v × Holds C l ex js ops es

-- all but so many of the topmost, which need not be kept
abbrev pub HoldsBut : Ctx → ℕ → List Value → List Value → List Place → List Value → List Place → Type 0
HoldsBut C zero l ex js ops es = Holds C l ex js ops es
HoldsBut C (suc n) l ex js [] [] = Unit {0}
HoldsBut C (suc n) l ex js [] (e ∷ es) = ⊥
HoldsBut C (suc n) l ex js (v ∷ ops) [] = ⊥
HoldsBut C (suc n) l ex js (v ∷ ops) (e ∷ es) = (type_of v ≡ place_type e) × HoldsBut C n l ex js ops es

-- a call through the table that is under way: the code that would hand over its operands, and these, which are still there
pub record UnderWay : Type 0 where
  pub others : Nodes
  pub taken : List Value

-- what a label waits for: results of a block, of a call, or of a call through the table
pub data Pending : Type 0 where
  Arrives : (a : Option ValType) → Pending
  Called : (o : ℕ) (r : Option ValType) → Pending
  Through : (o : ℕ) (r : Option ValType) (u : UnderWay) → Pending

abbrev pub awaits : Pending → Option ValType
awaits (Arrives a) = a
awaits (Called o r) = r
awaits (Through o r u) = r

abbrev pub now : Pending
now = Arrives None

-- what is still to be run in a label, inside so many
abbrev pub code_at : Ctx → ℕ → List Place → Pending → Nodes → Nodes
code_at C d es (Arrives a) rest = with_result C a es (passes C rest) (λ es'. rewrite C d es' rest)
code_at C d es (Called o r) rest = after_call C d r es o (passes C rest) (λ es'. rewrite C d es' rest)
code_at C d es (Through o r u) rest = test_both C d es o u.others (drops (length u.taken) (renew_both C (reload C r es (rewrite C d (grown r es) rest))))

-- its operands besides the original's
abbrev pub held : Pending → List Value → List Value
held (Arrives a) ops = ops
held (Called o r) ops = ops
held (Through o r u) ops = u.taken ++ ops

abbrev pub pending : Kind → Pending
pending (leaves a) = Arrives a
pending (again o a inner en) = Arrives a
pending (returns r) = now

abbrev pub joined : List (List Place) → List Place
joined [] = []
joined (e ∷ ss) = e ++ joined ss

-- of a label inside so many
abbrev pub t_kind : Ctx → ℕ → List Place → Kind → Kind
t_kind C d js (leaves a) = leaves a
t_kind C d js (again o a inner en) = again 0 a (rewrite C (suc d) js inner) 0
t_kind C d js (returns r) = leaves r

-- of landings, with this behind the innermost block; and of the exit
abbrev pub l_labels : Ctx → Nodes → List Landing → List Label
l_labels C k [] = label [] k 0 (leaves None) ∷ label [] (exit_code C) 0 (returns C.result) ∷ []
l_labels C k (x ∷ xs) = label [] k 0 (leaves x.carried) ∷ l_labels C (landing_code C (length xs) x) xs

-- the same operands, in the original's labels; outside of them the body's block was left, or a landing or the exit is reached
abbrev pub t_labels : Ctx → Pending → List Label → List (List Place) → List Label
t_labels C p [] ss = l_labels C (jump 0 Return stop) C.landings
t_labels C p (L ∷ Ls) [] = []
t_labels C p (L ∷ Ls) (e ∷ ss) =
    label (held p L.operands) (code_at C (suc (length Ls)) (e ++ joined ss) p L.nodes) 0 (t_kind C (length Ls) (joined ss) L.kind) ∷ t_labels C (pending L.kind) Ls ss

-- a call through the table is made inside an arm, which puts its result into its slot
abbrev pub with_arm : Ctx → Pending → List Place → List Label → List Label
with_arm C (Arrives a) es Ls = Ls
with_arm C (Called o r) es Ls = Ls
with_arm C (Through o r u) es Ls = label [] (store C r es stop) 0 (leaves None) ∷ Ls

-- what the configuration does not say: the function's constants, the added locals, what is known of each label's operands, and the call
-- through the table that is under way
pub record Wit : Type 0 where
  pub ctx : Ctx
  pub ex : List Value
  pub ss : List (List Place)
  pub under_way : Option UnderWay

abbrev pub pending_call : Option UnderWay → ℕ → Option ValType → Pending
pending_call None o r = Called o r
pending_call (Some u) o r = Through o r u

abbrev pub t_frame : Pending → Frame → Wit → Frame
t_frame p F w =
    frame (mapped w.ctx.source w.ctx.index) w.ctx.result 0 (F.locals ++ w.ex) (with_arm w.ctx p (joined w.ss) (t_labels w.ctx p F.labels w.ss))

-- room in the slots, over the nodes of a list
abbrev pub FitsIn : Ctx → Option ValType → List Place → Type 0
FitsIn C None es = Unit {0}
FitsIn C (Some t) es = length es < C.slots

abbrev pub Has : ℕ → List ℕ → Type 0
Has t ts = place_in t ts < length ts

abbrev pub Room_call : Ctx → Option FuncType → List Place → (List Place → Type 0) → Type 0
Room_call C None es go = Unit {0}
Room_call C (Some type) es go = FitsIn C (result_of type) (less (length type.params) es) × go (grown (result_of type) (less (length type.params) es))

abbrev pub Room_jump : Ctx → Jump → List Place → (List Place → Type 0) → Type 0
Room_jump C Unreachable es go = Unit {0}
Room_jump C (Br l) es go = Unit {0}
Room_jump C (BrIf l) es go = go (less 1 es)
Room_jump C (BrTable ts d) es go = Unit {0}
Room_jump C Return es go = Unit {0}
Room_jump C (Call f) es go = Room_call C (type_at C.source f) es go
Room_jump C (CallIndirect t) es go = Has t C.helpers × Room_call C (slice_get C.source.types t) (less 1 es) go

abbrev pub Room : Ctx → List Place → Nodes → Type 0
Room C es stop = length es ≤ C.slots
Room C es (basic o i rest) = (length es ≤ C.slots) × SmallOffset i × FitsIn C (result_type C es i) (less (takes i) es) × Room C (after_plain C es i) rest
Room C es (jump o j rest) = (length es ≤ C.slots) × Room_jump C j es (λ es'. Room C es' rest)
Room C es (block o a inner en rest) = (length es ≤ C.slots) × Room C (under es) inner × FitsIn C a (under es) × Room C (grown a (under es)) rest
Room C es (loop o a inner en rest) = (length es ≤ C.slots) × Room C (under es) inner × FitsIn C a (under es) × Room C (grown a (under es)) rest
Room C es (choose o a x ea y en rest) =
    (length es ≤ C.slots) × Room C (under (less 1 es)) x × Room C (under (less 1 es)) y × FitsIn C a (under (less 1 es)) × Room C (grown a (under (less 1 es))) rest

-- the function's label is the outermost
abbrev pub KindFits : Ctx → List Place → Kind → List Label → Type 0
KindFits C js (leaves a) [] = ⊥
KindFits C js (leaves a) (_ ∷ _) = Unit {0}
KindFits C js (again o a inner en) [] = ⊥
KindFits C js (again o a inner en) (_ ∷ _) = (length js ≤ C.slots) × Room C js inner
KindFits C js (returns r) [] = r ≡ C.result
KindFits C js (returns r) (_ ∷ _) = ⊥

-- in the innermost label operands may be copies of locals; in the others there are none, so that nothing is asked of locals
abbrev pub FitsLabels : Ctx → List Value → List Value → Option ValType → List Label → List (List Place) → Type 0
FitsLabels C l ex a [] [] = Unit {0}
FitsLabels C l ex a [] (_ ∷ _) = ⊥
FitsLabels C l ex a (L ∷ Ls) [] = ⊥
FitsLabels C l ex a (L ∷ Ls) (e ∷ ss) =
    Holds C l ex (joined ss) L.operands e × FitsIn C a (e ++ joined ss) × Room C (grown a (e ++ joined ss)) L.nodes × KindFits C (joined ss) L.kind Ls × FitsLabels C [] ex (awaits (pending L.kind)) Ls ss

-- what a frame does: it goes on, where this tells the length of the memory, or waits for the result of a call
pub data Doing : Type 0 where
  Runs : (told : ℕ) → Doing
  Waits : (r : Option ValType) → Doing

-- the local of the length has this one, in a function that keeps it; nothing is asked of it where a call may change the length
abbrev pub HasLength : Ctx → List Value → ℕ → Type 0
HasLength C ex n = measured C ≡ true → slice_get ex (length_at C) ≡ Some (values.I64 n)

-- and there is one, which goes on, or waits for the result of a call
abbrev pub FitsOpen : Ctx → List Value → List Value → Doing → List Label → List (List Place) → Type 0
FitsOpen C l ex a [] ss = ⊥
FitsOpen C l ex a (L ∷ Ls) [] = ⊥
FitsOpen C l ex (Runs n) (L ∷ Ls) (e ∷ ss) =
    HoldsBut C (spare C L.nodes) l ex (joined ss) L.operands e × HasLength C ex n × Room C (e ++ joined ss) L.nodes × KindFits C (joined ss) L.kind Ls × FitsLabels C [] ex (awaits (pending L.kind)) Ls ss
FitsOpen C l ex (Waits a) (L ∷ Ls) (e ∷ ss) = FitsLabels C l ex a (L ∷ Ls) (e ∷ ss)

-- whole pages, and not too many
abbrev pub MemoryFits : Option Memory → Type 0
MemoryFits None = Unit {0}
MemoryFits (Some m) = (k : ℕ) × (length m.bytes ≡ 65536 * k) × (k ≤ 65535) × (m.max ≤ 65535)

-- the length of the memory in bytes; 0 where there is none
abbrev pub byte_count : Option Memory → ℕ
byte_count None = 0
byte_count (Some m) = length m.bytes

-- what the global and the local of the length have for this memory
abbrev pub told_length : Option Memory → ℕ
told_length memory = less_word (byte_count memory)

abbrev pub TellsLength : Ctx → List Value → Option Memory → Type 0
TellsLength C ex memory = slice_get ex (length_at C) ≡ Some (values.I64 (told_length memory))

-- a frame that runs in this world
abbrev pub running : World → Doing
running w = Runs (told_length w.memory)

-- under a call through the table, the guard gave no kind, and its operands had room
abbrev pub NoKind : Ctx → List Value → Option UnderWay → Type 0
NoKind C ex None = Unit {0}
NoKind C ex (Some u) = (slice_get ex (kind_at C) ≡ Some (values.I32 0)) × (length u.taken ≤ suc C.slots)

pub record WorldFits (M : Engine) (gl : List ValType) (w : World) : Type 0 where
  pub globals : types w.globals ≡ gl
  pub memory : MemoryFits w.memory
  pub least : HasLeast M.program.module_.memories w.memory
  pub table : w.table ≡ first_table M.program.module_

pub record FitsFrame (M : Engine) (E : ℕ) (gl : List ValType) (a : Doing) (F : Frame) (w : Wit) : Type 0 where
  pub size : types F.locals ≡ w.ctx.locals
  pub room : types w.ex ≡ added w.ctx.slots
  pub idx : w.ctx.index ≡ F.function
  pub result : w.ctx.result ≡ F.result
  pub funcs : w.ctx.source ≡ M.program.module_
  pub base : w.ctx.base ≡ helper_base M.program.module_
  pub helpers : w.ctx.helpers ≡ helped M.program
  pub flag : global_types w.ctx.source ≡ gl
  pub small : 4 * length w.ctx.locals + 4 * w.ctx.slots + 80 ≤ E
  pub exposed : w.ctx.exposed ≡ exposed_in M.program.module_.memories (nodes_in M.program F.function)
  pub derivations : w.ctx.derivations ≡ derived_of M.program F.function
  pub few : 3 * length w.ctx.derivations ≤ length w.ctx.locals
  pub narrow : length w.ctx.locals + w.ctx.slots ≤ (greatest M.program).0 + (greatest M.program).1
  pub labels : FitsOpen w.ctx F.locals w.ex a F.labels w.ss
  pub no_kind : NoKind w.ctx w.ex w.under_way

abbrev pub FitsFrames : Engine → ℕ → List ValType → Option ValType → Option ValType → List Frame → List Wit → Type 0
FitsFrames M E gl wr r [] [] = r ≡ wr
FitsFrames M E gl wr r [] (_ ∷ _) = ⊥
FitsFrames M E gl wr r (F ∷ Fs) [] = ⊥
FitsFrames M E gl wr r (F ∷ Fs) (w ∷ ws) = FitsFrame M E gl (Waits r) F w × FitsFrames M E gl wr F.result Fs ws

-- the innermost one runs in this world
abbrev pub FitsTop : Engine → ℕ → List ValType → World → Option ValType → List Frame → List Wit → Type 0
FitsTop M E gl g wr [] ws = ⊥
FitsTop M E gl g wr (F ∷ Fs) [] = ⊥
FitsTop M E gl g wr (F ∷ Fs) (w ∷ ws) = FitsFrame M E gl (running g) F w × FitsFrames M E gl wr F.result Fs ws

abbrev pub FitsConfig : Engine → ℕ → List ValType → Option ValType → Config → List Wit → Type 0
FitsConfig M E gl wr c ws = WorldFits M gl c.world × FitsTop M E gl c.world wr c.frames ws × KnownConfig M.program c × DerivedConfig M.program c

-- what a wrapper's frame is but for its operands
pub record Wrap : Type 0 where
  pub idx : ℕ
  pub result : Option ValType
  pub locals : List Value
  pub rest : Nodes

abbrev pub w_frame : Wrap → List Value → Frame
w_frame W vs = frame W.idx W.result 0 W.locals (label vs W.rest 0 (returns W.result) ∷ [])

abbrev pub t_frames : Wrap → Option ValType → List Frame → List Wit → List Frame
t_frames W r [] ws = w_frame W [] ∷ []
t_frames W r (F ∷ Fs) [] = []
t_frames W r (F ∷ Fs) (w ∷ ws) = t_frame (pending_call w.under_way F.call r) F w ∷ t_frames W F.result Fs ws

abbrev pub t_top : Wrap → List Frame → List Wit → List Frame
t_top W [] ws = []
t_top W (F ∷ Fs) [] = []
t_top W (F ∷ Fs) (w ∷ ws) = t_frame now F w ∷ t_frames W F.result Fs ws

-- the same world, with others behind the globals, and new indices in the table, behind what a host sees of it
abbrev pub with_added : Engine → World → List Value → World
with_added M w bs = record { globals = w.globals ++ bs; memory = w.memory; table = new_entries M.program.module_ w.table; replies = w.replies; served = w.served }

-- behind the globals stand a flag and the length of the memory
abbrev pub flagged : Engine → World → Value → World
flagged M w b = with_added M w (b ∷ values.I64 (told_length w.memory) ∷ [])

abbrev pub image : Engine → Wrap → Config → List Wit → Config
image M W c ws = config (t_top W c.frames ws) (flagged M c.world (values.I32 0)) c.collected

abbrev pub zero_vs : Option ValType → List Value
zero_vs None = []
zero_vs (Some t) = zero_of t ∷ []

-- what the outermost of these frames gives
abbrev pub last_result : Option ValType → List Frame → Option ValType
last_result r [] = r
last_result r (F ∷ Fs) = last_result F.result Fs

abbrev pub last_of : List Frame → Option ValType
last_of [] = None
last_of (F ∷ Fs) = last_result F.result Fs
