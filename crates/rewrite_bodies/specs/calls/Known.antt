-- What is known where a run of the original stands: the facts of each open label hold, nodes that are still to be run have a guard where the facts
-- there do not answer, and nodes inside a label write no local of a fact outside.
use Rattle.std.specs.Prelude.{◌≡◌, ℕ, ◌*◌, ◌≤◌, List, [], ◌∷◌, length, slice_get, Option, Some, None, Bool, true, false}
use Rattle.wasm_syntax.specs.declared.value.Value.{Value}
use Rattle.wasm_syntax.specs.declared.value.Value.TheVariants as values
use Rattle.linear_memory.specs.Memory.{Memory}
use Rattle.wasm_syntax.specs.declared.value.ValType.TheVariants.{I32}
use Rattle.wasm_syntax.specs.declared.parts.Limits.{Limits}
use Rattle.wasm_syntax.specs.Numbers.{modulo}
use Rattle.wasm_syntax.specs.Effect.{address}
use Rattle.wasm_syntax.specs.Tree.{Nodes, stop, basic, jump, block, loop, choose}
use Rattle.wasm_syntax.specs.Module.{Program, Function, defined, function_at}
use Rattle.wasm_syntax.specs.Machine.{Kind, leaves, again, returns, Label, Frame, Config}
use Rattle.rewrite_bodies.specs.calls.Guards.{can_trap}
use Rattle.rewrite_bodies.specs.calls.Facts.{Base, Zero, Local, is_on, Fact, Copy, Copies, no_copies, written, frail, others, shown, is_answered, copies_behind, facts_behind, among, exposed_in}

-- ---- what holds of the locals and the memory

abbrev pub Reaches : Option Memory → ℕ → Type 0
Reaches None n = ⊥
Reaches (Some m) n = n ≤ length m.bytes

abbrev pub Extends : List Value → Option Memory → Base → ℕ → Type 0
Extends l mem Zero n = Reaches mem n
Extends l mem (Local x) n = (a : ℕ) × (slice_get l x ≡ Some (values.I32 a)) × Reaches mem (address a n)

abbrev pub FactHolds : List Value → Option Memory → Fact → Type 0
FactHolds l mem f = Extends l mem f.base f.end

abbrev pub FactsHold : List Value → Option Memory → List Fact → Type 0
FactsHold l mem [] = Unit {0}
FactsHold l mem (f ∷ fs) = FactHolds l mem f × FactsHold l mem fs

-- the memory, where there is one, has its least pages
abbrev pub HasLeast : List Limits → Option Memory → Type 0
HasLeast [] mem = Unit {0}
HasLeast (l ∷ ls) mem = Reaches mem (65536 * l.min)

-- the value is the one of the local, or this number of an i32
abbrev pub Stands : List Value → Base → ℕ → Value → Type 0
Stands l Zero p v = (a : ℕ) × (v ≡ values.I32 a) × (modulo I32 a ≡ p)
Stands l (Local x) p v = (slice_get l x ≡ Some v) × (p ≡ 0)

-- the topmost one of these operands is this, where it is known
abbrev pub IsCopy : List Value → Option Copy → List Value → Type 0
IsCopy l None ops = Unit {0}
IsCopy l (Some k) [] = ⊥
IsCopy l (Some k) (v ∷ ops) = Stands l k.base k.plus v

abbrev pub under_top : List Value → List Value
under_top [] = []
under_top (v ∷ ops) = ops

abbrev pub CopiesHold : List Value → Copies → List Value → Type 0
CopiesHold l c ops = IsCopy l c.first ops × IsCopy l c.second (under_top ops) × IsCopy l c.third (under_top (under_top ops))

-- ---- what is said of nodes

-- they write no other locals than these
abbrev pub Within : (ℕ → Bool) → Nodes → Type 0
Within these nodes = (x : ℕ) → written nodes x ≡ true → these x ≡ true

-- no fact on these locals
abbrev pub Steady : (ℕ → Bool) → List Fact → Type 0
Steady these [] = Unit {0}
Steady these (f ∷ fs) = (is_on these f.base ≡ false) × Steady these fs

-- each instruction that can trap is among these offsets, or the facts there answer it; and blocks write no other locals than these
abbrev pub Sound : List ℕ → (ℕ → Bool) → List Fact → Copies → Nodes → Type 0
Sound os these fs c stop = Unit {0}
Sound os these fs c (basic o i rest) =
    (can_trap i ≡ true → among o os ≡ false → is_answered (shown i c) fs ≡ true) × Sound os these (facts_behind i c fs) (copies_behind i c) rest
Sound os these fs c (jump o j rest) = Sound os these fs no_copies rest
Sound os these fs c (block o t inner end rest) =
    Within these inner × Sound os these fs no_copies inner × Sound os these (others these fs) no_copies rest
Sound os these fs c (loop o t inner end rest) =
    Within these inner × Sound os these (others these fs) no_copies inner × Sound os these (others these fs) no_copies rest
Sound os these fs c (choose o t a else_at b end rest) =
    (Within these a × Within these b) × (Sound os these fs no_copies a × Sound os these (others these fs) no_copies b) × Sound os these (others these fs) no_copies rest

-- ---- what is known in a frame

-- all nodes but those of the outermost label stand in a block
abbrev pub Inside : (ℕ → Bool) → List Label → Nodes → Type 0
Inside these [] nodes = Unit {0}
Inside these (_ ∷ _) nodes = Within these nodes

-- a loop begins with the facts that are there behind it
abbrev pub KnownKind : List ℕ → (ℕ → Bool) → List (List Fact) → Kind → Type 0
KnownKind os these fss (leaves t) = Unit {0}
KnownKind os these [] (again o t inner end) = ⊥
KnownKind os these (fs ∷ fss) (again o t inner end) = Within these inner × Sound os these fs no_copies inner
KnownKind os these fss (returns t) = Unit {0}

-- of the labels outside of the innermost one
abbrev pub KnownOuter : List ℕ → (ℕ → Bool) → List Value → Option Memory → List Label → List (List Fact) → Type 0
KnownOuter os these l mem [] fss = Unit {0}
KnownOuter os these l mem (L ∷ Ls) [] = ⊥
KnownOuter os these l mem (L ∷ Ls) (fs ∷ fss) =
    Steady these fs × FactsHold l mem fs × Sound os these fs no_copies L.nodes × Inside these Ls L.nodes × KnownKind os these fss L.kind × KnownOuter os these l mem Ls fss

-- of an innermost label and those outside, with these copies on top
pub record KnownAt (os : List ℕ) (these : ℕ → Bool) (l : List Value) (mem : Option Memory) (c : Copies) (ops : List Value) (nodes : Nodes) (kind : Kind) (Ls : List Label) : Type 0 where
  pub facts : List Fact
  pub outer : List (List Fact)
  pub hold : FactsHold l mem facts
  pub copied : CopiesHold l c ops
  pub sound : Sound os these facts c nodes
  pub inside : Inside these Ls nodes
  pub kind_known : KnownKind os these outer kind
  pub outside : KnownOuter os these l mem Ls outer

abbrev pub KnownLabels : List ℕ → (ℕ → Bool) → List Value → Option Memory → List Label → Type 0
KnownLabels os these l mem [] = Unit {0}
KnownLabels os these l mem (L ∷ Ls) = (c : Copies) × KnownAt os these l mem c L.operands L.nodes L.kind Ls

-- where a result is still to come
abbrev pub KnownWaiting : List ℕ → (ℕ → Bool) → List Value → Option Memory → List Label → Type 0
KnownWaiting os these l mem [] = Unit {0}
KnownWaiting os these l mem (L ∷ Ls) = KnownAt os these l mem no_copies L.operands L.nodes L.kind Ls

-- ---- in a configuration

abbrev pub nodes_of : Option Function → Nodes
nodes_of (Some (defined body tree type)) = tree.nodes
nodes_of _ = stop

-- the nodes of a function of the program
abbrev pub nodes_in : Program → ℕ → Nodes
nodes_in p f = nodes_of (function_at p f)

abbrev pub KnownFrame : Program → Option Memory → Frame → Type 0
KnownFrame p mem F = KnownLabels (exposed_in p.module_.memories (nodes_in p F.function)) (frail (nodes_in p F.function)) F.locals mem F.labels

abbrev pub KnownCaller : Program → Option Memory → Frame → Type 0
KnownCaller p mem F = KnownWaiting (exposed_in p.module_.memories (nodes_in p F.function)) (frail (nodes_in p F.function)) F.locals mem F.labels

abbrev pub KnownCallers : Program → Option Memory → List Frame → Type 0
KnownCallers p mem [] = Unit {0}
KnownCallers p mem (F ∷ Fs) = KnownCaller p mem F × KnownCallers p mem Fs

abbrev pub KnownFrames : Program → Option Memory → List Frame → Type 0
KnownFrames p mem [] = Unit {0}
KnownFrames p mem (F ∷ Fs) = KnownFrame p mem F × KnownCallers p mem Fs

abbrev pub KnownConfig : Program → Config → Type 0
KnownConfig p c = KnownFrames p c.world.memory c.frames
