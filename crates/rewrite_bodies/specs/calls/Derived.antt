-- Locals that are worked out of two others: an instruction that gives 0 on zeros is made on the values of two locals, and a third one is set to what it
-- gives. Where all three are written at one place each, in one run of instructions in which the frame can't be left, the third one is what the
-- instruction gives on the other two wherever it can be left; so it need not be kept until then, for it can be worked out where the locals are handed
-- over.
use Rattle.std.specs.Prelude.{◌≡◌, ◌≢◌, ℕ, zero, suc, ◌+◌, ◌*◌, ◌/◌, ◌==◌, ◌&&◌, ◌||◌, nat_le, not, List, [], ◌∷◌, ◌++◌, length, take, slice_get, Option, Some, None, Bool, true, false}
use Rattle.std.specs.List.{AllByRecursion}
use Rattle.int_ops.specs.declared.operators.Binary.{Binary as BinaryOp}
use Rattle.int_ops.specs.declared.operators.Binary.TheVariants.{Add, Sub, Mul, And, Or, Xor, Shl, ShrS, ShrU}
use Rattle.int_ops.specs.declared.operators.Compare.{Compare as CompareOp}
use Rattle.int_ops.specs.declared.operators.Compare.TheVariants.{Ne, LtS, LtU, GtS, GtU}
use Rattle.wasm_syntax.specs.declared.value.ValType.{ValType}
use Rattle.wasm_syntax.specs.declared.value.ValType.TheVariants.{I32}
use Rattle.wasm_syntax.specs.declared.value.Value.{Value}
use Rattle.wasm_syntax.specs.declared.instruction.Basic.{Basic}
use Rattle.wasm_syntax.specs.declared.instruction.Basic.TheVariants.{LocalGet, LocalSet, Compare, Binary}
use Rattle.wasm_syntax.specs.declared.parts.FuncType.{FuncType}
use Rattle.wasm_syntax.specs.declared.module.ModuleParts.{ModuleParts as Module}
use Rattle.wasm_syntax.specs.Numbers.{same_type}
use Rattle.wasm_syntax.specs.Effect.{effect, gives}
use Rattle.wasm_syntax.specs.Host.{World}
use Rattle.wasm_syntax.specs.Tree.{Nodes, stop, basic, jump, block, loop, choose}
use Rattle.wasm_syntax.specs.Module.{Program, Function, defined, function_at, type_at, declared_locals}
use Rattle.wasm_syntax.specs.Machine.{Kind, leaves, again, returns, Label, Frame, Config}
use Rattle.rewrite_bodies.specs.calls.Slots.{Derivation, local_written}
use Rattle.rewrite_bodies.specs.calls.Guards.{can_trap}
use Rattle.rewrite_bodies.specs.calls.Facts.{is_local, among, exposed_in}

-- ---- instructions

-- they cannot trap, and give 0 on zeros
abbrev pub mild : BinaryOp → Bool
mild Add = true
mild Sub = true
mild Mul = true
mild And = true
mild Or = true
mild Xor = true
mild Shl = true
mild ShrS = true
mild ShrU = true
mild op = false

abbrev pub strict : CompareOp → Bool
strict Ne = true
strict LtS = true
strict LtU = true
strict GtS = true
strict GtU = true
strict op = false

abbrev pub derives : Basic → Bool
derives (Compare t op) = strict op
derives (Binary t op) = mild op
derives i = false

-- the type of its operands, and of what it gives
abbrev pub taken_type : Basic → ValType
taken_type (Compare t op) = t
taken_type (Binary t op) = t
taken_type i = I32

abbrev pub given_type : Basic → ValType
given_type (Binary t op) = t
given_type i = I32

-- ---- what the last instructions did

pub data Trail : Type 0 where
  Nowhere : Trail
  -- the topmost operand is the value of this local
  One : (y : ℕ) → Trail
  -- the two topmost ones are those of these, the first below
  Two : (x y : ℕ) → Trail
  -- the topmost one is what the instruction gave on the values of these
  Worked : (i : Basic) (x y : ℕ) → Trail

abbrev pub worked_if : Bool → Basic → ℕ → ℕ → Trail
worked_if true i x y = Worked i x y
worked_if false i x y = Nowhere

abbrev pub trail_behind : Trail → Basic → Trail
trail_behind (One y) (LocalGet z) = Two y z
trail_behind (Two x y) (LocalGet z) = Two y z
trail_behind t (LocalGet z) = One z
trail_behind (Two x y) i = worked_if (derives i) i x y
trail_behind t i = Nowhere

-- ---- which locals

-- at how many places these nodes write a local
abbrev pub one_if : Bool → ℕ
one_if true = 1
one_if false = 0

abbrev pub places : Nodes → ℕ → ℕ
places stop x = 0
places (basic o i rest) x = one_if (is_local (local_written i) x) + places rest x
places (jump o j rest) x = places rest x
places (block o t inner end rest) x = places inner x + places rest x
places (loop o t inner end rest) x = places inner x + places rest x
places (choose o t a else_at b end rest) x = places a x + (places b x + places rest x)

abbrev pub has_type : List ValType → ℕ → ValType → Bool
has_type [] x t = false
has_type (u ∷ us) zero t = same_type u t
has_type (u ∷ us) (suc x) t = has_type us x t

-- it is no parameter, has this type, and is written at one place
abbrev pub may_derive : ℕ → List ValType → Nodes → ℕ → ValType → Bool
may_derive parameters locals nodes x t = nat_le parameters x && (has_type locals x t && (places nodes x == 1))

-- ---- all of a function

-- with the locals that were written since the frame could be left
abbrev pub fits : (ℕ → ValType → Bool) → List ℕ → Derivation → Bool
fits may recent d =
    (may d.made (given_type d.instruction) && (not (d.left == d.made) && not (d.right == d.made)))
    && ((may d.left (taken_type d.instruction) && among d.left recent) && (may d.right (taken_type d.instruction) && among d.right recent))

abbrev pub one_found : Bool → Derivation → List Derivation
one_found true d = d ∷ []
one_found false d = []

abbrev pub found_at : (ℕ → ValType → Bool) → List ℕ → Trail → Basic → List Derivation
found_at may recent (Worked i x y) (LocalSet m) =
    let d : Derivation = record { made = m; instruction = i; left = x; right = y } in one_found (fits may recent d) d
found_at may recent t i = []

-- an instruction at which the frame can be left
abbrev pub can_leave : List ℕ → ℕ → Basic → Bool
can_leave os o i = can_trap i && among o os

abbrev pub with_written : Option ℕ → List ℕ → List ℕ
with_written None xs = xs
with_written (Some x) xs = x ∷ xs

abbrev pub none_if : Bool → List ℕ → List ℕ
none_if true xs = []
none_if false xs = xs

abbrev pub recent_behind : List ℕ → List ℕ → ℕ → Basic → List ℕ
recent_behind os recent o i = with_written (local_written i) (none_if (can_leave os o i) recent)

abbrev pub derived_from : (ℕ → ValType → Bool) → List ℕ → List ℕ → Trail → Nodes → List Derivation
derived_from may os recent t stop = []
derived_from may os recent t (basic o i rest) =
    found_at may recent t i ++ derived_from may os (recent_behind os recent o i) (trail_behind t i) rest
derived_from may os recent t (jump o j rest) = derived_from may os [] Nowhere rest
derived_from may os recent t (block o r inner end rest) = derived_from may os [] Nowhere inner ++ derived_from may os [] Nowhere rest
derived_from may os recent t (loop o r inner end rest) = derived_from may os [] Nowhere inner ++ derived_from may os [] Nowhere rest
derived_from may os recent t (choose o r a else_at b end rest) =
    derived_from may os [] Nowhere a ++ (derived_from may os [] Nowhere b ++ derived_from may os [] Nowhere rest)

-- no more than a third of the locals: so the way out stays within the weight and the steps that the locals have
abbrev pub derived_in : ℕ → List ValType → List ℕ → Nodes → List Derivation
derived_in parameters locals os nodes = take (length locals / 3) (derived_from (may_derive parameters locals nodes) os [] Nowhere nodes)

abbrev pub count_of : Option FuncType → ℕ
count_of None = 0
count_of (Some type) = length type.params

-- of function f of a module, which has these locals, parameters among them
abbrev pub derived_for : Module → ℕ → List ValType → Nodes → List Derivation
derived_for m f locals nodes = derived_in (count_of (type_at m f)) locals (exposed_in m.memories nodes) nodes

-- its locals are there, with the types that its instruction takes and gives
pub record Fitting (locals : List ValType) (d : Derivation) : Type 0 where
  pub left : slice_get locals d.left ≡ Some (taken_type d.instruction)
  pub right : slice_get locals d.right ≡ Some (taken_type d.instruction)
  pub made : slice_get locals d.made ≡ Some (given_type d.instruction)
  pub derives : derives d.instruction ≡ true

-- ---- what holds of the locals

-- on the values of the other two the instruction gives the value of this local
pub record Derived (l : List Value) (d : Derivation) : Type 0 where
  pub left : Value
  pub right : Value
  pub made : Value
  pub at_left : slice_get l d.left ≡ Some left
  pub at_right : slice_get l d.right ≡ Some right
  pub at_made : slice_get l d.made ≡ Some made
  pub works : (w : World) (ls : List Value) → effect d.instruction w ls (right ∷ left ∷ []) ≡ gives w ls (made ∷ [])

abbrev pub AllDerived : List Value → List Derivation → Type 0
AllDerived l ds = AllByRecursion (Derived l) ds

-- what the trail says of the topmost operands
pub record Works (l : List Value) (i : Basic) (x y : ℕ) (v : Value) : Type 0 where
  pub left : Value
  pub right : Value
  pub at_left : slice_get l x ≡ Some left
  pub at_right : slice_get l y ≡ Some right
  pub works : (w : World) (ls : List Value) → effect i w ls (right ∷ left ∷ []) ≡ gives w ls (v ∷ [])

abbrev pub Follows : List Value → Trail → List Value → Type 0
Follows l Nowhere ops = Unit {0}
Follows l (One y) [] = ⊥
Follows l (One y) (v ∷ ops) = slice_get l y ≡ Some v
Follows l (Two x y) [] = ⊥
Follows l (Two x y) (v ∷ []) = ⊥
Follows l (Two x y) (v ∷ u ∷ ops) = (slice_get l x ≡ Some u) × (slice_get l y ≡ Some v)
Follows l (Worked i x y) [] = ⊥
Follows l (Worked i x y) (v ∷ ops) = Works l i x y v

-- ---- what is said of nodes

-- they write the local before the frame can be left
abbrev pub ahead_unless : Bool → Bool → Bool
ahead_unless true b = false
ahead_unless false b = b

abbrev pub ahead : List ℕ → Nodes → ℕ → Bool
ahead os (basic o i rest) x = ahead_unless (can_leave os o i) (is_local (local_written i) x || ahead os rest x)
ahead os nodes x = false

-- where an instruction writes one of the two locals, this one is written before the frame can be left; and it is written by what the trail gave
pub record Keeps (os : List ℕ) (t : Trail) (i : Basic) (rest : Nodes) (d : Derivation) : Type 0 where
  pub left : is_local (local_written i) d.left ≡ true → ahead os rest d.made ≡ true
  pub right : is_local (local_written i) d.right ≡ true → ahead os rest d.made ≡ true
  pub made : is_local (local_written i) d.made ≡ true → (i ≡ LocalSet d.made) × (t ≡ Worked d.instruction d.left d.right) × (d.left ≢ d.made) × (d.right ≢ d.made)

abbrev pub Keeping : List ℕ → List Derivation → Trail → Nodes → Type 0
Keeping os ds t stop = Unit {0}
Keeping os ds t (basic o i rest) = AllByRecursion (Keeps os t i rest) ds × Keeping os ds (trail_behind t i) rest
Keeping os ds t (jump o j rest) = Keeping os ds Nowhere rest
Keeping os ds t (block o r inner end rest) = Keeping os ds Nowhere inner × Keeping os ds Nowhere rest
Keeping os ds t (loop o r inner end rest) = Keeping os ds Nowhere inner × Keeping os ds Nowhere rest
Keeping os ds t (choose o r a else_at b end rest) = Keeping os ds Nowhere a × Keeping os ds Nowhere b × Keeping os ds Nowhere rest

-- ---- what is known in a frame

abbrev pub KeepingKind : List ℕ → List Derivation → Kind → Type 0
KeepingKind os ds (leaves t) = Unit {0}
KeepingKind os ds (again o t inner end) = Keeping os ds Nowhere inner
KeepingKind os ds (returns t) = Unit {0}

abbrev pub KeepingLabels : List ℕ → List Derivation → List Label → Type 0
KeepingLabels os ds [] = Unit {0}
KeepingLabels os ds (L ∷ Ls) = Keeping os ds Nowhere L.nodes × KeepingKind os ds L.kind × KeepingLabels os ds Ls

-- a local holds what it is worked out to be, unless it is about to be written
abbrev pub Settled : List ℕ → List Value → Nodes → Derivation → Type 0
Settled os l nodes d = ahead os nodes d.made ≡ false → Derived l d

-- of an innermost label, on these operands, and those outside
pub record DerivedAt (os : List ℕ) (ds : List Derivation) (l ops : List Value) (nodes : Nodes) (kind : Kind) (Ls : List Label) : Type 0 where
  pub trail : Trail
  pub follows : Follows l trail ops
  pub settled : AllByRecursion (Settled os l nodes) ds
  pub keeping : Keeping os ds trail nodes
  pub kind_keeps : KeepingKind os ds kind
  pub outside : KeepingLabels os ds Ls

abbrev pub DerivedLabels : List ℕ → List Derivation → List Value → List Label → Type 0
DerivedLabels os ds l [] = Unit {0}
DerivedLabels os ds l (L ∷ Ls) = DerivedAt os ds l L.operands L.nodes L.kind Ls

-- where a result is still to come, all hold
abbrev pub DerivedWaiting : List ℕ → List Derivation → List Value → List Label → Type 0
DerivedWaiting os ds l Ls = AllDerived l ds × KeepingLabels os ds Ls

-- ---- in a configuration

abbrev pub derived_at : Module → ℕ → Option Function → List Derivation
derived_at m f (Some (defined b tree type)) = derived_for m f (type.params ++ declared_locals b.groups) tree.nodes
derived_at m f _ = []

-- the derivations of a function of the program, and the offsets of its instructions that need a guard
abbrev pub derived_of : Program → ℕ → List Derivation
derived_of p f = derived_at p.module_ f (function_at p f)

abbrev pub offsets_at : Module → Option Function → List ℕ
offsets_at m (Some (defined b tree type)) = exposed_in m.memories tree.nodes
offsets_at m _ = []

abbrev pub offsets_of : Program → ℕ → List ℕ
offsets_of p f = offsets_at p.module_ (function_at p f)

abbrev pub DerivedFrame : Program → Frame → Type 0
DerivedFrame p F = DerivedLabels (offsets_of p F.function) (derived_of p F.function) F.locals F.labels

abbrev pub DerivedCaller : Program → Frame → Type 0
DerivedCaller p F = DerivedWaiting (offsets_of p F.function) (derived_of p F.function) F.locals F.labels

abbrev pub DerivedCallers : Program → List Frame → Type 0
DerivedCallers p [] = Unit {0}
DerivedCallers p (F ∷ Fs) = DerivedCaller p F × DerivedCallers p Fs

abbrev pub DerivedFrames : Program → List Frame → Type 0
DerivedFrames p [] = Unit {0}
DerivedFrames p (F ∷ Fs) = DerivedFrame p F × DerivedCallers p Fs

abbrev pub DerivedConfig : Program → Config → Type 0
DerivedConfig p c = DerivedFrames p c.frames
