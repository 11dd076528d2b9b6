-- Small pieces of code, each written in front of the code that goes on behind it.
use Rattle.std.specs.Prelude.{ℕ, zero, suc, ◌+◌, List, [], ◌∷◌, length, Option, Some, None, Bool, true, false, if◌then◌else◌}
use Rattle.wasm_syntax.specs.declared.value.ValType.{ValType}
use Rattle.wasm_syntax.specs.declared.value.Value.{Value}
use Rattle.wasm_syntax.specs.declared.value.Value.TheVariants as values
use Rattle.wasm_syntax.specs.declared.instruction.Basic.TheVariants.{Drop, LocalGet, LocalSet, LocalTee, Const}
use Rattle.wasm_syntax.specs.Tree.{Call, Nodes, stop, basic, jump, choose, Tree}
use Rattle.rewrite_bodies.specs.calls.Slots.{Place, Ctx, slot, Spilled, Known, Copied}

-- the added local x is read, or written
abbrev pub get : Ctx → ℕ → Nodes → Nodes
get C x k = basic 0 (LocalGet (length C.locals + x)) k

abbrev pub set : Ctx → ℕ → Nodes → Nodes
set C x k = basic 0 (LocalSet (length C.locals + x)) k

abbrev pub const : Value → Nodes → Nodes
const v k = basic 0 (Const v) k

abbrev pub i32 : ℕ → Value
i32 n = values.I32 n

abbrev pub call : ℕ → Nodes → Nodes
call f k = jump 0 (Call f) k

-- `if` without a result and without `else`
abbrev pub if_any : Nodes → Nodes → Nodes
if_any a k = choose 0 None a None stop 0 k

-- the operand at a height is pushed once more
abbrev pub fetch : Ctx → Place → ℕ → Nodes → Nodes
fetch C (Spilled t) h k = get C (slot C.slots t h) k
fetch C (Known v) h k = const v k
fetch C (Copied t x) h k = basic 0 (LocalGet x) k

-- so many operands, the lowest first
abbrev pub load : Ctx → ℕ → List Place → Nodes → Nodes
load C zero es k = k
load C (suc m) [] k = k
load C (suc m) (e ∷ es) k = load C m es (fetch C e (length es) k)

-- a result is kept in its slot besides, unless it passes
abbrev pub keep_slot : Bool → Ctx → ValType → List Place → Nodes → Nodes
keep_slot true C t es k = k
keep_slot false C t es k = basic 0 (LocalTee (length C.locals + slot C.slots t (length es))) k

abbrev pub keep : Bool → Ctx → Option Place → List Place → Nodes → Nodes
keep passing C (Some (Spilled t)) es k = keep_slot passing C t es k
keep passing C e es k = k

-- a result goes to its slot, and comes back from there
abbrev pub store : Ctx → Option ValType → List Place → Nodes → Nodes
store C None es k = k
store C (Some t) es k = set C (slot C.slots t (length es)) k

abbrev pub reload : Ctx → Option ValType → List Place → Nodes → Nodes
reload C None es k = k
reload C (Some t) es k = get C (slot C.slots t (length es)) k

-- copies of these locals go to their slots
abbrev pub spill_one : Ctx → (ℕ → Bool) → Place → ℕ → Nodes → Nodes
spill_one C these (Copied t x) h k = if these x then basic 0 (LocalGet x) (set C (slot C.slots t h) k) else k
spill_one C these e h k = k

abbrev pub spill : Ctx → (ℕ → Bool) → List Place → Nodes → Nodes
spill C these [] k = k
spill C these (e ∷ es) k = spill C these es (spill_one C these e (length es) k)

-- so many operands are dropped
abbrev pub drops : ℕ → Nodes → Nodes
drops zero k = k
drops (suc n) k = basic 0 Drop (drops n k)

abbrev pub tree_of : Nodes → Tree
tree_of nodes = record { nodes = nodes; end = 0 }
