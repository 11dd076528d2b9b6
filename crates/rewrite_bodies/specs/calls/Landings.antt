-- The landings of a function: one for each list of places, kind, and part of the body, with which its frame may be handed over, in the order of the
-- code, up to a number of them.
use Rattle.std.specs.Prelude.{ℕ, suc, ◌/◌, min, nat_lt, ◌==◌, ◌&&◌, List, [], ◌∷◌, ◌++◌, length, slice_get, if◌then◌else◌, Option, Some, None, option_map, Bool, true, false}
use Rattle.wasm_syntax.specs.declared.value.ValType.{ValType}
use Rattle.wasm_syntax.specs.declared.value.Value.{Value}
use Rattle.wasm_syntax.specs.declared.value.Value.TheVariants as values
use Rattle.int_ops.specs.declared.operators.Binary.{Binary as BinaryOp}
use Rattle.int_ops.specs.declared.operators.Binary.TheVariants.{DivU, RemS, RemU}
use Rattle.wasm_syntax.specs.declared.instruction.Basic.{Basic}
use Rattle.wasm_syntax.specs.declared.instruction.Basic.TheVariants.{Load, Store, MemoryCopy, MemoryFill, Binary}
use Rattle.wasm_syntax.specs.declared.parts.FuncType.{FuncType}
use Rattle.wasm_syntax.specs.Numbers.{same_type}
use Rattle.wasm_syntax.specs.Tree.{Jump, BrIf, Call, CallIndirect, Nodes, stop, basic, jump, block, loop, choose}
use Rattle.wasm_syntax.specs.Module.{type_at}
use Rattle.wasm_syntax.specs.Machine.{result_of, same_result}
use Rattle.rewrite_bodies.specs.Numbering.{import_count}
use Rattle.rewrite_bodies.specs.calls.Facts.{exposed_in, needs}
use Rattle.rewrite_bodies.specs.calls.Derived.{derived_for}
use Rattle.rewrite_bodies.specs.calls.Slots.{Place, Spilled, Known, Copied, place_type, Landing, Derivation, Ctx, less, grown, under, after_plain}

-- ---- which landing

abbrev pub same_value : Value → Value → Bool
same_value (values.I32 a) (values.I32 b) = a == b
same_value (values.I64 a) (values.I64 b) = a == b
same_value _ _ = false

abbrev pub same_place : Place → Place → Bool
same_place (Spilled t) (Spilled u) = same_type t u
same_place (Known v) (Known w) = same_value v w
same_place (Copied t x) (Copied u y) = same_type t u && (x == y)
same_place _ _ = false

abbrev pub same_places : List Place → List Place → Bool
same_places [] [] = true
same_places (e ∷ es) (f ∷ fs) = same_place e f && same_places es fs
same_places _ _ = false

abbrev pub same_landing : Landing → Landing → Bool
same_landing a b = same_result a.carried b.carried && ((a.kind == b.kind) && ((a.part == b.part) && same_places a.places b.places))

-- the number of the first of these that is the same
abbrev pub number_of : Landing → List Landing → Option ℕ
number_of x [] = None
number_of x (y ∷ ys) = if same_landing x y then Some 0 else option_map suc (number_of x ys)

-- ---- the part of a body

-- the fewest locals of a function whose body has parts
abbrev pub many_locals : ℕ
many_locals = 1024

-- the last part
abbrev pub last_part : ℕ
last_part = 15

-- that of a code offset, in a function with these locals: each part is as long in bytes as there are locals. An engine moves all locals on each way
-- into a landing, which may take it the square of their number; on ways out of one part, few of them differ, those that the part writes
abbrev pub part_of : List ValType → ℕ → ℕ
part_of locals o = if nat_lt (length locals) many_locals then 0 else min last_part (o / length locals)

-- ---- the landing of a guard

-- the kind of an instruction that traps with no other one
abbrev pub division_kind : BinaryOp → Option ℕ
division_kind DivU = Some 2
division_kind RemS = Some 2
division_kind RemU = Some 2
division_kind op = None

abbrev pub one_kind : Basic → Option ℕ
one_kind (Binary t op) = division_kind op
one_kind (Load l align o) = Some 4
one_kind (Store l align o) = Some 4
one_kind MemoryCopy = Some 4
one_kind MemoryFill = Some 4
one_kind i = None

abbrev pub carrying : ℕ → Option ℕ → List Place → Option Landing
carrying p None es = None
carrying p (Some k) [] = None
carrying p (Some k) (e ∷ es) = Some (record { carried = Some (place_type e); places = es; kind = k; part = p })

-- that of an instruction in this part on these places, the topmost of which comes with the branch
abbrev pub landing_of : ℕ → Basic → List Place → Option Landing
landing_of p i es = carrying p (one_kind i) es

-- and that behind a call which left these
abbrev pub landing_behind : ℕ → List Place → Landing
landing_behind p es = record { carried = None; places = es; kind = 0; part = p }

-- where it needs a guard
abbrev pub needed : Bool → Option Landing → Option Landing
needed false o = None
needed true o = o

abbrev pub landing_at : Ctx → ℕ → Basic → List Place → Option Landing
landing_at C o i es = needed (needs C o i) (landing_of (part_of C.locals o) i es)

abbrev pub number_in : List Landing → Option Landing → Option ℕ
number_in xs None = None
number_in xs (Some x) = number_of x xs

-- ---- all of a function

-- the most landings that a function has
abbrev pub most_landings : ℕ
most_landings = 20

abbrev pub at_end : Bool → Landing → List Landing → List Landing
at_end false x xs = xs
at_end true x xs = xs ++ x ∷ []

-- one more, where it is none of these, and there are not too many
abbrev pub unless_there : Option ℕ → Landing → List Landing → List Landing
unless_there None x xs = at_end (nat_lt (length xs) most_landings) x xs
unless_there (Some n) x xs = xs

abbrev pub with_landing : Landing → List Landing → List Landing
with_landing x xs = unless_there (number_of x xs) x xs

abbrev pub with_some : Option Landing → List Landing → List Landing
with_some None xs = xs
with_some (Some x) xs = with_landing x xs

-- behind a call in this part of a function of this type; that of an import needs none
abbrev pub landing_call : ℕ → Bool → List Place → List Landing → List Landing
landing_call p true es xs = xs
landing_call p false es xs = with_landing (landing_behind p es) xs

abbrev pub landings_call : ℕ → Bool → Option FuncType → List Place → List Landing → (List Place → List Landing → List Landing) → List Landing
landings_call p direct None es xs go = xs
landings_call p direct (Some type) es xs go =
    let left = less (length type.params) es in go (grown (result_of type) left) (landing_call p direct left xs)

abbrev pub landings_jump : Ctx → ℕ → Jump → List Place → List Landing → (List Place → List Landing → List Landing) → List Landing
landings_jump C p (BrIf l) es xs go = go (less 1 es) xs
landings_jump C p (Call f) es xs go = landings_call p (nat_lt f (import_count C.source)) (type_at C.source f) es xs go
landings_jump C p (CallIndirect t) es xs go = landings_call p true (slice_get C.source.types t) (less 1 es) xs go
landings_jump C p j es xs go = xs

-- those of live code, behind these
abbrev pub landings_from : Ctx → List Place → Nodes → List Landing → List Landing
landings_from C es stop xs = xs
landings_from C es (basic o i rest) xs = landings_from C (after_plain C es i) rest (with_some (landing_at C o i es) xs)
landings_from C es (jump o j rest) xs = landings_jump C (part_of C.locals o) j es xs (λ es' xs'. landings_from C es' rest xs')
landings_from C es (block o t inner end rest) xs = landings_from C (grown t (under es)) rest (landings_from C (under es) inner xs)
landings_from C es (loop o t inner end rest) xs = landings_from C (grown t (under es)) rest (landings_from C (under es) inner xs)
landings_from C es (choose o t a else_at b end rest) xs =
    let left = under (less 1 es) in landings_from C (grown t left) rest (landings_from C left b (landings_from C left a xs))

-- the function with these offsets, landings and derivations
abbrev pub landed : Ctx → List ℕ → List Landing → List Derivation → Ctx
landed C os xs ds =
    record { source = C.source; base = C.base; helpers = C.helpers; locals = C.locals; slots = C.slots; index = C.index; result = C.result; landings = xs; exposed = os; derivations = ds }

-- the function with its own ones
abbrev pub with_landings : Ctx → Nodes → Ctx
with_landings C nodes =
    let os = exposed_in C.source.memories nodes in
    landed C os (landings_from (landed C os [] []) [] nodes []) (derived_for C.source C.index C.locals nodes)
