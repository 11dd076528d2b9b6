-- What is known of operands in a rewritten function, whose stack has the original's operands: each operand has a height and a type, and so a slot
-- among the added locals, in which its value is besides, unless a constant instruction pushed it or it is a copy of a local.
use Rattle.std.specs.Prelude.{ℕ, zero, suc, ◌+◌, ◌*◌, ◌==◌, max, List, [], ◌∷◌, ◌++◌, length, map, replicate, slice_get, Option, Some, None, option_map, Bool, true, false, if◌then◌else◌}
use Rattle.wasm_syntax.specs.declared.value.ValType.{ValType}
use Rattle.wasm_syntax.specs.declared.value.ValType.TheVariants.{I32, I64}
use Rattle.wasm_syntax.specs.declared.value.Value.{Value}
use Rattle.wasm_syntax.specs.declared.instruction.Basic.{Basic}
use Rattle.wasm_syntax.specs.declared.instruction.Basic.TheVariants.{Select, LocalGet, LocalSet, LocalTee, GlobalGet, Load, MemorySize, MemoryGrow, Const, Eqz, Unary, Compare, Binary, Convert, Extend32, Extend64}
use Rattle.wasm_syntax.specs.declared.parts.LocalGroup.{LocalGroup}
use Rattle.wasm_syntax.specs.declared.parts.FuncType.{FuncType}
use Rattle.wasm_syntax.specs.declared.parts.Body.{Body}
use Rattle.wasm_syntax.specs.declared.module.ModuleParts.{ModuleParts as Module}
use Rattle.wasm_syntax.specs.Numbers.{type_of, convert_to}
use Rattle.wasm_syntax.specs.Access.{load_type}
use Rattle.wasm_syntax.specs.Tree.{Jump, BrIf, Call, CallIndirect, Nodes, stop, basic, jump, block, loop, choose, Tree}
use Rattle.wasm_syntax.specs.Module.{Program, Function, defined, function_at, type_at, declared_locals}
use Rattle.wasm_syntax.specs.Effect.{takes}
use Rattle.wasm_syntax.specs.Machine.{result_of}
use Rattle.rewrite_bodies.specs.Numbering.{import_count, helped, helper_base}

-- where the value of an operand is besides: in its slot, in a constant, or in a local of the original
pub data Place : Type 0 where
  Spilled : (t : ValType) → Place
  Known : (v : Value) → Place
  Copied : (t : ValType) (x : ℕ) → Place

-- the type of the operand there
abbrev pub place_type : Place → ValType
place_type (Spilled t) = t
place_type (Known v) = type_of v
place_type (Copied t x) = t

-- a place behind the body at which a frame is handed over: with the operands in these places, under one of this type, where there is one, which
-- comes with the branch; with this kind; and out of this part of the body, on which nothing of what is handed over depends
pub record Landing : Type 0 where
  pub carried : Option ValType
  pub places : List Place
  pub kind : ℕ
  pub part : ℕ

-- a local that is what an instruction gives on the values of two others
pub record Derivation : Type 0 where
  pub made : ℕ
  pub instruction : Basic
  pub left : ℕ
  pub right : ℕ

-- what is fixed in a function: its module, the index of the first helper and the types that have one, the types of its locals, the
-- number of heights, its index and its result, its landings, the offsets of instructions that need a guard, and the locals that are worked out
-- where it is left
pub record Ctx : Type 0 where
  pub source : Module
  pub base : ℕ
  pub helpers : List ℕ
  pub locals : List ValType
  pub slots : ℕ
  pub index : ℕ
  pub result : Option ValType
  pub landings : List Landing
  pub exposed : List ℕ
  pub derivations : List Derivation

-- the added locals, of which all of a type stand together: a slot of type i32 at each height and for a result, the kind and the offset of a
-- trap, a slot of type i64 at each height and for a result, and the length of the memory
abbrev pub slot : ℕ → ValType → ℕ → ℕ
slot slots I32 h = h
slot slots I64 h = slots + 3 + h

-- the result local of a type; kind and offset of a trap
abbrev pub result_at : Ctx → ValType → ℕ
result_at C t = slot C.slots t C.slots

abbrev pub kind_at : Ctx → ℕ
kind_at C = C.slots + 1

abbrev pub offset_at : Ctx → ℕ
offset_at C = C.slots + 2

abbrev pub length_at : Ctx → ℕ
length_at C = 2 * C.slots + 4

-- the types of the added locals, for so many heights
abbrev pub added : ℕ → List ValType
added n = replicate (n + 3) I32 ++ replicate (n + 2) I64

-- the same, as groups of locals
abbrev pub group : ℕ → ValType → LocalGroup
group n t = record { count = n; vtype = t }

abbrev pub groups : ℕ → List LocalGroup
groups n = group (n + 3) I32 ∷ group (n + 2) I64 ∷ []

-- ---- the places behind an instruction

-- without the topmost so many
abbrev pub less : ℕ → List Place → List Place
less zero es = es
less (suc m) [] = []
less (suc m) (e ∷ es) = less m es

-- the places with one more, where there is one, and after a result
abbrev pub pushed : Option Place → List Place → List Place
pushed None es = es
pushed (Some e) es = e ∷ es

abbrev pub grown : Option ValType → List Place → List Place
grown r es = pushed (option_map Spilled r) es

-- where copies of these locals are no more: in their slots
abbrev pub uncopied : (ℕ → Bool) → Place → Place
uncopied these (Spilled t) = Spilled t
uncopied these (Known v) = Known v
uncopied these (Copied t x) = if these x then Spilled t else Copied t x

abbrev pub without : (ℕ → Bool) → List Place → List Place
without these es = map (uncopied these) es

-- under a block there are no copies
abbrev pub under : List Place → List Place
under es = without (λ x. true) es

-- the type of the operand under the topmost
abbrev pub second_type : List Place → Option ValType
second_type (c ∷ b ∷ es) = Some (place_type b)
second_type _ = None

-- what an instruction gives on these places
abbrev pub result_type : Ctx → List Place → Basic → Option ValType
result_type C es Select = second_type es
result_type C es (LocalGet x) = slice_get C.locals x
result_type C es (LocalTee x) = slice_get C.locals x
result_type C es (GlobalGet x) = slice_get (map (λ g. g.vtype) C.source.globals) x
result_type C es (Load l align o) = Some (load_type l)
result_type C es MemorySize = Some I32
result_type C es MemoryGrow = Some I32
result_type C es (Const v) = Some (type_of v)
result_type C es (Eqz t) = Some I32
result_type C es (Unary t op) = Some t
result_type C es (Compare t op) = Some I32
result_type C es (Binary t op) = Some t
result_type C es (Convert c) = Some (convert_to c)
result_type C es (Extend32 k) = Some I32
result_type C es (Extend64 k) = Some I64
result_type C es _ = None

-- where that is
abbrev pub copy_of : Ctx → ℕ → Option Place
copy_of C x = option_map (λ t. Copied t x) (slice_get C.locals x)

abbrev pub result_place : Ctx → List Place → Basic → Option Place
result_place C es (Const v) = Some (Known v)
result_place C es (LocalGet x) = copy_of C x
result_place C es (LocalTee x) = copy_of C x
result_place C es i = option_map Spilled (result_type C es i)

-- the local that an instruction writes
abbrev pub local_written : Basic → Option ℕ
local_written (LocalSet x) = Some x
local_written (LocalTee x) = Some x
local_written i = None

-- the places when it has written it
abbrev pub freed_at : Option ℕ → List Place → List Place
freed_at None es = es
freed_at (Some x) es = without (λ y. x == y) es

abbrev pub freed : Basic → List Place → List Place
freed i es = freed_at (local_written i) es

abbrev pub after_plain : Ctx → List Place → Basic → List Place
after_plain C es i = pushed (result_place C es i) (freed i (less (takes i) es))

-- ---- what is counted behind a live instruction, by the places that it leaves; nothing where no code behind it is live

-- behind a call of a function of this type
abbrev pub behind_call : Option FuncType → List Place → (List Place → ℕ) → ℕ
behind_call None es go = 0
behind_call (Some type) es go = go (grown (result_of type) (less (length type.params) es))

abbrev pub behind_jump : Ctx → Jump → List Place → (List Place → ℕ) → ℕ
behind_jump C (BrIf l) es go = go (less 1 es)
behind_jump C (Call f) es go = behind_call (type_at C.source f) es go
behind_jump C (CallIndirect t) es go = behind_call (slice_get C.source.types t) (less 1 es) go
behind_jump C _ es go = 0

-- ---- the greatest height of operands in live code

abbrev pub peak : Ctx → List Place → Nodes → ℕ
peak C es stop = length es
peak C es (basic o i rest) = max (length es) (peak C (after_plain C es i) rest)
peak C es (jump o j rest) = max (length es) (behind_jump C j es (λ es'. peak C es' rest))
peak C es (block o t inner end rest) = max (length es) (max (peak C (under es) inner) (peak C (grown t (under es)) rest))
peak C es (loop o t inner end rest) = max (length es) (max (peak C (under es) inner) (peak C (grown t (under es)) rest))
peak C es (choose o t a else_at b end rest) =
    let left = under (less 1 es) in max (length es) (max (peak C left a) (max (peak C left b) (peak C (grown t left) rest)))

-- ---- functions of a program

-- a function that has a guard keeps the length of the memory in its local
abbrev pub is_any : List ℕ → Bool
is_any [] = false
is_any (o ∷ os) = true

abbrev pub measured : Ctx → Bool
measured C = is_any C.exposed

-- what is fixed in function f of a program, before its landings are known
abbrev pub ctx_of : Program → ℕ → Body → FuncType → ℕ → Ctx
ctx_of p f b type slots =
    record { source = p.module_; base = helper_base p.module_; helpers = helped p; locals = type.params ++ declared_locals b.groups; slots = slots; index = f; result = result_of type; landings = []; exposed = []; derivations = [] }

-- heights do not depend on the number of slots
abbrev pub slots_of : Program → ℕ → Body → Tree → FuncType → ℕ
slots_of p f b tree type = peak (ctx_of p f b type 0) [] tree.nodes

-- the locals, with parameters, and the greatest height of a function
abbrev pub sizes : Program → ℕ → Option Function → ℕ × ℕ
sizes p f (Some (defined b tree type)) = (length (type.params ++ declared_locals b.groups), slots_of p f b tree type)
sizes p f _ = (0, 0)

-- the greatest of both over these bodies, the first of which is that of function f
abbrev pub most : (ℕ → ℕ × ℕ) → ℕ → List Body → ℕ × ℕ
most go f [] = (0, 0)
most go f (b ∷ bs) = (max (go f).0 (most go (suc f) bs).0, max (go f).1 (most go (suc f) bs).1)

abbrev pub greatest : Program → ℕ × ℕ
greatest p = most (λ f. sizes p f (function_at p f)) (import_count p.module_) p.module_.bodies
