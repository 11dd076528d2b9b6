-- Typing (Core 3). Lists of types stand with the topmost first.
use Rattle.std.specs.Prelude.{◌≡◌, ℕ, ◌*◌, ◌^◌, ◌≤◌, nat_le, Bool, List, [], ◌∷◌, ◌++◌, reverse, length, slice_get, if◌then◌else◌, Option, Some, None, option_map, option_to_list}
use Rattle.wasm_syntax.specs.declared.blocks.BlockKind.{BlockKind}
use Rattle.wasm_syntax.specs.declared.blocks.BlockKind.TheVariants as kinds
use Rattle.wasm_syntax.specs.declared.value.ValType.{ValType}
use Rattle.wasm_syntax.specs.declared.value.ValType.TheVariants.{I32, I64}
use Rattle.wasm_syntax.specs.declared.instruction.Basic.{Basic}
use Rattle.wasm_syntax.specs.declared.instruction.Basic.TheVariants.{Nop, Drop, Select, LocalGet, LocalSet, LocalTee, GlobalGet, GlobalSet, Load, Store, MemorySize, MemoryGrow, MemoryCopy, MemoryFill, Const, Eqz, Unary, Compare, Binary, Convert, Extend32, Extend64}
use Rattle.wasm_syntax.specs.Numbers.{type_of, convert_from, convert_to}
use Rattle.wasm_syntax.specs.Access.{load_type, load_bits, store_type, store_bits}
use Rattle.std.specs.List.{AllByRecursion}
use Rattle.wasm_syntax.specs.Tree.{Jump, Unreachable, Br, BrIf, BrTable, Return, Call, CallIndirect, Nodes, stop, basic, jump, block, loop, choose, Tree, Item, Plain, Goes, Opens, OpensLoop, OpensIf, Else, End, Placed, placed, WritesOut}
use Rattle.wasm_syntax.specs.declared.parts.FuncType.{FuncType}
use Rattle.wasm_syntax.specs.declared.parts.Body.{Body}
use Rattle.wasm_syntax.specs.declared.parts.Global.{Global}
use Rattle.wasm_syntax.specs.Module.{type_at, option_then, declared_locals}
use Rattle.wasm_syntax.specs.declared.module.ModuleParts.{ModuleParts as Module}

-- Core 3.1: the module, the types of the locals, what a branch to each label takes from the innermost out, and what the
-- function gives
pub record Context : Type 0 where
  pub module_ : Module
  pub locals : List ValType
  pub labels : List (List ValType)
  pub returns : List ValType

-- takes ⇒ gives
pub record Arrow : Type 0 where
  pub takes : List ValType
  pub gives : List ValType

infixr 4 ◌⇒◌
abbrev pub ◌⇒◌ : List ValType → List ValType → Arrow
takes ⇒ gives = record { takes = takes; gives = gives }

abbrev pub only_if : {A : Type 0} → Bool → Option A → Option A
only_if b o = if b then o else None

abbrev pub if_any : {A B : Type 0} → List A → Option B → Option B
if_any [] o = None
if_any (x ∷ xs) o = o

-- the alignment is at most the width (Core 3.3.4)
abbrev pub aligned : ℕ → ℕ → Bool
aligned align n = nat_le (2 ^ align * 8) n

abbrev pub set_global : Global → Option Arrow
set_global g = only_if g.mutable (Some (g.vtype ∷ [] ⇒ []))

-- what a basic instruction takes and gives (Core 3.3.1 to 3.3.4); t is any type, for the two that take any
abbrev pub arrow : Context → ValType → Basic → Option Arrow
arrow c t Nop = Some ([] ⇒ [])
arrow c t Drop = Some (t ∷ [] ⇒ [])
arrow c t Select = Some (I32 ∷ t ∷ t ∷ [] ⇒ t ∷ [])
arrow c t (LocalGet x) = option_map (λ u. [] ⇒ u ∷ []) (slice_get c.locals x)
arrow c t (LocalSet x) = option_map (λ u. u ∷ [] ⇒ []) (slice_get c.locals x)
arrow c t (LocalTee x) = option_map (λ u. u ∷ [] ⇒ u ∷ []) (slice_get c.locals x)
arrow c t (GlobalGet x) = option_map (λ g. [] ⇒ g.vtype ∷ []) (slice_get c.module_.globals x)
arrow c t (GlobalSet x) = option_then (slice_get c.module_.globals x) set_global
arrow c t (Load l align offset) = if_any c.module_.memories (only_if (aligned align (load_bits l)) (Some (I32 ∷ [] ⇒ load_type l ∷ [])))
arrow c t (Store s align offset) = if_any c.module_.memories (only_if (aligned align (store_bits s)) (Some (store_type s ∷ I32 ∷ [] ⇒ [])))
arrow c t MemorySize = if_any c.module_.memories (Some ([] ⇒ I32 ∷ []))
arrow c t MemoryGrow = if_any c.module_.memories (Some (I32 ∷ [] ⇒ I32 ∷ []))
arrow c t MemoryCopy = if_any c.module_.memories (Some (I32 ∷ I32 ∷ I32 ∷ [] ⇒ []))
arrow c t MemoryFill = if_any c.module_.memories (Some (I32 ∷ I32 ∷ I32 ∷ [] ⇒ []))
arrow c t (Const v) = Some ([] ⇒ type_of v ∷ [])
arrow c t (Eqz u) = Some (u ∷ [] ⇒ I32 ∷ [])
arrow c t (Unary u op) = Some (u ∷ [] ⇒ u ∷ [])
arrow c t (Compare u op) = Some (u ∷ u ∷ [] ⇒ I32 ∷ [])
arrow c t (Binary u op) = Some (u ∷ u ∷ [] ⇒ u ∷ [])
arrow c t (Convert k) = Some (convert_from k ∷ [] ⇒ convert_to k ∷ [])
arrow c t (Extend32 k) = Some (I32 ∷ [] ⇒ I32 ∷ [])
arrow c t (Extend64 k) = Some (I64 ∷ [] ⇒ I64 ∷ [])

-- before and after have the types of an arrow on top, and equal types below
pub record Above (a : Arrow) (before after : List ValType) : Type 0 where
  pub below : List ValType
  pub takes : before ≡ a.takes ++ below
  pub gives : after ≡ a.gives ++ below

-- at least these types are on top
pub record OnTop (types before : List ValType) : Type 0 where
  pub below : List ValType
  pub takes : before ≡ types ++ below

pub record BasicTypes (c : Context) (i : Basic) (before after : List ValType) : Type 0 where
  pub any : ValType
  pub arrow_is : Arrow
  pub has : arrow c any i ≡ Some arrow_is
  pub above : Above arrow_is before after

-- the label has this type
abbrev pub IsLabel : Context → ℕ → List ValType → Type 0
IsLabel c n types = slice_get c.labels n ≡ Some types

-- each of these is
abbrev pub AreLabels : Context → List ℕ → List ValType → Type 0
AreLabels c ns types = AllByRecursion (λ n. IsLabel c n types) ns

-- the function type takes its parameters, the last one topmost
abbrev pub call_arrow : FuncType → Arrow
call_arrow type = reverse type.params ⇒ reverse type.results

-- Core 3.3.5: behind `unreachable`, `br`, `br_table` and `return` the types are free
abbrev pub JumpTypes : Context → Jump → List ValType → List ValType → Type 0
JumpTypes c Unreachable before after = Unit {0}
JumpTypes c (Br n) before after = (types : List ValType) × IsLabel c n types × OnTop types before
JumpTypes c (BrIf n) before after = (types : List ValType) × IsLabel c n types × Above (I32 ∷ types ⇒ types) before after
JumpTypes c (BrTable targets default) before after =
    (types : List ValType) × IsLabel c default types × AreLabels c targets types × OnTop (I32 ∷ types) before
JumpTypes c Return before after = OnTop c.returns before
JumpTypes c (Call g) before after = (type : FuncType) × (type_at c.module_ g ≡ Some type) × Above (call_arrow type) before after
JumpTypes c (CallIndirect t) before after =
    (type : FuncType) × (1 ≤ length c.module_.tables) × (slice_get c.module_.types t ≡ Some type)
    × Above (I32 ∷ reverse type.params ⇒ reverse type.results) before after

abbrev pub within : Context → List ValType → Context
within c types = record c { labels = types ∷ c.labels }

-- The nodes take a list of types to another (Core 3.3.6).
abbrev pub Types : Context → Nodes → List ValType → List ValType → Type 0
Types c stop before after = before ≡ after
Types c (basic at i rest) before after = (between : List ValType) × BasicTypes c i before between × Types c rest between after
Types c (jump at j rest) before after = (between : List ValType) × JumpTypes c j before between × Types c rest between after
Types c (block at t body end rest) before after =
    Types (within c (option_to_list t)) body [] (option_to_list t) × Types c rest (option_to_list t ++ before) after
Types c (loop at t body end rest) before after =
    Types (within c []) body [] (option_to_list t) × Types c rest (option_to_list t ++ before) after
Types c (choose at t a else_at b end rest) before after =
    Types (within c (option_to_list t)) a [] (option_to_list t)
    × Types (within c (option_to_list t)) b [] (option_to_list t)
    × (below : List ValType) × (before ≡ I32 ∷ below) × Types c rest (option_to_list t ++ below) after

-- ---- function bodies (Core 3.4.1)

abbrev pub body_context : Module → FuncType → Body → Context
body_context m type body = record {
  module_ = m;
  locals = type.params ++ declared_locals body.groups;
  labels = reverse type.results ∷ [];
  returns = reverse type.results;
}

-- the flat instructions are those of a tree that has the body's type
pub record IsBody (m : Module) (type : FuncType) (body : Body) (code : List Placed) : Type 0 where
  pub tree : Tree
  pub writes : WritesOut code tree
  pub typed : Types (body_context m type body) tree.nodes [] (reverse type.results)

-- ---- the closing of a list of instructions

-- what is open behind an instruction, the innermost first
abbrev pub open_next : List BlockKind → Item → List BlockKind
open_next os (Plain i) = os
open_next os (Goes j) = os
open_next os (Opens t) = kinds.Plain ∷ os
open_next os (OpensLoop t) = kinds.Loop ∷ os
open_next os (OpensIf t) = kinds.Then ∷ os
open_next [] Else = []
open_next (o ∷ os) Else = kinds.Plain ∷ os
open_next [] End = []
open_next (o ∷ os) End = os

abbrev pub open_behind : List BlockKind → List Placed → List BlockKind
open_behind os [] = os
open_behind os (i ∷ is) = open_behind (open_next os i.code) is

-- what closes them: `unreachable`, `else` and `unreachable` where there may be an `else`, and `end`, all at offset 0, where no instruction of a function stands
abbrev pub closing_of : List BlockKind → List Placed
closing_of [] = []
closing_of (kinds.Plain ∷ os) = placed 0 (Goes Unreachable) ∷ placed 0 End ∷ closing_of os
closing_of (kinds.Loop ∷ os) = placed 0 (Goes Unreachable) ∷ placed 0 End ∷ closing_of os
closing_of (kinds.Then ∷ os) =
    placed 0 (Goes Unreachable) ∷ placed 0 Else ∷ placed 0 (Goes Unreachable) ∷ placed 0 End ∷ closing_of os

abbrev pub closing : List Placed → List Placed
closing is = is ++ closing_of (open_behind (kinds.Plain ∷ []) is)

-- the instructions begin a well-typed body
abbrev pub BeginsBody : Module → FuncType → Body → List Placed → Type 0
BeginsBody m type body is = IsBody m type body (closing is)
