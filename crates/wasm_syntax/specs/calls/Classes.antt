-- Instructions by classes: what one of each class may change besides its operands, how it may trap, and what its type asks for.
use Rattle.std.specs.Prelude.{◌≡◌, ℕ, Bool, true, List, [], ◌∷◌, length, slice_get, slice_set, Option, Some, None, option_map, option_to_list, ◌⊎◌}
use Rattle.wasm_syntax.specs.declared.value.ValType.{ValType}
use Rattle.wasm_syntax.specs.declared.value.ValType.TheVariants.{I32, I64}
use Rattle.wasm_syntax.specs.declared.value.Value.{Value}
use Rattle.int_ops.specs.declared.operators.Binary.{Binary as BinaryOp}
use Rattle.int_ops.specs.declared.operators.Binary.TheVariants.{DivS, DivU, RemS, RemU}
use Rattle.linear_memory.specs.Memory.{Memory, put, grow, copy}
use Rattle.wasm_syntax.specs.declared.instruction.Load.{Load as Loading}
use Rattle.wasm_syntax.specs.declared.instruction.Store.{Store as Storing}
use Rattle.wasm_syntax.specs.declared.instruction.Basic.{Basic}
use Rattle.wasm_syntax.specs.declared.instruction.Basic.TheVariants.{Nop, Drop, Select, LocalGet, LocalSet, LocalTee, GlobalGet, GlobalSet, Load, Store, MemorySize, MemoryGrow, MemoryCopy, MemoryFill, Const, Eqz, Unary, Compare, Binary, Convert, Extend32, Extend64}
use Rattle.wasm_syntax.specs.declared.parts.Global.{Global}
use Rattle.wasm_syntax.specs.Host.{World}
use Rattle.wasm_syntax.specs.Effect.{Effect, gives, fails, unfit, with_globals, with_memory}
use Rattle.wasm_syntax.specs.Numbers.{type_of, convert_from, convert_to}
use Rattle.wasm_syntax.specs.Access.{load_type, load_bits, store_type, store_bits}
use Rattle.wasm_syntax.specs.Module.{option_then}
use Rattle.wasm_syntax.specs.Typing.{Context, Arrow, ◌⇒◌, aligned, only_if, if_any, set_global}

pub data EffectClass : Type 0 where
  -- takes and gives operands, and reads at most locals, globals or the memory's size
  Pure : EffectClass
  -- the same with a trap where a quotient is not there
  Dividing : EffectClass
  -- reads or writes the memory, and traps past its end; or grows it
  Accessing : EffectClass
  -- writes this local, this global
  SetsLocal : (x : ℕ) → EffectClass
  SetsGlobal : (x : ℕ) → EffectClass

abbrev pub effect_class : Basic → EffectClass
effect_class (Binary t op) = Dividing
effect_class (Load l align offset) = Accessing
effect_class (Store s align offset) = Accessing
effect_class MemoryGrow = Accessing
effect_class MemoryCopy = Accessing
effect_class MemoryFill = Accessing
effect_class (LocalSet x) = SetsLocal x
effect_class (LocalTee x) = SetsLocal x
effect_class (GlobalSet x) = SetsGlobal x
effect_class i = Pure

-- the local that one of this class writes
abbrev pub local_of : EffectClass → Option ℕ
local_of (SetsLocal x) = Some x
local_of k = None

-- ---- what it does

-- the kinds of its traps (Core 4.4)
abbrev pub MayFail : EffectClass → ℕ → Type 0
MayFail Dividing kind = (kind ≡ 2) ⊎ (kind ≡ 3)
MayFail Accessing kind = kind ≡ 4
MayFail k kind = ⊥

-- a memory behind an access
abbrev pub Accessed : Memory → Memory → Type 0
Accessed m new =
    ((at : ℕ) × (bytes : List ℕ) × (put m at bytes ≡ Some new))
    ⊎ (((to : ℕ) × (from : ℕ) × (n : ℕ) × (copy m to from n ≡ Some new)) ⊎ ((n : ℕ) × (grow m n ≡ Some new)))

abbrev pub MayWrite : World → World → Type 0
MayWrite w new = (new ≡ w) ⊎ ((m : Memory) × (m' : Memory) × (w.memory ≡ Some m) × Accessed m m' × (new ≡ with_memory w m'))

abbrev pub MayGive : EffectClass → World → List Value → World → List Value → Type 0
MayGive (SetsLocal x) w ls w' ls' = (w' ≡ w) × (v : Value) × (ls' ≡ slice_set ls x v)
MayGive (SetsGlobal x) w ls w' ls' = (ls' ≡ ls) × (v : Value) × (w' ≡ with_globals w (slice_set w.globals x v))
MayGive Accessing w ls w' ls' = (ls' ≡ ls) × MayWrite w w'
MayGive k w ls w' ls' = (ls' ≡ ls) × (w' ≡ w)

-- an effect that one of this class may have
abbrev pub Does : EffectClass → World → List Value → Effect → Type 0
Does k w ls (gives w' ls' vs) = MayGive k w ls w' ls'
Does k w ls (fails kind) = MayFail k kind
Does k w ls unfit = Unit {0}

-- ---- what its type asks for

abbrev pub Asks : EffectClass → Context → Type 0
Asks (SetsLocal x) c = (t : ValType) × (slice_get c.locals x ≡ Some t)
Asks (SetsGlobal x) c = (g : Global) × (slice_get c.module_.globals x ≡ Some g) × (g.mutable ≡ true)
Asks k c = Unit {0}

-- ---- its type

-- what the type of an instruction comes from
pub data TypeSource : Type 0 where
  -- any type: `drop`, `select`
  DropsAny : TypeSource
  SelectsAny : TypeSource
  -- the type of a local, of a global
  FromLocal : (x : ℕ) → TypeSource
  IntoLocal : (x : ℕ) → TypeSource
  TeesLocal : (x : ℕ) → TypeSource
  FromGlobal : (x : ℕ) → TypeSource
  IntoGlobal : (x : ℕ) → TypeSource
  -- itself alone, where there is a memory and its alignment fits
  OverMemory : (fits : Bool) (ts : List ValType) (given : Option ValType) → TypeSource
  -- itself alone
  OfItself : (ts : List ValType) (given : Option ValType) → TypeSource

abbrev pub type_source : Basic → TypeSource
type_source Nop = OfItself [] None
type_source Drop = DropsAny
type_source Select = SelectsAny
type_source (LocalGet x) = FromLocal x
type_source (LocalSet x) = IntoLocal x
type_source (LocalTee x) = TeesLocal x
type_source (GlobalGet x) = FromGlobal x
type_source (GlobalSet x) = IntoGlobal x
type_source (Load l align offset) = OverMemory (aligned align (load_bits l)) (I32 ∷ []) (Some (load_type l))
type_source (Store s align offset) = OverMemory (aligned align (store_bits s)) (store_type s ∷ I32 ∷ []) None
type_source MemorySize = OverMemory true [] (Some I32)
type_source MemoryGrow = OverMemory true (I32 ∷ []) (Some I32)
type_source MemoryCopy = OverMemory true (I32 ∷ I32 ∷ I32 ∷ []) None
type_source MemoryFill = OverMemory true (I32 ∷ I32 ∷ I32 ∷ []) None
type_source (Const v) = OfItself [] (Some (type_of v))
type_source (Eqz u) = OfItself (u ∷ []) (Some I32)
type_source (Unary u op) = OfItself (u ∷ []) (Some u)
type_source (Compare u op) = OfItself (u ∷ u ∷ []) (Some I32)
type_source (Binary u op) = OfItself (u ∷ u ∷ []) (Some u)
type_source (Convert k) = OfItself (convert_from k ∷ []) (Some (convert_to k))
type_source (Extend32 k) = OfItself (I32 ∷ []) (Some I32)
type_source (Extend64 k) = OfItself (I64 ∷ []) (Some I64)

abbrev pub source_arrow : Context → ValType → TypeSource → Option Arrow
source_arrow c t DropsAny = Some (t ∷ [] ⇒ [])
source_arrow c t SelectsAny = Some (I32 ∷ t ∷ t ∷ [] ⇒ t ∷ [])
source_arrow c t (FromLocal x) = option_map (λ u. [] ⇒ u ∷ []) (slice_get c.locals x)
source_arrow c t (IntoLocal x) = option_map (λ u. u ∷ [] ⇒ []) (slice_get c.locals x)
source_arrow c t (TeesLocal x) = option_map (λ u. u ∷ [] ⇒ u ∷ []) (slice_get c.locals x)
source_arrow c t (FromGlobal x) = option_map (λ g. [] ⇒ g.vtype ∷ []) (slice_get c.module_.globals x)
source_arrow c t (IntoGlobal x) = option_then (slice_get c.module_.globals x) set_global
source_arrow c t (OverMemory fits ts given) = if_any c.module_.memories (only_if fits (Some (ts ⇒ option_to_list given)))
source_arrow c t (OfItself ts given) = Some (ts ⇒ option_to_list given)

-- how many operands it takes, and how many it gives
abbrev pub source_takes : TypeSource → ℕ
source_takes DropsAny = 1
source_takes SelectsAny = 3
source_takes (FromLocal x) = 0
source_takes (IntoLocal x) = 1
source_takes (TeesLocal x) = 1
source_takes (FromGlobal x) = 0
source_takes (IntoGlobal x) = 1
source_takes (OverMemory fits ts given) = length ts
source_takes (OfItself ts given) = length ts

abbrev pub source_gives : TypeSource → ℕ
source_gives DropsAny = 0
source_gives SelectsAny = 1
source_gives (FromLocal x) = 1
source_gives (IntoLocal x) = 0
source_gives (TeesLocal x) = 1
source_gives (FromGlobal x) = 1
source_gives (IntoGlobal x) = 0
source_gives (OverMemory fits ts given) = length (option_to_list given)
source_gives (OfItself ts given) = length (option_to_list given)

-- ---- what can trap

-- an operator that divides
pub data Divider : BinaryOp → Type 0 where
  by_div_s : Divider DivS
  by_div_u : Divider DivU
  by_rem_s : Divider RemS
  by_rem_u : Divider RemU

-- an instruction that a trap can come of
pub data Risky : Basic → Type 0 where
  risky_binary : (t : ValType) (op : BinaryOp) → Divider op → Risky (Binary t op)
  risky_load : (l : Loading) (align offset : ℕ) → Risky (Load l align offset)
  risky_store : (s : Storing) (align offset : ℕ) → Risky (Store s align offset)
  risky_copy : Risky MemoryCopy
  risky_fill : Risky MemoryFill
