-- The instructions that the rewriting tells apart: those that have a guard, and those on whose places it has a rule of its own.
use Rattle.std.proofs.Common.{◌≡◌, ℕ, Bool, true, false, List, map, slice_get, Option, None, option_map, refl, sym, ap, ◌∙◌, ◌⊎◌, inl, inr, Some}
use Rattle.wasm_syntax.specs.declared.value.ValType.{ValType}
use Rattle.wasm_syntax.specs.declared.value.Value.{Value}
use Rattle.int_ops.specs.declared.operators.Binary.{Binary as BinaryOp}
use Rattle.int_ops.specs.declared.operators.Binary.TheVariants.{DivS, DivU, RemS, RemU, Add, Sub, Mul, And, Or, Xor, Shl, ShrS, ShrU, Rotl, Rotr}
use Rattle.int_ops.specs.declared.operators.Compare.{Compare as CompareOp}
use Rattle.wasm_syntax.specs.declared.instruction.Basic.{Basic}
use Rattle.wasm_syntax.specs.declared.module.ModuleParts.{ModuleParts as Module}
use Rattle.wasm_syntax.specs.declared.instruction.Basic.TheVariants.{Nop, Drop, Select, LocalGet, LocalSet, LocalTee, GlobalGet, GlobalSet, Load, Store, MemorySize, MemoryGrow, MemoryCopy, MemoryFill, Const, Eqz, Unary, Compare, Binary, Convert, Extend32, Extend64}
use Rattle.wasm_syntax.specs.calls.Classes.{Divider, by_div_s, by_div_u, by_rem_s, by_rem_u, Risky, risky_binary, risky_load, risky_store, risky_copy, risky_fill, effect_class, local_of, TypeSource, DropsAny, SelectsAny, FromLocal, IntoLocal, TeesLocal, FromGlobal, IntoGlobal, OverMemory, OfItself, type_source}
use Rattle.rewrite_bodies.specs.calls.Slots.{Place, Spilled, Copied, Ctx, second_type, result_type, result_place, local_written}
use Rattle.rewrite_bodies.specs.calls.Guards.{divides, can_trap}
use Rattle.rewrite_bodies.specs.calls.Derived.{derives}
use Rattle.rewrite_bodies.specs.calls.Rewrite.{grows}
use Rattle.rewrite_bodies.specs.calls.Landings.{division_kind, one_kind}
use Rattle.wasm_syntax.proofs.Classes.{Computes}

dividing : (op : BinaryOp) → Divider op ⊎ ((divides op ≡ false) × (division_kind op ≡ None))
dividing DivS = inl by_div_s
dividing DivU = inl by_div_u
dividing RemS = inl by_rem_s
dividing RemU = inl by_rem_u
dividing Add = inr (refl, refl)
dividing Sub = inr (refl, refl)
dividing Mul = inr (refl, refl)
dividing And = inr (refl, refl)
dividing Or = inr (refl, refl)
dividing Xor = inr (refl, refl)
dividing Shl = inr (refl, refl)
dividing ShrS = inr (refl, refl)
dividing ShrU = inr (refl, refl)
dividing Rotl = inr (refl, refl)
dividing Rotr = inr (refl, refl)

-- all others have neither a guard nor a landing
trapping : (i : Basic) → Risky i ⊎ ((can_trap i ≡ false) × (one_kind i ≡ None))
trapping (Binary t op) = by_operator (dividing op)
  where
    by_operator : Divider op ⊎ ((divides op ≡ false) × (division_kind op ≡ None)) → Risky (Binary t op) ⊎ ((can_trap (Binary t op) ≡ false) × (one_kind (Binary t op) ≡ None))
    by_operator (inl by) = inl (risky_binary t op by)
    by_operator (inr h) = inr h
trapping (Load l align offset) = inl (risky_load l align offset)
trapping (Store s align offset) = inl (risky_store s align offset)
trapping MemoryCopy = inl risky_copy
trapping MemoryFill = inl risky_fill
trapping Nop = inr (refl, refl)
trapping Drop = inr (refl, refl)
trapping Select = inr (refl, refl)
trapping (LocalGet x) = inr (refl, refl)
trapping (LocalSet x) = inr (refl, refl)
trapping (LocalTee x) = inr (refl, refl)
trapping (GlobalGet x) = inr (refl, refl)
trapping (GlobalSet x) = inr (refl, refl)
trapping MemorySize = inr (refl, refl)
trapping MemoryGrow = inr (refl, refl)
trapping (Const v) = inr (refl, refl)
trapping (Eqz t) = inr (refl, refl)
trapping (Unary t op) = inr (refl, refl)
trapping (Compare t op) = inr (refl, refl)
trapping (Convert c) = inr (refl, refl)
trapping (Extend32 k) = inr (refl, refl)
trapping (Extend64 k) = inr (refl, refl)

pub risk_of : (i : Basic) → can_trap i ≡ true → Risky i
risk_of i e = by_trap (trapping i)
  where
    by_trap : Risky i ⊎ ((can_trap i ≡ false) × (one_kind i ≡ None)) → Risky i
    by_trap (inl r) = r
    by_trap (inr h) = absurd (let f : can_trap i ≡ false = h.0 in cc)

pub kind_risk : (i : Basic) (k : ℕ) → one_kind i ≡ Some k → Risky i
kind_risk i k e = by_trap (trapping i)
  where
    by_trap : Risky i ⊎ ((can_trap i ≡ false) × (one_kind i ≡ None)) → Risky i
    by_trap (inl r) = r
    by_trap (inr h) = absurd (let f : one_kind i ≡ None = h.1 in cc)

-- none of them takes one number for another
no_risk : (i : Basic) → Risky i → Computes i → ⊥
no_risk i (risky_binary t op by) o = let e = o.source_is in cc
no_risk i (risky_load l align offset) o = let e = o.source_is in cc
no_risk i (risky_store s align offset) o = let e = o.source_is in cc
no_risk i risky_copy o = let e = o.source_is in cc
no_risk i risky_fill o = let e = o.source_is in cc

pub never_traps : (i : Basic) → Computes i → (q : Bool) → can_trap i ≡ q → q ≡ false
never_traps i o false t = refl
never_traps i o true t = absurd (no_risk i (risk_of i t) o)

-- ---- the instruction that changes the length of the memory

pub growth : (i : Basic) → (i ≡ MemoryGrow) ⊎ (grows i ≡ false)
growth MemoryGrow = inl refl
growth Nop = inr refl
growth Drop = inr refl
growth Select = inr refl
growth (LocalGet x) = inr refl
growth (LocalSet x) = inr refl
growth (LocalTee x) = inr refl
growth (GlobalGet x) = inr refl
growth (GlobalSet x) = inr refl
growth (Load l align offset) = inr refl
growth (Store s align offset) = inr refl
growth MemorySize = inr refl
growth MemoryCopy = inr refl
growth MemoryFill = inr refl
growth (Const v) = inr refl
growth (Eqz t) = inr refl
growth (Unary t op) = inr refl
growth (Compare t op) = inr refl
growth (Binary t op) = inr refl
growth (Convert c) = inr refl
growth (Extend32 k) = inr refl
growth (Extend64 k) = inr refl

-- ---- those of which locals are worked out

pub data Deriving : Basic → Type 0 where
  compares : (t : ValType) (op : CompareOp) → Deriving (Compare t op)
  combines : (t : ValType) (op : BinaryOp) → Deriving (Binary t op)

pub derived_by : (i : Basic) → derives i ≡ true → Deriving i
derived_by (Compare t op) e = compares t op
derived_by (Binary t op) e = combines t op
derived_by i e = absurd (cc)

-- ---- the places behind an instruction

pub data Treated : Basic → Type 0 where
  gets : (x : ℕ) → Treated (LocalGet x)
  sets : (x : ℕ) → Treated (LocalSet x)
  tees : (x : ℕ) → Treated (LocalTee x)
  constant : (v : Value) → Treated (Const v)
  -- all others write no local, and what they give is in its slot
  spills : {i : Basic} → local_written i ≡ None → local_of (effect_class i) ≡ None → ((C : Ctx) (es : List Place) → result_place C es i ≡ option_map Spilled (result_type C es i)) → Treated i

pub treated : (i : Basic) → Treated i
treated (LocalGet x) = gets x
treated (LocalSet x) = sets x
treated (LocalTee x) = tees x
treated (Const v) = constant v
treated Nop = spills refl refl (λ C es. refl)
treated Drop = spills refl refl (λ C es. refl)
treated Select = spills refl refl (λ C es. refl)
treated (GlobalGet x) = spills refl refl (λ C es. refl)
treated (GlobalSet x) = spills refl refl (λ C es. refl)
treated (Load l align offset) = spills refl refl (λ C es. refl)
treated (Store s align offset) = spills refl refl (λ C es. refl)
treated MemorySize = spills refl refl (λ C es. refl)
treated MemoryGrow = spills refl refl (λ C es. refl)
treated MemoryCopy = spills refl refl (λ C es. refl)
treated MemoryFill = spills refl refl (λ C es. refl)
treated (Eqz u) = spills refl refl (λ C es. refl)
treated (Unary u op) = spills refl refl (λ C es. refl)
treated (Compare u op) = spills refl refl (λ C es. refl)
treated (Binary u op) = spills refl refl (λ C es. refl)
treated (Convert k) = spills refl refl (λ C es. refl)
treated (Extend32 k) = spills refl refl (λ C es. refl)
treated (Extend64 k) = spills refl refl (λ C es. refl)

-- ---- what it gives

-- by what its type comes from
abbrev pub result_by : Ctx → List Place → TypeSource → Option ValType
result_by C es DropsAny = None
result_by C es SelectsAny = second_type es
result_by C es (FromLocal x) = slice_get C.locals x
result_by C es (IntoLocal x) = None
result_by C es (TeesLocal x) = slice_get C.locals x
result_by C es (FromGlobal x) = slice_get (map (λ g. g.vtype) C.source.globals) x
result_by C es (IntoGlobal x) = None
result_by C es (OverMemory fits ts given) = given
result_by C es (OfItself ts given) = given

pub result_typed : (C : Ctx) (es : List Place) (i : Basic) → result_type C es i ≡ result_by C es (type_source i)
result_typed C es Nop = refl
result_typed C es Drop = refl
result_typed C es Select = refl
result_typed C es (LocalGet x) = refl
result_typed C es (LocalSet x) = refl
result_typed C es (LocalTee x) = refl
result_typed C es (GlobalGet x) = refl
result_typed C es (GlobalSet x) = refl
result_typed C es (Load l align offset) = refl
result_typed C es (Store s align offset) = refl
result_typed C es MemorySize = refl
result_typed C es MemoryGrow = refl
result_typed C es MemoryCopy = refl
result_typed C es MemoryFill = refl
result_typed C es (Const v) = refl
result_typed C es (Eqz u) = refl
result_typed C es (Unary u op) = refl
result_typed C es (Compare u op) = refl
result_typed C es (Binary u op) = refl
result_typed C es (Convert k) = refl
result_typed C es (Extend32 k) = refl
result_typed C es (Extend64 k) = refl

-- it hangs on the locals and the module alone, and so does its place
pub result_alike : (C D : Ctx) (es : List Place) (i : Basic) → C.locals ≡ D.locals → C.source ≡ D.source → result_type C es i ≡ result_type D es i
result_alike C D es i l s = result_typed C es i ∙ by_source (type_source i) ∙ sym (result_typed D es i)
  where
    by_source : (k : TypeSource) → result_by C es k ≡ result_by D es k
    by_source DropsAny = refl
    by_source SelectsAny = refl
    by_source (FromLocal x) = ap (λ (ts : List ValType). slice_get ts x) l
    by_source (IntoLocal x) = refl
    by_source (TeesLocal x) = ap (λ (ts : List ValType). slice_get ts x) l
    by_source (FromGlobal x) = ap (λ (m : Module). slice_get (map (λ g. g.vtype) m.globals) x) s
    by_source (IntoGlobal x) = refl
    by_source (OverMemory fits ts given) = refl
    by_source (OfItself ts given) = refl

pub place_alike : (C D : Ctx) (es : List Place) (i : Basic) → Treated i → C.locals ≡ D.locals → C.source ≡ D.source → result_place C es i ≡ result_place D es i
place_alike C D es i (gets x) l s = ap (λ (ts : List ValType). option_map (λ t. Copied t x) (slice_get ts x)) l
place_alike C D es i (tees x) l s = ap (λ (ts : List ValType). option_map (λ t. Copied t x) (slice_get ts x)) l
place_alike C D es i (sets x) l s = refl
place_alike C D es i (constant v) l s = refl
place_alike C D es i (spills none no_local given) l s = given C es ∙ ap (option_map Spilled) (result_alike C D es i l s) ∙ sym (given D es)
