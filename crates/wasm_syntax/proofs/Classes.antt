-- What an instruction does is what one of its class may do, and its type asks for what the class asks for.
use Rattle.std.proofs.Common.{◌≡◌, ℕ, ◌≤◌, List, [], ◌∷◌, length, refl, sym, ap, ◌∙◌, inl, inr, arith}
use Rattle.std.specs.Prelude.{◌/◌, ◌%◌, ◌==◌, if◌then◌else◌, Bool, true, false, Option, Some, None, option_to_list, Result, Ok, Err, slice_get, slice_set, replicate}
use Rattle.wasm_syntax.specs.declared.value.ValType.{ValType}
use Rattle.wasm_syntax.specs.declared.value.ValType.TheVariants.{I32, I64}
use Rattle.wasm_syntax.specs.declared.value.Value.{Value}
use Rattle.wasm_syntax.specs.declared.value.Value.TheVariants as values
use Rattle.int_ops.specs.declared.operators.Binary.{Binary as BinaryOp}
use Rattle.int_ops.specs.declared.operators.Compare.{Compare as Comparison}
use Rattle.wasm_syntax.specs.declared.instruction.Load.{Load as Loading}
use Rattle.wasm_syntax.specs.declared.instruction.Store.{Store as Storing}
use Rattle.wasm_syntax.specs.declared.instruction.Basic.{Basic}
use Rattle.wasm_syntax.specs.declared.instruction.Basic.TheVariants.{Nop, Drop, Select, LocalGet, LocalSet, LocalTee, GlobalGet, GlobalSet, Load, Store, MemorySize, MemoryGrow, MemoryCopy, MemoryFill, Const, Eqz, Unary, Compare, Binary, Convert, Extend32, Extend64}
use Rattle.wasm_syntax.specs.declared.instruction.Instr.{Instr}
use Rattle.wasm_syntax.specs.declared.instruction.Instr.TheVariants as instrs
use Rattle.wasm_syntax.specs.declared.parts.Global.{Global}
use Rattle.wasm_syntax.specs.Module.{const_code}
use Rattle.wasm_syntax.specs.Valid.{ConstTypes}
use Rattle.int_ops.specs.declared.operators.ArithTrap.{ArithTrap}
use Rattle.int_ops.specs.declared.operators.ArithTrap.TheVariants.{DivideByZero, Overflow}
use Rattle.int_ops.specs.Integers.{extend32, extend64}
use Rattle.linear_memory.specs.Memory.{Memory, load, put, copy, fill, grow, pages, to_bytes}
use Rattle.wasm_syntax.specs.Access.{load_type, load_bits, loaded, store_type, store_bits}
use Rattle.wasm_syntax.specs.Numbers.{number, value, modulo, bool_number, unary, compare, binary, convert, convert_from, convert_to, same_type, type_of}
use Rattle.wasm_syntax.specs.Effect.{Effect, gives, effect, takes, when, with_some, on_none, on_any, on_one, on_two, on_three, on_choice, over, in_bounds, divides, grown, with_globals, with_memory, address}
use Rattle.wasm_syntax.specs.Host.{World}
use Rattle.wasm_syntax.specs.Typing.{Context, Arrow, ◌⇒◌, arrow, only_if, set_global}
use Rattle.pm_text.proofs.Lists.{some_is}
use Rattle.wasm_syntax.proofs.Types.{any_found, then_found, map_found, only_found}
use Rattle.wasm_syntax.specs.calls.Classes.{EffectClass, Pure, Dividing, Accessing, SetsLocal, SetsGlobal, effect_class, MayFail, Does, Asks, TypeSource, DropsAny, SelectsAny, FromLocal, IntoLocal, TeesLocal, FromGlobal, IntoGlobal, OverMemory, OfItself, type_source, source_arrow, source_takes, source_gives}

-- ---- through the tests of an effect

module _ (k : EffectClass) (w : World) (ls : List Value) where
  abbrev K : Effect → Type 0
  K e = Does k w ls e

  on_test : (b : Bool) (e : Effect) → K e → K (when b e)
  on_test true e h = h
  on_test false e h = tt

  on_some : {A : Type 0} (o : Option A) (go : A → Effect) → ((x : A) → o ≡ Some x → K (go x)) → K (with_some o go)
  on_some (Some x) go h = h x refl
  on_some None go h = tt

  with_none : (e : Effect) (vs : List Value) → K e → K (on_none e vs)
  with_none e [] h = h
  with_none e (v ∷ vs) h = tt

  with_any : (go : Value → Effect) (vs : List Value) → ((v : Value) → K (go v)) → K (on_any go vs)
  with_any go [] h = tt
  with_any go (v ∷ []) h = h v
  with_any go (v ∷ u ∷ vs) h = tt

  with_one : (t : ValType) (go : ℕ → Effect) (vs : List Value) → ((n : ℕ) → K (go n)) → K (on_one t go vs)
  with_one t go [] h = tt
  with_one t go (v ∷ []) h = on_some (number t v) go (λ n e. h n)
  with_one t go (v ∷ u ∷ vs) h = tt

  with_two : (t u : ValType) (go : ℕ → ℕ → Effect) (vs : List Value) → ((n m : ℕ) → K (go n m)) → K (on_two t u go vs)
  with_two t u go [] h = tt
  with_two t u go (a ∷ []) h = tt
  with_two t u go (a ∷ b ∷ []) h = on_some (number t a) (λ n. with_some (number u b) (go n)) (λ n e. on_some (number u b) (go n) (λ m f. h n m))
  with_two t u go (a ∷ b ∷ c ∷ vs) h = tt

  with_three : (go : ℕ → ℕ → ℕ → Effect) (vs : List Value) → ((n m j : ℕ) → K (go n m j)) → K (on_three go vs)
  with_three go [] h = tt
  with_three go (a ∷ []) h = tt
  with_three go (a ∷ b ∷ []) h = tt
  with_three go (a ∷ b ∷ c ∷ []) h =
      on_some (number I32 a) (λ n. with_some (number I32 b) (λ m. with_some (number I32 c) (go n m)))
      (λ n e. on_some (number I32 b) (λ m. with_some (number I32 c) (go n m)) (λ m f. on_some (number I32 c) (go n m) (λ j g. h n m j)))
  with_three go (a ∷ b ∷ c ∷ d ∷ vs) h = tt

  with_choice : (go : ℕ → Value → Value → Effect) (vs : List Value) → ((n : ℕ) (b a : Value) → K (go n b a)) → K (on_choice go vs)
  with_choice go [] h = tt
  with_choice go (c ∷ []) h = tt
  with_choice go (c ∷ b ∷ []) h = tt
  with_choice go (c ∷ b ∷ a ∷ []) h = on_some (number I32 c) (λ n. when (same_type (type_of a) (type_of b)) (go n b a)) (λ n e. on_test (same_type (type_of a) (type_of b)) (go n b a) (h n b a))
  with_choice go (c ∷ b ∷ a ∷ d ∷ vs) h = tt

  written_over : (o : Option Value) (v : Value) (e : Effect) → K e → K (over o v e)
  written_over None v e h = tt
  written_over (Some old) v e h = on_test (same_type (type_of old) (type_of v)) e h

  bounded : {A : Type 0} (o : Option A) (go : A → Effect) → MayFail k 4 → ((x : A) → o ≡ Some x → K (go x)) → K (in_bounds o go)
  bounded (Some x) go f h = h x refl
  bounded None go f h = f

  divided : (r : Result ℕ ArithTrap) (go : ℕ → Effect) → MayFail k 2 → MayFail k 3 → ((n : ℕ) → K (go n)) → K (divides r go)
  divided (Ok n) go by_zero too_big h = h n
  divided (Err DivideByZero) go by_zero too_big h = by_zero
  divided (Err Overflow) go by_zero too_big h = too_big

-- ---- each instruction

module _ (w : World) (ls : List Value) where
  number_read : (l : Loading) (offset : ℕ) (m : Memory) (a : ℕ) → Does Accessing w ls (in_bounds (load m (address a offset) (load_bits l / 8)) (λ n. gives w ls (value (load_type l) (loaded l n) ∷ [])))
  number_read l offset m a =
      bounded Accessing w ls (load m (address a offset) (load_bits l / 8)) (λ n. gives w ls (value (load_type l) (loaded l n) ∷ [])) refl (λ n e. (refl, inl refl))

  put_in : (m : Memory) (at : ℕ) (bytes : List ℕ) → w.memory ≡ Some m → Does Accessing w ls (in_bounds (put m at bytes) (λ m'. gives (with_memory w m') ls []))
  put_in m at bytes there = bounded Accessing w ls (put m at bytes) (λ m'. gives (with_memory w m') ls []) refl (λ m' e. (refl, inr (m, m', there, inl (at, bytes, e), refl)))

  copied_in : (m : Memory) (to from n : ℕ) → w.memory ≡ Some m → Does Accessing w ls (in_bounds (copy m to from n) (λ m'. gives (with_memory w m') ls []))
  copied_in m to from n there =
      bounded Accessing w ls (copy m to from n) (λ m'. gives (with_memory w m') ls []) refl (λ m' e. (refl, inr (m, m', there, inr (inl (to, from, n, e)), refl)))

  grown_by : (m : Memory) (n : ℕ) (o : Option Memory) (old : ℕ) → w.memory ≡ Some m → grow m n ≡ o → Does Accessing w ls (grown o w old ls)
  grown_by m n None old there e = (refl, inl refl)
  grown_by m n (Some m') old there e = (refl, inr (m, m', there, inr (inr (n, e)), refl))

  pub acts_as_class : (i : Basic) (vs : List Value) → Does (effect_class i) w ls (effect i w ls vs)
  acts_as_class Nop vs = with_none Pure w ls (gives w ls []) vs (refl, refl)
  acts_as_class Drop vs = with_any Pure w ls (λ v. gives w ls []) vs (λ v. (refl, refl))
  acts_as_class Select vs = with_choice Pure w ls (λ n b a. gives w ls ((if n == 0 then b else a) ∷ [])) vs (λ n b a. (refl, refl))
  acts_as_class (LocalGet x) vs =
      with_none Pure w ls (with_some (slice_get ls x) (λ v. gives w ls (v ∷ []))) vs (on_some Pure w ls (slice_get ls x) (λ v. gives w ls (v ∷ [])) (λ v e. (refl, refl)))
  acts_as_class (LocalSet x) vs =
      with_any (SetsLocal x) w ls (λ v. over (slice_get ls x) v (gives w (slice_set ls x v) [])) vs
      (λ v. written_over (SetsLocal x) w ls (slice_get ls x) v (gives w (slice_set ls x v) []) (refl, v, refl))
  acts_as_class (LocalTee x) vs =
      with_any (SetsLocal x) w ls (λ v. over (slice_get ls x) v (gives w (slice_set ls x v) (v ∷ []))) vs
      (λ v. written_over (SetsLocal x) w ls (slice_get ls x) v (gives w (slice_set ls x v) (v ∷ [])) (refl, v, refl))
  acts_as_class (GlobalGet x) vs =
      with_none Pure w ls (with_some (slice_get w.globals x) (λ v. gives w ls (v ∷ []))) vs (on_some Pure w ls (slice_get w.globals x) (λ v. gives w ls (v ∷ [])) (λ v e. (refl, refl)))
  acts_as_class (GlobalSet x) vs =
      let set : Value → Effect = λ v. gives (with_globals w (slice_set w.globals x v)) ls [] in
      with_any (SetsGlobal x) w ls (λ v. over (slice_get w.globals x) v (set v)) vs (λ v. written_over (SetsGlobal x) w ls (slice_get w.globals x) v (set v) (refl, v, refl))
  acts_as_class (Load l align offset) vs =
      let go : ℕ → Memory → Effect = λ a m. in_bounds (load m (address a offset) (load_bits l / 8)) (λ n. gives w ls (value (load_type l) (loaded l n) ∷ [])) in
      with_one Accessing w ls I32 (λ a. with_some w.memory (go a)) vs (λ a. on_some Accessing w ls w.memory (go a) (λ m e. number_read l offset m a))
  acts_as_class (Store l align offset) vs =
      let go : ℕ → ℕ → Memory → Effect = λ n a m. in_bounds (put m (address a offset) (to_bytes (store_bits l / 8) n)) (λ m'. gives (with_memory w m') ls []) in
      with_two Accessing w ls (store_type l) I32 (λ n a. with_some w.memory (go n a)) vs
      (λ n a. on_some Accessing w ls w.memory (go n a) (λ m e. put_in m (address a offset) (to_bytes (store_bits l / 8) n) e))
  acts_as_class MemorySize vs =
      let go : Memory → Effect = λ m. gives w ls (values.I32 (pages m) ∷ []) in
      with_none Pure w ls (with_some w.memory go) vs (on_some Pure w ls w.memory go (λ m e. (refl, refl)))
  acts_as_class MemoryGrow vs =
      let go : ℕ → Memory → Effect = λ n m. grown (grow m n) w (pages m) ls in
      with_one Accessing w ls I32 (λ n. with_some w.memory (go n)) vs (λ n. on_some Accessing w ls w.memory (go n) (λ m e. grown_by m n (grow m n) (pages m) e refl))
  acts_as_class MemoryCopy vs =
      let go : ℕ → ℕ → ℕ → Memory → Effect = λ n from to m. in_bounds (copy m (modulo I32 to) (modulo I32 from) (modulo I32 n)) (λ m'. gives (with_memory w m') ls []) in
      with_three Accessing w ls (λ n from to. with_some w.memory (go n from to)) vs
      (λ n from to. on_some Accessing w ls w.memory (go n from to) (λ m e. copied_in m (modulo I32 to) (modulo I32 from) (modulo I32 n) e))
  acts_as_class MemoryFill vs =
      let go : ℕ → ℕ → ℕ → Memory → Effect = λ n byte to m. in_bounds (fill m (modulo I32 to) (byte % 256) (modulo I32 n)) (λ m'. gives (with_memory w m') ls []) in
      with_three Accessing w ls (λ n byte to. with_some w.memory (go n byte to)) vs
      (λ n byte to. on_some Accessing w ls w.memory (go n byte to) (λ m e. put_in m (modulo I32 to) (replicate (modulo I32 n) (byte % 256)) e))
  acts_as_class (Const v) vs = with_none Pure w ls (gives w ls (v ∷ [])) vs (refl, refl)
  acts_as_class (Eqz t) vs = with_one Pure w ls t (λ a. gives w ls (values.I32 (bool_number (a == 0)) ∷ [])) vs (λ a. (refl, refl))
  acts_as_class (Unary t op) vs = with_one Pure w ls t (λ a. gives w ls (value t (unary t op a) ∷ [])) vs (λ a. (refl, refl))
  acts_as_class (Compare t op) vs = with_two Pure w ls t t (λ b a. gives w ls (values.I32 (bool_number (compare t op a b)) ∷ [])) vs (λ b a. (refl, refl))
  acts_as_class (Binary t op) vs =
      let result : ℕ → Effect = λ n. gives w ls (value t n ∷ []) in
      with_two Dividing w ls t t (λ b a. divides (binary t op a b) result) vs (λ b a. divided Dividing w ls (binary t op a b) result (inl refl) (inr refl) (λ n. (refl, refl)))
  acts_as_class (Convert c) vs = with_one Pure w ls (convert_from c) (λ a. gives w ls (value (convert_to c) (convert c a) ∷ [])) vs (λ a. (refl, refl))
  acts_as_class (Extend32 k) vs = with_one Pure w ls I32 (λ a. gives w ls (values.I32 (extend32 k a) ∷ [])) vs (λ a. (refl, refl))
  acts_as_class (Extend64 k) vs = with_one Pure w ls I64 (λ a. gives w ls (values.I64 (extend64 k a) ∷ [])) vs (λ a. (refl, refl))

-- ---- what its type asks for

writes : (g : Global) (b : Bool) (a : Arrow) → g.mutable ≡ b → only_if b (Some (g.vtype ∷ [] ⇒ [])) ≡ Some a → g.mutable ≡ true
writes g true a q e = q
writes g false a q e = absurd (cc)

pub asks : (c : Context) (t : ValType) (i : Basic) (a : Arrow) → arrow c t i ≡ Some a → Asks (effect_class i) c
asks c t (LocalSet x) a e = let f = map_found (slice_get c.locals x) (λ u. u ∷ [] ⇒ []) a e in (f.0, f.1)
asks c t (LocalTee x) a e = let f = map_found (slice_get c.locals x) (λ u. u ∷ [] ⇒ u ∷ []) a e in (f.0, f.1)
asks c t (GlobalSet x) a e = let f = then_found (slice_get c.module_.globals x) set_global a e in (f.0, f.1, writes f.0 f.0.mutable a refl f.2)
asks c t Nop a e = tt
asks c t Drop a e = tt
asks c t Select a e = tt
asks c t (LocalGet x) a e = tt
asks c t (GlobalGet x) a e = tt
asks c t (Load l align offset) a e = tt
asks c t (Store l align offset) a e = tt
asks c t MemorySize a e = tt
asks c t MemoryGrow a e = tt
asks c t MemoryCopy a e = tt
asks c t MemoryFill a e = tt
asks c t (Const v) a e = tt
asks c t (Eqz u) a e = tt
asks c t (Unary u op) a e = tt
asks c t (Compare u op) a e = tt
asks c t (Binary u op) a e = tt
asks c t (Convert k) a e = tt
asks c t (Extend32 k) a e = tt
asks c t (Extend64 k) a e = tt

-- ---- its type

pub arrow_is : (c : Context) (t : ValType) (i : Basic) → arrow c t i ≡ source_arrow c t (type_source i)
arrow_is c t Nop = refl
arrow_is c t Drop = refl
arrow_is c t Select = refl
arrow_is c t (LocalGet x) = refl
arrow_is c t (LocalSet x) = refl
arrow_is c t (LocalTee x) = refl
arrow_is c t (GlobalGet x) = refl
arrow_is c t (GlobalSet x) = refl
arrow_is c t (Load l align offset) = refl
arrow_is c t (Store s align offset) = refl
arrow_is c t MemorySize = refl
arrow_is c t MemoryGrow = refl
arrow_is c t MemoryCopy = refl
arrow_is c t MemoryFill = refl
arrow_is c t (Const v) = refl
arrow_is c t (Eqz u) = refl
arrow_is c t (Unary u op) = refl
arrow_is c t (Compare u op) = refl
arrow_is c t (Binary u op) = refl
arrow_is c t (Convert k) = refl
arrow_is c t (Extend32 k) = refl
arrow_is c t (Extend64 k) = refl

pub takes_is : (i : Basic) → takes i ≡ source_takes (type_source i)
takes_is Nop = refl
takes_is Drop = refl
takes_is Select = refl
takes_is (LocalGet x) = refl
takes_is (LocalSet x) = refl
takes_is (LocalTee x) = refl
takes_is (GlobalGet x) = refl
takes_is (GlobalSet x) = refl
takes_is (Load l align offset) = refl
takes_is (Store s align offset) = refl
takes_is MemorySize = refl
takes_is MemoryGrow = refl
takes_is MemoryCopy = refl
takes_is MemoryFill = refl
takes_is (Const v) = refl
takes_is (Eqz u) = refl
takes_is (Unary u op) = refl
takes_is (Compare u op) = refl
takes_is (Binary u op) = refl
takes_is (Convert k) = refl
takes_is (Extend32 k) = refl
takes_is (Extend64 k) = refl

-- what a type of this kind takes and gives
counted : (b a : Arrow) → b ≡ a → (length a.takes ≡ length b.takes) × (length a.gives ≡ length b.gives)
counted b a e = (ap (λ (y : Arrow). length y.takes) (sym e), ap (λ (y : Arrow). length y.gives) (sym e))

counts_of : (c : Context) (t : ValType) (k : TypeSource) (a : Arrow) → source_arrow c t k ≡ Some a → (length a.takes ≡ source_takes k) × (length a.gives ≡ source_gives k)
counts_of c t DropsAny a e = counted (t ∷ [] ⇒ []) a (some_is e)
counts_of c t SelectsAny a e = counted (I32 ∷ t ∷ t ∷ [] ⇒ t ∷ []) a (some_is e)
counts_of c t (FromLocal x) a e = let f = map_found (slice_get c.locals x) (λ u. [] ⇒ u ∷ []) a e in counted ([] ⇒ f.0 ∷ []) a f.2
counts_of c t (IntoLocal x) a e = let f = map_found (slice_get c.locals x) (λ u. u ∷ [] ⇒ []) a e in counted (f.0 ∷ [] ⇒ []) a f.2
counts_of c t (TeesLocal x) a e = let f = map_found (slice_get c.locals x) (λ u. u ∷ [] ⇒ u ∷ []) a e in counted (f.0 ∷ [] ⇒ f.0 ∷ []) a f.2
counts_of c t (FromGlobal x) a e = let f = map_found (slice_get c.module_.globals x) (λ g. [] ⇒ g.vtype ∷ []) a e in counted ([] ⇒ f.0.vtype ∷ []) a f.2
counts_of c t (IntoGlobal x) a e =
    let f = then_found (slice_get c.module_.globals x) set_global a e in
    counted (f.0.vtype ∷ [] ⇒ []) a (some_is (only_found f.0.mutable (Some (f.0.vtype ∷ [] ⇒ [])) a f.2))
counts_of c t (OverMemory fits ts given) a e =
    let b : Arrow = ts ⇒ option_to_list given in
    counted b a (some_is (only_found fits (Some b) a (any_found c.module_.memories (only_if fits (Some b)) a e)))
counts_of c t (OfItself ts given) a e = counted (ts ⇒ option_to_list given) a (some_is e)

pub counts : (c : Context) (t : ValType) (i : Basic) (a : Arrow) → arrow c t i ≡ Some a → (length a.takes ≡ takes i) × (length a.gives ≡ source_gives (type_source i))
counts c t i a e =
    let n = counts_of c t (type_source i) a (sym (arrow_is c t i) ∙ e) in
    (n.0 ∙ sym (takes_is i), n.1)

few : (given : Option ValType) → length (option_to_list given) ≤ 1
few None = omega arith
few (Some t) = omega arith

gives_few : (k : TypeSource) → source_gives k ≤ 1
gives_few DropsAny = omega arith
gives_few SelectsAny = omega arith
gives_few (FromLocal x) = omega arith
gives_few (IntoLocal x) = omega arith
gives_few (TeesLocal x) = omega arith
gives_few (FromGlobal x) = omega arith
gives_few (IntoGlobal x) = omega arith
gives_few (OverMemory fits ts given) = few given
gives_few (OfItself ts given) = few given

-- at most one value
pub gives_one : (c : Context) (t : ValType) (i : Basic) (a : Arrow) → arrow c t i ≡ Some a → length a.gives ≤ 1
gives_one c t i a e = omega (arith, (counts c t i a e).1, gives_few (type_source i))

-- and at most three operands
pub takes_three : (i : Basic) → takes i ≤ 3
takes_three Nop = omega arith
takes_three Drop = omega arith
takes_three Select = omega arith
takes_three (LocalGet x) = omega arith
takes_three (LocalSet x) = omega arith
takes_three (LocalTee x) = omega arith
takes_three (GlobalGet x) = omega arith
takes_three (GlobalSet x) = omega arith
takes_three (Load l align offset) = omega arith
takes_three (Store s align offset) = omega arith
takes_three MemorySize = omega arith
takes_three MemoryGrow = omega arith
takes_three MemoryCopy = omega arith
takes_three MemoryFill = omega arith
takes_three (Const v) = omega arith
takes_three (Eqz u) = omega arith
takes_three (Unary u op) = omega arith
takes_three (Compare u op) = omega arith
takes_three (Binary u op) = omega arith
takes_three (Convert k) = omega arith
takes_three (Extend32 k) = omega arith
takes_three (Extend64 k) = omega arith

-- ---- one number for another

-- it takes a number and gives one, and does nothing else
pub record Computes (i : Basic) : Type 0 where
  pub from : ValType
  pub to : ValType
  pub result : ℕ → ℕ
  pub effect_is : (w : World) (ls vs : List Value) → effect i w ls vs ≡ on_one from (λ a. gives w ls (value to (result a) ∷ [])) vs
  pub source_is : type_source i ≡ OfItself (from ∷ []) (Some to)

-- those, and all others by themselves
pub data OneByOne : Basic → Type 0 where
  computes : {i : Basic} → Computes i → OneByOne i
  is_nop : OneByOne Nop
  is_drop : OneByOne Drop
  is_select : OneByOne Select
  is_local_get : (x : ℕ) → OneByOne (LocalGet x)
  is_local_set : (x : ℕ) → OneByOne (LocalSet x)
  is_local_tee : (x : ℕ) → OneByOne (LocalTee x)
  is_global_get : (x : ℕ) → OneByOne (GlobalGet x)
  is_global_set : (x : ℕ) → OneByOne (GlobalSet x)
  is_load : (l : Loading) (align offset : ℕ) → OneByOne (Load l align offset)
  is_store : (s : Storing) (align offset : ℕ) → OneByOne (Store s align offset)
  is_size : OneByOne MemorySize
  is_grow : OneByOne MemoryGrow
  is_copy : OneByOne MemoryCopy
  is_fill : OneByOne MemoryFill
  is_const : (v : Value) → OneByOne (Const v)
  is_compare : (u : ValType) (op : Comparison) → OneByOne (Compare u op)
  is_binary : (u : ValType) (op : BinaryOp) → OneByOne (Binary u op)

pub one_by_one : (i : Basic) → OneByOne i
one_by_one (Eqz u) = computes (record { from = u; to = I32; result = λ a. bool_number (a == 0); effect_is = λ w ls vs. refl; source_is = refl })
one_by_one (Unary u op) = computes (record { from = u; to = u; result = unary u op; effect_is = λ w ls vs. refl; source_is = refl })
one_by_one (Convert k) = computes (record { from = convert_from k; to = convert_to k; result = convert k; effect_is = λ w ls vs. refl; source_is = refl })
one_by_one (Extend32 k) = computes (record { from = I32; to = I32; result = extend32 k; effect_is = λ w ls vs. refl; source_is = refl })
one_by_one (Extend64 k) = computes (record { from = I64; to = I64; result = extend64 k; effect_is = λ w ls vs. refl; source_is = refl })
one_by_one Nop = is_nop
one_by_one Drop = is_drop
one_by_one Select = is_select
one_by_one (LocalGet x) = is_local_get x
one_by_one (LocalSet x) = is_local_set x
one_by_one (LocalTee x) = is_local_tee x
one_by_one (GlobalGet x) = is_global_get x
one_by_one (GlobalSet x) = is_global_set x
one_by_one (Load l align offset) = is_load l align offset
one_by_one (Store s align offset) = is_store s align offset
one_by_one MemorySize = is_size
one_by_one MemoryGrow = is_grow
one_by_one MemoryCopy = is_copy
one_by_one MemoryFill = is_fill
one_by_one (Const v) = is_const v
one_by_one (Compare u op) = is_compare u op
one_by_one (Binary u op) = is_binary u op

-- ---- constant expressions

pub data Constant : Instr → Type 0 where
  holds_value : (v : Value) → Constant (instrs.Basic (Const v))
  reads_global : (x : ℕ) → Constant (instrs.Basic (GlobalGet x))
  not_constant : {i : Instr} → ((gs : List Value) → const_code gs i ≡ None) → ((gs : List Global) (t : ValType) → ConstTypes gs i t → ⊥) → Constant i

pub constant_of : (i : Instr) → Constant i
constant_of (instrs.Basic (Const v)) = holds_value v
constant_of (instrs.Basic (GlobalGet x)) = reads_global x
constant_of (instrs.Basic Nop) = not_constant (λ gs. refl) (λ gs t h. h)
constant_of (instrs.Basic Drop) = not_constant (λ gs. refl) (λ gs t h. h)
constant_of (instrs.Basic Select) = not_constant (λ gs. refl) (λ gs t h. h)
constant_of (instrs.Basic (LocalGet x)) = not_constant (λ gs. refl) (λ gs t h. h)
constant_of (instrs.Basic (LocalSet x)) = not_constant (λ gs. refl) (λ gs t h. h)
constant_of (instrs.Basic (LocalTee x)) = not_constant (λ gs. refl) (λ gs t h. h)
constant_of (instrs.Basic (GlobalSet x)) = not_constant (λ gs. refl) (λ gs t h. h)
constant_of (instrs.Basic (Load l align offset)) = not_constant (λ gs. refl) (λ gs t h. h)
constant_of (instrs.Basic (Store s align offset)) = not_constant (λ gs. refl) (λ gs t h. h)
constant_of (instrs.Basic MemorySize) = not_constant (λ gs. refl) (λ gs t h. h)
constant_of (instrs.Basic MemoryGrow) = not_constant (λ gs. refl) (λ gs t h. h)
constant_of (instrs.Basic MemoryCopy) = not_constant (λ gs. refl) (λ gs t h. h)
constant_of (instrs.Basic MemoryFill) = not_constant (λ gs. refl) (λ gs t h. h)
constant_of (instrs.Basic (Eqz u)) = not_constant (λ gs. refl) (λ gs t h. h)
constant_of (instrs.Basic (Unary u op)) = not_constant (λ gs. refl) (λ gs t h. h)
constant_of (instrs.Basic (Compare u op)) = not_constant (λ gs. refl) (λ gs t h. h)
constant_of (instrs.Basic (Binary u op)) = not_constant (λ gs. refl) (λ gs t h. h)
constant_of (instrs.Basic (Convert k)) = not_constant (λ gs. refl) (λ gs t h. h)
constant_of (instrs.Basic (Extend32 k)) = not_constant (λ gs. refl) (λ gs t h. h)
constant_of (instrs.Basic (Extend64 k)) = not_constant (λ gs. refl) (λ gs t h. h)
constant_of (instrs.Jump j) = not_constant (λ gs. refl) (λ gs t h. h)
constant_of (instrs.Block t) = not_constant (λ gs. refl) (λ gs t h. h)
constant_of (instrs.Loop t) = not_constant (λ gs. refl) (λ gs t h. h)
constant_of (instrs.If t) = not_constant (λ gs. refl) (λ gs t h. h)
constant_of instrs.Else = not_constant (λ gs. refl) (λ gs t h. h)
constant_of instrs.End = not_constant (λ gs. refl) (λ gs t h. h)
