-- No configuration that a well-typed program reaches is stuck, and each step leads to a fine one.
use Rattle.std.proofs.Common.{◌≡◌, ℕ, zero, suc, ◌/◌, ◌%◌, ◌==◌, Bool, true, false, List, [], ◌∷◌, ◌++◌, map, reverse, length, slice_get, slice_set, if◌then◌else◌, Option, Some, None, option_map, Result, Ok, Err, refl, sym, ap, ap₂, ◌∙◌, subst}
use Rattle.std.proofs.lemmas.List.{map-append, reverse-append}
use Rattle.wasm_syntax.specs.declared.value.ValType.{ValType}
use Rattle.wasm_syntax.specs.declared.value.ValType.TheVariants.{I32, I64}
use Rattle.wasm_syntax.specs.declared.value.Value.{Value}
use Rattle.wasm_syntax.specs.declared.value.Value.TheVariants as values
use Rattle.int_ops.specs.declared.operators.ArithTrap.{ArithTrap}
use Rattle.wasm_syntax.specs.declared.instruction.Basic.{Basic}
use Rattle.wasm_syntax.specs.declared.instruction.Basic.TheVariants.{Nop, Drop, Select, LocalGet, LocalSet, LocalTee, GlobalGet, GlobalSet, Load, Store, MemorySize, MemoryGrow, MemoryCopy, MemoryFill, Const, Compare, Binary}
use Rattle.wasm_syntax.specs.declared.parts.FuncType.{FuncType}
use Rattle.wasm_syntax.specs.declared.parts.Limits.{Limits}
use Rattle.wasm_syntax.specs.declared.parts.Global.{Global}
use Rattle.wasm_syntax.specs.Numbers.{modulo, type_of, types, same_type, value, number, binary}
use Rattle.linear_memory.specs.Memory.{Memory, pages, load, put, grow, copy, fill, to_bytes}
use Rattle.wasm_syntax.specs.Access.{load_type, load_bits, loaded, store_type, store_bits}
use Rattle.wasm_syntax.specs.Module.{type_at, same_types, option_then}
use Rattle.wasm_syntax.specs.declared.module.ModuleParts.{ModuleParts as Module}
use Rattle.wasm_syntax.specs.Host.{World}
use Rattle.wasm_syntax.specs.Effect.{Effect, gives, fails, unfit, effect, takes, with_memory, address}
use Rattle.wasm_syntax.specs.Effect as effects
use Rattle.wasm_syntax.specs.Machine.{parts, one_more, cut, zeros}
use Rattle.wasm_syntax.specs.Typing.{Context, Arrow, ◌⇒◌, arrow, set_global, only_if, if_any}
use Rattle.pm_text.proofs.Lists.{some_is}
use Rattle.wasm_syntax.proofs.Types.{any_found, only_found}
use Rattle.wasm_syntax.proofs.Classes.{counts}
use Rattle.wasm_syntax.proofs.Classes.{OneByOne, computes, is_nop, is_drop, is_select, is_local_get, is_local_set, is_local_tee, is_global_get, is_global_set, is_load, is_store, is_size, is_grow, is_copy, is_fill, is_const, is_compare, is_binary, one_by_one, arrow_is}
use Rattle.wasm_syntax.specs.calls.Classes.{source_arrow}

-- ---- values and lists of types

abbrev pub IsNil : List ValType → Type 0
IsNil [] = Unit {0}
IsNil (t ∷ ts) = ⊥

abbrev pub tail : List ValType → List ValType
tail [] = []
tail (t ∷ ts) = ts

abbrev pub head : List ValType → ValType
head [] = I32
head (t ∷ ts) = t

pub value_type : (t : ValType) (n : ℕ) → type_of (value t n) ≡ t
value_type I32 n = refl
value_type I64 n = refl

pub number_at : (t : ValType) (v : Value) → type_of v ≡ t → (n : ℕ) × (number t v ≡ Some n)
number_at I32 (values.I32 n) e = (n, refl)
number_at I32 (values.I64 n) e = absurd (cc)
number_at I64 (values.I32 n) e = absurd (cc)
number_at I64 (values.I64 n) e = (n, refl)

pub same_of : (t u : ValType) → t ≡ u → same_type t u ≡ true
same_of I32 I32 e = refl
same_of I32 I64 e = absurd (cc)
same_of I64 I32 e = absurd (cc)
same_of I64 I64 e = refl

pub types_of : (ts us : List ValType) → ts ≡ us → same_types ts us ≡ true
types_of ts us e = subst (λ z. same_types ts z ≡ true) e (self ts)
  where
    self : (ts : List ValType) → same_types ts ts ≡ true
    self [] = refl
    self (I32 ∷ ts) = self ts
    self (I64 ∷ ts) = self ts

pub types_append : (vs ws : List Value) → types (vs ++ ws) ≡ types vs ++ types ws
types_append vs ws = map-append type_of vs ws

pub zero_types : (ts : List ValType) → types (zeros ts) ≡ ts
zero_types [] = refl
zero_types (t ∷ ts) = ap₂ (λ a b. a ∷ b) (value_type t 0) (zero_types ts)

pub types_reverse : (vs : List Value) → types (reverse vs) ≡ reverse (types vs)
types_reverse [] = refl
types_reverse (v ∷ vs) = ap types (reverse-append (v ∷ []) vs) ∙ types_append (reverse vs) (v ∷ []) ∙ ap (λ x. x ++ type_of v ∷ []) (types_reverse vs) ∙ sym (reverse-append (type_of v ∷ []) (types vs))

-- the first ones have these types
pub record Cuts (ts below : List ValType) (vs : List Value) : Type 0 where
  pub taken : List Value
  pub rest : List Value
  pub cut_is : cut (length ts) vs ≡ parts taken rest
  pub taken_types : types taken ≡ ts
  pub rest_types : types rest ≡ below

pub cuts : (ts below : List ValType) (vs : List Value) → types vs ≡ ts ++ below → Cuts ts below vs
cuts [] below vs e = record { taken = []; rest = vs; cut_is = refl; taken_types = refl; rest_types = e }
cuts (t ∷ ts) below [] e = absurd (subst IsNil e tt)
cuts (t ∷ ts) below (v ∷ vs) e =
    let r = cuts ts below vs (ap tail e) in
    record { taken = v ∷ r.taken; rest = r.rest; cut_is = ap (one_more v) r.cut_is; taken_types = ap₂ (λ a b. a ∷ b) (ap head e) r.taken_types; rest_types = r.rest_types }

pub get_type : (ls : List Value) (x : ℕ) (t : ValType) → slice_get (types ls) x ≡ Some t → (v : Value) × (slice_get ls x ≡ Some v) × (type_of v ≡ t)
get_type [] x t e = absurd (cc)
get_type (v ∷ ls) zero t e = (v, refl, some_is e)
get_type (v ∷ ls) (suc x) t e = get_type ls x t e

set_types : (ls : List Value) (x : ℕ) (v old : Value) → slice_get ls x ≡ Some old → type_of v ≡ type_of old → types (slice_set ls x v) ≡ types ls
set_types [] x v old e t = absurd (cc)
set_types (w ∷ ls) zero v old e t = ap (λ u. u ∷ types ls) (t ∙ ap type_of (sym (some_is e)))
set_types (w ∷ ls) (suc x) v old e t = ap (λ us. type_of w ∷ us) (set_types ls x v old e t)

-- ---- what is outside the frames

abbrev pub HasMemory : List Limits → Option Memory → Type 0
HasMemory [] o = o ≡ None
HasMemory (l ∷ ls) None = ⊥
HasMemory (l ∷ ls) (Some m) = Unit {0}

pub record WorldFine (m : Module) (w : World) : Type 0 where
  pub globals : types w.globals ≡ map (λ g. g.vtype) m.globals
  pub memory : HasMemory m.memories w.memory
  pub table : (i g : ℕ) → slice_get w.table i ≡ Some (Some g) → (type : FuncType) × (type_at m g ≡ Some type)

abbrev pub EffectFine : Context → List ValType → Effect → Type 0
EffectFine c after (gives w ls vs) = WorldFine c.module_ w × (types ls ≡ c.locals) × (types vs ≡ after)
EffectFine c after (fails kind) = Unit {0}
EffectFine c after unfit = ⊥

pub memory_stays : (l : List Limits) (k : Option Memory) (m m' : Memory) → k ≡ Some m → HasMemory l k → HasMemory l (Some m')
memory_stays [] k m m' e h = absurd (cc)
memory_stays (l ∷ ls) k m m' e h = tt

-- ---- an instruction on operands of its arrow's types

module _ (c : Context) (after : List ValType) where
  none_fine : (e : Effect) (vs : List Value) → types vs ≡ [] → EffectFine c after e → EffectFine c after (effects.on_none e vs)
  none_fine e [] t h = h
  none_fine e (v ∷ vs) t h = absurd (subst IsNil (sym t) tt)

  some_fine : {A : Type 0} (o : Option A) (x : A) (go : A → Effect) → o ≡ Some x → EffectFine c after (go x) → EffectFine c after (effects.with_some o go)
  some_fine None x go e h = absurd (cc)
  some_fine (Some y) x go e h = subst (λ z. EffectFine c after (go z)) (sym (some_is e)) h

  any_fine : (t : ValType) (go : Value → Effect) (vs : List Value) → types vs ≡ t ∷ [] → ((v : Value) → type_of v ≡ t → EffectFine c after (go v)) → EffectFine c after (effects.on_any go vs)
  any_fine t go [] e h = absurd (subst IsNil e tt)
  any_fine t go (v ∷ []) e h = h v (ap head e)
  any_fine t go (v ∷ w ∷ vs) e h = absurd (subst IsNil (sym (ap tail e)) tt)

  one_fine : (t : ValType) (go : ℕ → Effect) (vs : List Value) → types vs ≡ t ∷ [] → ((n : ℕ) → EffectFine c after (go n)) → EffectFine c after (effects.on_one t go vs)
  one_fine t go [] e h = absurd (subst IsNil e tt)
  one_fine t go (v ∷ []) e h = let n = number_at t v (ap head e) in some_fine (number t v) n.0 go n.1 (h n.0)
  one_fine t go (v ∷ w ∷ vs) e h = absurd (subst IsNil (sym (ap tail e)) tt)

  two_fine : (t u : ValType) (go : ℕ → ℕ → Effect) (vs : List Value) → types vs ≡ t ∷ u ∷ [] → ((n k : ℕ) → EffectFine c after (go n k)) → EffectFine c after (effects.on_two t u go vs)
  two_fine t u go [] e h = absurd (subst IsNil e tt)
  two_fine t u go (v ∷ []) e h = absurd (subst IsNil (ap tail e) tt)
  two_fine t u go (v ∷ w ∷ []) e h =
      let n = number_at t v (ap head e) in let k = number_at u w (ap head (ap tail e)) in
      some_fine (number t v) n.0 (λ n. effects.with_some (number u w) (go n)) n.1 (some_fine (number u w) k.0 (go n.0) k.1 (h n.0 k.0))
  two_fine t u go (v ∷ w ∷ x ∷ vs) e h = absurd (subst IsNil (sym (ap tail (ap tail e))) tt)

  three_fine : (go : ℕ → ℕ → ℕ → Effect) (vs : List Value) → types vs ≡ I32 ∷ I32 ∷ I32 ∷ [] → ((n k l : ℕ) → EffectFine c after (go n k l)) → EffectFine c after (effects.on_three go vs)
  three_fine go [] e h = absurd (subst IsNil e tt)
  three_fine go (x ∷ []) e h = absurd (subst IsNil (ap tail e) tt)
  three_fine go (x ∷ y ∷ []) e h = absurd (subst IsNil (ap tail (ap tail e)) tt)
  three_fine go (x ∷ y ∷ z ∷ []) e h =
      let a = number_at I32 x (ap head e) in let b = number_at I32 y (ap head (ap tail e)) in let d = number_at I32 z (ap head (ap tail (ap tail e))) in
      some_fine (number I32 x) a.0 (λ a. effects.with_some (number I32 y) (λ b. effects.with_some (number I32 z) (go a b))) a.1
      (some_fine (number I32 y) b.0 (λ b. effects.with_some (number I32 z) (go a.0 b)) b.1 (some_fine (number I32 z) d.0 (go a.0 b.0) d.1 (h a.0 b.0 d.0)))
  three_fine go (x ∷ y ∷ z ∷ v ∷ vs) e h = absurd (subst IsNil (sym (ap tail (ap tail (ap tail e)))) tt)

  when_fine : (q : Bool) (e : Effect) → q ≡ true → EffectFine c after e → EffectFine c after (effects.when q e)
  when_fine true e t h = h
  when_fine false e t h = absurd (cc)

  choice_fine : (t : ValType) (go : ℕ → Value → Value → Effect) (vs : List Value) → types vs ≡ I32 ∷ t ∷ t ∷ [] → ((n : ℕ) (b a : Value) → type_of b ≡ t → type_of a ≡ t → EffectFine c after (go n b a)) → EffectFine c after (effects.on_choice go vs)
  choice_fine t go [] e h = absurd (subst IsNil e tt)
  choice_fine t go (x ∷ []) e h = absurd (subst IsNil (ap tail e) tt)
  choice_fine t go (x ∷ b ∷ []) e h = absurd (subst IsNil (ap tail (ap tail e)) tt)
  choice_fine t go (x ∷ b ∷ a ∷ []) e h =
      let n = number_at I32 x (ap head e) in
      let tb : type_of b ≡ t = ap head (ap tail e) in let ta : type_of a ≡ t = ap head (ap tail (ap tail e)) in
      some_fine (number I32 x) n.0 (λ n. effects.when (same_type (type_of a) (type_of b)) (go n b a)) n.1 (when_fine (same_type (type_of a) (type_of b)) (go n.0 b a) (same_of (type_of a) (type_of b) (ta ∙ sym tb)) (h n.0 b a tb ta))
  choice_fine t go (x ∷ b ∷ a ∷ y ∷ vs) e h = absurd (subst IsNil (sym (ap tail (ap tail (ap tail e)))) tt)

  over_fine : (o : Option Value) (old v : Value) (e : Effect) → o ≡ Some old → type_of old ≡ type_of v → EffectFine c after e → EffectFine c after (effects.over o v e)
  over_fine None old v e x t h = absurd (cc)
  over_fine (Some w) old v e x t h = when_fine (same_type (type_of w) (type_of v)) e (same_of (type_of w) (type_of v) (ap type_of (some_is x) ∙ t)) h

  bounds_fine : {A : Type 0} (o : Option A) (go : A → Effect) → ((x : A) → EffectFine c after (go x)) → EffectFine c after (effects.in_bounds o go)
  bounds_fine None go h = tt
  bounds_fine (Some x) go h = h x

  divides_fine : (r : Result ℕ ArithTrap) (go : ℕ → Effect) → ((n : ℕ) → EffectFine c after (go n)) → EffectFine c after (effects.divides r go)
  divides_fine (Ok n) go h = h n
  divides_fine (Err trap) go h = tt

found : {A : Type 0} (o : Option A) (f : A → Arrow) (a : Arrow) → option_map f o ≡ Some a → (x : A) × (o ≡ Some x) × (f x ≡ a)
found None f a e = absurd (cc)
found (Some x) f a e = (x, refl, some_is e)

found_then : {A : Type 0} (o : Option A) (f : A → Option Arrow) (a : Arrow) → option_then o f ≡ Some a → (x : A) × (o ≡ Some x) × (f x ≡ Some a)
found_then None f a e = absurd (cc)
found_then (Some x) f a e = (x, refl, e)

memory_of_limits : (ls : List Limits) (k : Option Memory) (a : Arrow) (o : Option Arrow) → if_any ls o ≡ Some a → HasMemory ls k → (m : Memory) × (k ≡ Some m)
memory_of_limits [] k a o e h = absurd (cc)
memory_of_limits (l ∷ ls) None a o e h = absurd h
memory_of_limits (l ∷ ls) (Some m) a o e h = (m, refl)

choice_type : (q : Bool) (b a : Value) (t : ValType) → type_of b ≡ t → type_of a ≡ t → type_of (if q then b else a) ≡ t
choice_type true b a t e f = e
choice_type false b a t e f = f

module _ (c : Context) (w : World) (ls vs : List Value) (wf : WorldFine c.module_ w) (lf : types ls ≡ c.locals) where
  -- what it says of an arrow with these lists
  abbrev Fits : Basic → List ValType → List ValType → Type 0
  Fits i before after = types vs ≡ before → EffectFine c after (effect i w ls vs)

  one_type : (t : ValType) (n : ℕ) → types (value t n ∷ []) ≡ t ∷ []
  one_type t n = ap (λ u. u ∷ []) (value_type t n)

  abbrev IsArrow : Arrow → List ValType → List ValType → Type 0
  IsArrow a before after = (a.takes ≡ before) × (a.gives ≡ after)

  by_arrow : (i : Basic) (a : Arrow) (before after : List ValType) → (before ⇒ after) ≡ a → Fits i before after → types vs ≡ a.takes → EffectFine c a.gives (effect i w ls vs)
  by_arrow i a before after e h t = subst (λ z. types vs ≡ z.takes → EffectFine c z.gives (effect i w ls vs)) e h t

  local_at : (x : ℕ) (u : ValType) → slice_get c.locals x ≡ Some u → (v : Value) × (slice_get ls x ≡ Some v) × (type_of v ≡ u)
  local_at x u e = get_type ls x u (ap (λ z. slice_get z x) lf ∙ e)

  global_type : (gs : List Global) (x : ℕ) (g : Global) → slice_get gs x ≡ Some g → slice_get (map (λ g. g.vtype) gs) x ≡ Some g.vtype
  global_type [] x g e = absurd (cc)
  global_type (h ∷ gs) zero g e = ap (λ z. Some z.vtype) (some_is e)
  global_type (h ∷ gs) (suc x) g e = global_type gs x g e

  global_at : (x : ℕ) (g : Global) → slice_get c.module_.globals x ≡ Some g → (v : Value) × (slice_get w.globals x ≡ Some v) × (type_of v ≡ g.vtype)
  global_at x g e = get_type w.globals x g.vtype (ap (λ z. slice_get z x) wf.globals ∙ global_type c.module_.globals x g e)

  set_found : (g : Global) (q : Bool) (a : Arrow) → only_if q (Some (g.vtype ∷ [] ⇒ [])) ≡ Some a → (g.vtype ∷ [] ⇒ []) ≡ a
  set_found g q a e = some_is (only_found q (Some (g.vtype ∷ [] ⇒ [])) a e)

  with_put : (k k' : Memory) → w.memory ≡ Some k → WorldFine c.module_ (with_memory w k')
  with_put k k' e = record { globals = wf.globals; memory = memory_stays c.module_.memories w.memory k k' e wf.memory; table = wf.table }

  grown_fine : (o : Option Memory) (k : Memory) (old : ℕ) → w.memory ≡ Some k → EffectFine c (I32 ∷ []) (effects.grown o w old ls)
  grown_fine None k old e = (wf, lf, refl)
  grown_fine (Some k') k old e = (with_put k k' e, lf, refl)

  fine_as : (i : Basic) → OneByOne i → (t : ValType) (a : Arrow) → arrow c t i ≡ Some a → types vs ≡ a.takes → EffectFine c a.gives (effect i w ls vs)
  fine_as i is_nop t a e = by_arrow Nop a [] [] (some_is e) (λ h. none_fine c [] _ vs h (wf, lf, refl))
  fine_as i is_drop t a e = by_arrow Drop a (t ∷ []) [] (some_is e) (λ h. any_fine c [] t _ vs h (λ v tv. (wf, lf, refl)))
  fine_as i is_select t a e = by_arrow Select a (I32 ∷ t ∷ t ∷ []) (t ∷ []) (some_is e) (λ h. choice_fine c (t ∷ []) t _ vs h (λ n b x tb ta. (wf, lf, ap (λ u. u ∷ []) (choice_type (n == 0) b x t tb ta))))
  fine_as i (is_local_get x) t a e =
      let u = found (slice_get c.locals x) _ a e in let v = local_at x u.0 u.1 in
      by_arrow (LocalGet x) a [] (u.0 ∷ []) u.2 (λ h. none_fine c (u.0 ∷ []) _ vs h (some_fine c (u.0 ∷ []) (slice_get ls x) v.0 _ v.1 (wf, lf, ap (λ u. u ∷ []) v.2)))
  fine_as i (is_local_set x) t a e =
      let u = found (slice_get c.locals x) _ a e in let v = local_at x u.0 u.1 in
      by_arrow (LocalSet x) a (u.0 ∷ []) [] u.2 (λ h. any_fine c [] u.0 _ vs h (λ n tn. over_fine c [] (slice_get ls x) v.0 n _ v.1 (v.2 ∙ sym tn) (wf, set_types ls x n v.0 v.1 (tn ∙ sym v.2) ∙ lf, refl)))
  fine_as i (is_local_tee x) t a e =
      let u = found (slice_get c.locals x) _ a e in let v = local_at x u.0 u.1 in
      by_arrow (LocalTee x) a (u.0 ∷ []) (u.0 ∷ []) u.2 (λ h. any_fine c (u.0 ∷ []) u.0 _ vs h (λ n tn. over_fine c (u.0 ∷ []) (slice_get ls x) v.0 n _ v.1 (v.2 ∙ sym tn) (wf, set_types ls x n v.0 v.1 (tn ∙ sym v.2) ∙ lf, ap (λ u. u ∷ []) tn)))
  fine_as i (is_global_get x) t a e =
      let u = found (slice_get c.module_.globals x) _ a e in let v = global_at x u.0 u.1 in
      by_arrow (GlobalGet x) a [] (u.0.vtype ∷ []) u.2 (λ h. none_fine c (u.0.vtype ∷ []) _ vs h (some_fine c (u.0.vtype ∷ []) (slice_get w.globals x) v.0 _ v.1 (wf, lf, ap (λ u. u ∷ []) v.2)))
  fine_as i (is_global_set x) t a e =
      let u = found_then (slice_get c.module_.globals x) set_global a e in let v = global_at x u.0 u.1 in
      by_arrow (GlobalSet x) a (u.0.vtype ∷ []) [] (set_found u.0 u.0.mutable a u.2) (λ h. any_fine c [] u.0.vtype _ vs h (λ n tn. over_fine c [] (slice_get w.globals x) v.0 n _ v.1 (v.2 ∙ sym tn) (record { globals = set_types w.globals x n v.0 v.1 (tn ∙ sym v.2) ∙ wf.globals; memory = wf.memory; table = wf.table }, lf, refl)))
  fine_as i (is_load l al o) t a e =
      let m = memory_of_limits c.module_.memories w.memory a _ e wf.memory in
      by_arrow (Load l al o) a (I32 ∷ []) (load_type l ∷ []) (some_is (only_found _ _ a (any_found c.module_.memories _ a e))) (λ h. one_fine c (load_type l ∷ []) I32 _ vs h (λ n. some_fine c (load_type l ∷ []) w.memory m.0 _ m.1 (bounds_fine c (load_type l ∷ []) (load m.0 (address n o) (load_bits l / 8)) _ (λ k. (wf, lf, one_type (load_type l) (loaded l k))))))
  fine_as i (is_store l al o) t a e =
      let m = memory_of_limits c.module_.memories w.memory a _ e wf.memory in
      by_arrow (Store l al o) a (store_type l ∷ I32 ∷ []) [] (some_is (only_found _ _ a (any_found c.module_.memories _ a e))) (λ h. two_fine c [] (store_type l) I32 _ vs h (λ n k. some_fine c [] w.memory m.0 _ m.1 (bounds_fine c [] (put m.0 (address k o) (to_bytes (store_bits l / 8) n)) _ (λ k'. (with_put m.0 k' m.1, lf, refl)))))
  fine_as i is_size t a e =
      let m = memory_of_limits c.module_.memories w.memory a _ e wf.memory in
      by_arrow MemorySize a [] (I32 ∷ []) (some_is (any_found c.module_.memories _ a e)) (λ h. none_fine c (I32 ∷ []) _ vs h (some_fine c (I32 ∷ []) w.memory m.0 _ m.1 (wf, lf, refl)))
  fine_as i is_grow t a e =
      let m = memory_of_limits c.module_.memories w.memory a _ e wf.memory in
      by_arrow MemoryGrow a (I32 ∷ []) (I32 ∷ []) (some_is (any_found c.module_.memories _ a e)) (λ h. one_fine c (I32 ∷ []) I32 _ vs h (λ n. some_fine c (I32 ∷ []) w.memory m.0 (λ m. effects.grown (grow m n) w (pages m) ls) m.1 (grown_fine (grow m.0 n) m.0 (pages m.0) m.1)))
  fine_as i is_copy t a e =
      let m = memory_of_limits c.module_.memories w.memory a _ e wf.memory in
      by_arrow MemoryCopy a (I32 ∷ I32 ∷ I32 ∷ []) [] (some_is (any_found c.module_.memories _ a e)) (λ h. three_fine c [] _ vs h (λ n k l. some_fine c [] w.memory m.0 _ m.1 (bounds_fine c [] (copy m.0 (modulo I32 l) (modulo I32 k) (modulo I32 n)) _ (λ k'. (with_put m.0 k' m.1, lf, refl)))))
  fine_as i is_fill t a e =
      let m = memory_of_limits c.module_.memories w.memory a _ e wf.memory in
      by_arrow MemoryFill a (I32 ∷ I32 ∷ I32 ∷ []) [] (some_is (any_found c.module_.memories _ a e)) (λ h. three_fine c [] _ vs h (λ n k l. some_fine c [] w.memory m.0 _ m.1 (bounds_fine c [] (fill m.0 (modulo I32 l) (k % 256) (modulo I32 n)) _ (λ k'. (with_put m.0 k' m.1, lf, refl)))))
  fine_as i (is_const v) t a e = by_arrow (Const v) a [] (type_of v ∷ []) (some_is e) (λ h. none_fine c (type_of v ∷ []) _ vs h (wf, lf, refl))
  fine_as i (is_compare u op) t a e = by_arrow (Compare u op) a (u ∷ u ∷ []) (I32 ∷ []) (some_is e) (λ h. two_fine c (I32 ∷ []) u u _ vs h (λ n k. (wf, lf, refl)))
  fine_as i (is_binary u op) t a e = by_arrow (Binary u op) a (u ∷ u ∷ []) (u ∷ []) (some_is e) (λ h. two_fine c (u ∷ []) u u _ vs h (λ n k. divides_fine c (u ∷ []) (binary u op k n) _ (λ x. (wf, lf, one_type u x))))
  fine_as i (computes o) t a e =
      let is : (o.from ∷ [] ⇒ o.to ∷ []) ≡ a = some_is (sym (ap (source_arrow c t) o.source_is) ∙ sym (arrow_is c t i) ∙ e) in
      by_arrow i a (o.from ∷ []) (o.to ∷ []) is
      (λ h. subst (EffectFine c (o.to ∷ [])) (sym (o.effect_is w ls vs)) (one_fine c (o.to ∷ []) o.from (λ n. gives w ls (value o.to (o.result n) ∷ [])) vs h (λ n. (wf, lf, one_type o.to (o.result n)))))

  pub effect_fine : (i : Basic) (t : ValType) (a : Arrow) → arrow c t i ≡ Some a → types vs ≡ a.takes → EffectFine c a.gives (effect i w ls vs)
  effect_fine i t a e = fine_as i (one_by_one i) t a e

-- as many operands as the arrow takes
pub takes_len : (c : Context) (i : Basic) (t : ValType) (a : Arrow) → arrow c t i ≡ Some a → length a.takes ≡ takes i
takes_len c i t a e = (counts c t i a e).0
