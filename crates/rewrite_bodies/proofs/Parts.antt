-- Lemmas on single parts: a basic instruction under more locals and globals, results that arrive.
use Rattle.std.proofs.Common.{◌≡◌, ℕ, zero, suc, ◌+◌, ◌*◌, ◌/◌, ◌%◌, ◌≤◌, ◌==◌, List, [], ◌∷◌, ◌++◌, length, Option, Some, None, Bool, true, false, nat_le, refl, sym, ap, ◌∙◌, subst, arith, length-append, slice_get, slice_set, if◌then◌else◌, replicate, Result, Ok, Err, leb-true, subst₂}
use Rattle.wasm_syntax.specs.declared.value.ValType.{ValType}
use Rattle.wasm_syntax.specs.declared.value.ValType.TheVariants.{I32}
use Rattle.wasm_syntax.specs.declared.value.Value.{Value}
use Rattle.wasm_syntax.specs.declared.value.Value.TheVariants as values
use Rattle.wasm_syntax.specs.declared.instruction.Basic.{Basic}
use Rattle.wasm_syntax.specs.declared.instruction.Basic.TheVariants.{Select}
use Rattle.wasm_syntax.specs.Numbers.{type_of, types, same_type, value, number, modulo, binary}
use Rattle.wasm_syntax.specs.Tree.{Nodes, basic}
use Rattle.wasm_syntax.specs.Host.{World}
use Rattle.wasm_syntax.specs.declared.host.CollectorCall.{CollectorCall}
use Rattle.wasm_syntax.specs.Effect.{Effect, gives, fails, unfit, effect, takes, with_globals, address}
use Rattle.wasm_syntax.specs.Machine.{Label, label, Engine, parts, one_more, cut, exactly}
use Rattle.rewrite_bodies.specs.calls.Slots.{Place, Spilled, Known, Copied, place_type, Ctx, slot, kind_at, offset_at, added, grown, second_type, result_type}
use Rattle.rewrite_bodies.specs.calls.Guards.{divides, can_trap}
use Rattle.rewrite_bodies.specs.Numbering.{global_types}
use Rattle.linear_memory.specs.Memory.{Memory, pages, grow, to_bytes}
use Rattle.wasm_syntax.specs.Access.{load_type, load_bits, store_type, store_bits}
use Rattle.linear_memory.specs.Memory as memories
use Rattle.wasm_syntax.specs.Effect as effects
use Rattle.int_ops.specs.declared.operators.ArithTrap.{ArithTrap}
use Rattle.int_ops.specs.declared.operators.ArithTrap.TheVariants.{DivideByZero, Overflow}
use Rattle.int_ops.specs.declared.operators.Binary.{Binary as BinaryOp}
use Rattle.int_ops.specs.declared.operators.Binary.TheVariants.{Add, Sub, Mul, DivS, DivU, RemS, RemU, And, Or, Xor, Shl, ShrS, ShrU, Rotl, Rotr}
use Rattle.std.proofs.lemmas.List.{length-replicate}
use Rattle.std.proofs.Math.Nat.{mul-div_cancel_left}
use Rattle.rewrite_bodies.specs.calls.Agreement.{One, Holds, awaits, pending, joined, FitsLabels, MemoryFits, WorldFits, with_added}
use Rattle.rewrite_bodies.specs.calls.Known.{HasLeast}
use Rattle.rewrite_bodies.proofs.Longer.{least_longer, put_fits, put_longer, copy_longer, grow_longer}
use Rattle.rewrite_bodies.specs.calls.Steps.{To, Shell, st}
use Rattle.rewrite_bodies.proofs.Run.{stored, HasPlace, if_same, slice_get-put_same, types-slice_set, added_at, Clear, clear_less, clear_slot, clear_kind, clear_offset, more_parts, one_step, holds_put, get_own}
use Rattle.int_ops.specs.Integers.{binary as int_binary}
use Rattle.wasm_laws.proofs.Progress.{value_type, same_of}
use Rattle.wasm_syntax.proofs.Types.{same_type_is}
use Rattle.wasm_syntax.proofs.Classes.{OneByOne, computes, is_nop, is_drop, is_select, is_local_get, is_local_set, is_local_tee, is_global_get, is_global_set, is_load, is_store, is_size, is_grow, is_copy, is_fill, is_const, is_compare, is_binary, one_by_one}
use Rattle.rewrite_bodies.proofs.Risks.{never_traps, result_by, result_typed}

pub set-append_left : (l ex : List Value) (x : ℕ) (v w : Value) → slice_get l x ≡ Some w → slice_set (l ++ ex) x v ≡ slice_set l x v ++ ex
set-append_left [] ex x v w e = absurd (cc)
set-append_left (u ∷ l) ex zero v w e = refl
set-append_left (u ∷ l) ex (suc x) v w e = ap (λ r. u ∷ r) (set-append_left l ex x v w e)

pub types_get : (l : List Value) (x : ℕ) (v : Value) → slice_get l x ≡ Some v → slice_get (types l) x ≡ Some (type_of v)
types_get [] x v e = absurd (cc)
types_get (w ∷ l) zero v e = cc
types_get (w ∷ l) (suc x) v e = types_get l x v e

-- the operands have the types of their places
abbrev pub Match : List Value → List Place → Type 0
Match [] es = Unit {0}
Match (v ∷ vs) [] = ⊥
Match (v ∷ vs) (e ∷ es) = (type_of v ≡ place_type e) × Match vs es

one_result : (v : Value) (t : ValType) → type_of v ≡ t → exactly (Some t) (v ∷ []) ≡ Some (v ∷ [])
one_result v t d = rw (same_of (type_of v) t d) refl

-- ---- the memory keeps whole pages

leb_cases : (a b : ℕ) (q : Bool) → nat_le a b ≡ q → (q ≡ true) → a ≤ b
leb_cases a b q e t = leb-true a b (e ∙ t)

pub put_keeps : (m m' : Memory) (at : ℕ) (new : List ℕ) → memories.put m at new ≡ Some m' → MemoryFits (Some m) → MemoryFits (Some m')
put_keeps m m' at new e h =
    let p = put_fits m m' at new (nat_le (at + length new) (length m.bytes)) refl e in
    (h.0, p.0 ∙ h.1, h.2, omega (arith, p.1, h.3))

copy_fits : (m m' : Memory) (to from n : ℕ) (q : Bool) → (if q then memories.put m to (memories.window m.bytes from n) else None) ≡ Some m' → MemoryFits (Some m) → MemoryFits (Some m')
copy_fits m m' to from n true e h = put_keeps m m' to (memories.window m.bytes from n) e h
copy_fits m m' to from n false e h = absurd (cc)

copy_keeps : (m m' : Memory) (to from n : ℕ) → memories.copy m to from n ≡ Some m' → MemoryFits (Some m) → MemoryFits (Some m')
copy_keeps m m' to from n e h = copy_fits m m' to from n (nat_le (from + n) (length m.bytes)) e h

pub pages_are : (m : Memory) (h : MemoryFits (Some m)) → pages m ≡ h.0
pages_are m h = ap (λ n. n / 65536) h.1 ∙ mul-div_cancel_left h.0 (omega arith)

grow_fits : (m m' : Memory) (n : ℕ) (q : Bool) (h : MemoryFits (Some m)) → nat_le (pages m + n) m.max ≡ q → (if q then Some (record m { bytes = m.bytes ++ replicate (65536 * n) 0 }) else None) ≡ Some m' → MemoryFits (Some m')
grow_fits m m' n true h q e =
    let z : record m { bytes = m.bytes ++ replicate (65536 * n) 0 } ≡ m' = cc in
    let le : pages m + n ≤ m.max = leb-true (pages m + n) m.max q in
    let pg = pages_are m h in
    let ln : length (m.bytes ++ replicate (65536 * n) 0) ≡ 65536 * (h.0 + n) = omega (arith, h.1, length-append m.bytes (replicate (65536 * n) 0), length-replicate {A = ℕ} (65536 * n) 0) in
    (h.0 + n, ap (λ k. length k.bytes) (sym z) ∙ ln, omega (arith, le, pg, h.3), omega (arith, ap (λ k. k.max) (sym z), h.3))
grow_fits m m' n false h q e = cc

pub grow_keeps : (m m' : Memory) (n : ℕ) → grow m n ≡ Some m' → MemoryFits (Some m) → MemoryFits (Some m')
grow_keeps m m' n e h = grow_fits m m' n (nat_le (pages m + n) m.max) h refl e

-- ---- an instruction does the same where more locals and globals stand behind those that it knows

module _ (M : Engine) (gl : List ValType) (r : Option ValType) (can : Bool) (l ex : List Value) (bs : List Value) where
  abbrev pub Rel : Effect → Effect → Type 0
  Rel (gives g' l' ws) e' = (e' ≡ gives (with_added M g' bs) (l' ++ ex) ws) × (types l' ≡ types l) × WorldFits M gl g' × (exactly r ws ≡ Some ws)
  Rel (fails k) e' = (can ≡ true) × (j : ℕ) × (k ≡ suc j)
  Rel unfit e' = Unit {0}

  rel_none : (e e' : Effect) (vs : List Value) → Rel e e' → Rel (effects.on_none e vs) (effects.on_none e' vs)
  rel_none e e' [] h = h
  rel_none e e' (_ ∷ _) h = tt

  rel_any : (go go' : Value → Effect) (vs : List Value) → ((v : Value) → Rel (go v) (go' v)) → Rel (effects.on_any go vs) (effects.on_any go' vs)
  rel_any go go' [] h = tt
  rel_any go go' (v ∷ []) h = h v
  rel_any go go' (v ∷ _ ∷ _) h = tt

  rel_some : {A : Type 0} (o : Option A) (go go' : A → Effect) → ((x : A) → o ≡ Some x → Rel (go x) (go' x)) → Rel (effects.with_some o go) (effects.with_some o go')
  rel_some None go go' h = tt
  rel_some (Some x) go go' h = h x refl

  rel_one : (t : ValType) (go go' : ℕ → Effect) (vs : List Value) → ((n : ℕ) → Rel (go n) (go' n)) → Rel (effects.on_one t go vs) (effects.on_one t go' vs)
  rel_one t go go' [] h = tt
  rel_one t go go' (v ∷ []) h = rel_some (number t v) go go' (λ n e. h n)
  rel_one t go go' (v ∷ _ ∷ _) h = tt

  rel_two : (t u : ValType) (go go' : ℕ → ℕ → Effect) (vs : List Value) → ((n k : ℕ) → Rel (go n k) (go' n k)) → Rel (effects.on_two t u go vs) (effects.on_two t u go' vs)
  rel_two t u go go' [] h = tt
  rel_two t u go go' (v ∷ []) h = tt
  rel_two t u go go' (v ∷ w ∷ []) h = rel_some (number t v) (λ n. effects.with_some (number u w) (go n)) (λ n. effects.with_some (number u w) (go' n)) (λ n e. rel_some (number u w) (go n) (go' n) (λ k d. h n k))
  rel_two t u go go' (v ∷ w ∷ _ ∷ _) h = tt

  rel_three : (go go' : ℕ → ℕ → ℕ → Effect) (vs : List Value) → ((n k j : ℕ) → Rel (go n k j) (go' n k j)) → Rel (effects.on_three go vs) (effects.on_three go' vs)
  rel_three go go' [] h = tt
  rel_three go go' (v ∷ []) h = tt
  rel_three go go' (v ∷ w ∷ []) h = tt
  rel_three go go' (v ∷ w ∷ u ∷ []) h =
      rel_some (number I32 v) (λ n. effects.with_some (number I32 w) (λ k. effects.with_some (number I32 u) (go n k))) (λ n. effects.with_some (number I32 w) (λ k. effects.with_some (number I32 u) (go' n k)))
      (λ n e. rel_some (number I32 w) (λ k. effects.with_some (number I32 u) (go n k)) (λ k. effects.with_some (number I32 u) (go' n k)) (λ k d. rel_some (number I32 u) (go n k) (go' n k) (λ j c. h n k j)))
  rel_three go go' (v ∷ w ∷ u ∷ _ ∷ _) h = tt

  rel_bounds : {A : Type 0} (o : Option A) (go go' : A → Effect) → can ≡ true → ((x : A) → o ≡ Some x → Rel (go x) (go' x)) → Rel (effects.in_bounds o go) (effects.in_bounds o go')
  rel_bounds None go go' c h = (c, 3, refl)
  rel_bounds (Some x) go go' c h = h x refl

  rel_divides : (q : Result ℕ ArithTrap) (go go' : ℕ → Effect) → can ≡ true → ((n : ℕ) → Rel (go n) (go' n)) → Rel (effects.divides q go) (effects.divides q go')
  rel_divides (Ok n) go go' c h = h n
  rel_divides (Err DivideByZero) go go' c h = (c, 1, refl)
  rel_divides (Err Overflow) go go' c h = (c, 2, refl)

-- a longer memory than a world's
pub least_is : (M : Engine) (gl : List ValType) (g : World) (m m' : Memory) → WorldFits M gl g → g.memory ≡ Some m → length m.bytes ≤ length m'.bytes → HasLeast M.program.module_.memories (Some m')
least_is M gl g m m' h e le = least_longer M.program.module_.memories (Some m) (Some m') le (subst (HasLeast M.program.module_.memories) e h.least)

-- the same memory in two worlds
pub memory_is : (M : Engine) (gl : List ValType) (g : World) (m : Memory) → WorldFits M gl g → g.memory ≡ Some m → MemoryFits (Some m)
memory_is M gl g m h e = subst MemoryFits e h.memory

module _ (M : Engine) (gl : List ValType) (C : Ctx) (es : List Place) (l : List Value) (g : World) (ex : List Value) (bs : List Value) (lt : types l ≡ C.locals) (wf : WorldFits M gl g) (gt : gl ≡ global_types C.source) where
  typed_result : (ts : List ValType) (xs : List Value) (x : ℕ) (v : Value) → types xs ≡ ts → slice_get xs x ≡ Some v → exactly (slice_get ts x) (v ∷ []) ≡ Some (v ∷ [])
  typed_result ts xs x v e n = let z : slice_get ts x ≡ Some (type_of v) = ap (λ q. slice_get q x) (sym e) ∙ types_get xs x v n in rw z (one_result v (type_of v) refl)

  local_get : (x : ℕ) (o : Option Value) → slice_get l x ≡ o → Rel M gl (slice_get C.locals x) false l ex bs (effects.with_some o (λ v. gives g l (v ∷ []))) (effects.with_some (slice_get (l ++ ex) x) (λ v. gives (with_added M g bs) (l ++ ex) (v ∷ [])))
  local_get x None e = tt
  local_get x (Some v) e = (rw (get_own l ex x v e) refl, refl, wf, typed_result C.locals l x v lt e)

  local_set_if : (x : ℕ) (v w : Value) (q : Bool) → slice_get l x ≡ Some w → same_type (type_of w) (type_of v) ≡ q → Rel M gl None false l ex bs (effects.when q (gives g (slice_set l x v) [])) (effects.over (slice_get (l ++ ex) x) v (gives (with_added M g bs) (slice_set (l ++ ex) x v) []))
  local_set_if x v w false e d = tt
  local_set_if x v w true e d = (rw (get_own l ex x w e, d, set-append_left l ex x v w e) refl, types-slice_set l x (type_of w) v (types_get l x w e) (sym (same_type_is (type_of w) (type_of v) d)), wf, refl)

  local_set : (x : ℕ) (v : Value) (o : Option Value) → slice_get l x ≡ o → Rel M gl None false l ex bs (effects.over o v (gives g (slice_set l x v) [])) (effects.over (slice_get (l ++ ex) x) v (gives (with_added M g bs) (slice_set (l ++ ex) x v) []))
  local_set x v None e = tt
  local_set x v (Some w) e = local_set_if x v w (same_type (type_of w) (type_of v)) e refl

  local_tee_if : (x : ℕ) (v w : Value) (q : Bool) → slice_get l x ≡ Some w → same_type (type_of w) (type_of v) ≡ q → Rel M gl (slice_get C.locals x) false l ex bs (effects.when q (gives g (slice_set l x v) (v ∷ []))) (effects.over (slice_get (l ++ ex) x) v (gives (with_added M g bs) (slice_set (l ++ ex) x v) (v ∷ [])))
  local_tee_if x v w false e d = tt
  local_tee_if x v w true e d =
      let same : type_of w ≡ type_of v = same_type_is (type_of w) (type_of v) d in
      let ty = types-slice_set l x (type_of w) v (types_get l x w e) (sym same) in
      let at : slice_get C.locals x ≡ Some (type_of v) = ap (λ q. slice_get q x) (sym lt) ∙ types_get l x w e ∙ ap Some same in
      (rw (get_own l ex x w e, d, set-append_left l ex x v w e) refl, ty, wf, rw at (one_result v (type_of v) refl))

  local_tee : (x : ℕ) (v : Value) (o : Option Value) → slice_get l x ≡ o → Rel M gl (slice_get C.locals x) false l ex bs (effects.over o v (gives g (slice_set l x v) (v ∷ []))) (effects.over (slice_get (l ++ ex) x) v (gives (with_added M g bs) (slice_set (l ++ ex) x v) (v ∷ [])))
  local_tee x v None e = tt
  local_tee x v (Some w) e = local_tee_if x v w (same_type (type_of w) (type_of v)) e refl

  global_get : (x : ℕ) (o : Option Value) → slice_get g.globals x ≡ o → Rel M gl (slice_get (global_types C.source) x) false l ex bs (effects.with_some o (λ v. gives g l (v ∷ []))) (effects.with_some (slice_get (g.globals ++ bs) x) (λ v. gives (with_added M g bs) (l ++ ex) (v ∷ [])))
  global_get x None e = tt
  global_get x (Some v) e = (rw (get_own g.globals (bs) x v e) refl, refl, wf, typed_result (global_types C.source) g.globals x v (wf.globals ∙ gt) e)

  global_set_if : (x : ℕ) (v w : Value) (q : Bool) → slice_get g.globals x ≡ Some w → same_type (type_of w) (type_of v) ≡ q → Rel M gl None false l ex bs (effects.when q (gives (with_globals g (slice_set g.globals x v)) l [])) (effects.over (slice_get (g.globals ++ bs) x) v (gives (with_globals (with_added M g bs) (slice_set (g.globals ++ bs) x v)) (l ++ ex) []))
  global_set_if x v w false e d = tt
  global_set_if x v w true e d = (
    rw (get_own g.globals (bs) x w e, d, set-append_left g.globals (bs) x v w e) refl,
    refl,
    record { globals = types-slice_set g.globals x (type_of w) v (types_get g.globals x w e) (sym (same_type_is (type_of w) (type_of v) d)) ∙ wf.globals; memory = wf.memory; least = wf.least; table = wf.table },
    refl,
  )

  global_set : (x : ℕ) (v : Value) (o : Option Value) → slice_get g.globals x ≡ o → Rel M gl None false l ex bs (effects.over o v (gives (with_globals g (slice_set g.globals x v)) l [])) (effects.over (slice_get (g.globals ++ bs) x) v (gives (with_globals (with_added M g bs) (slice_set (g.globals ++ bs) x v)) (l ++ ex) []))
  global_set x v None e = tt
  global_set x v (Some w) e = global_set_if x v w (same_type (type_of w) (type_of v)) e refl

  choice_type : (q : Bool) (c a : Value) → type_of a ≡ type_of c → type_of (if q then c else a) ≡ type_of c
  choice_type true c a d = refl
  choice_type false c a d = d

  selected : (n : ℕ) (c a : Value) (q : Bool) → same_type (type_of a) (type_of c) ≡ q → Match (values.I32 n ∷ c ∷ a ∷ []) es → Rel M gl (second_type es) false l ex bs (effects.when q (gives g l ((if n == 0 then c else a) ∷ []))) (effects.when q (gives (with_added M g bs) (l ++ ex) ((if n == 0 then c else a) ∷ [])))
  selected n c a false d m = tt
  selected n c a true d m = (refl, refl, wf, second es m)
    where
      second : (es : List Place) → Match (values.I32 n ∷ c ∷ a ∷ []) es → exactly (second_type es) ((if n == 0 then c else a) ∷ []) ≡ Some ((if n == 0 then c else a) ∷ [])
      second [] m = absurd m
      second (e ∷ []) m = absurd m.1
      second (e ∷ f ∷ es) m = one_result (if n == 0 then c else a) (place_type f) (choice_type (n == 0) c a (same_type_is (type_of a) (type_of c) d) ∙ m.1.0)

  select : (vs : List Value) → Match vs es → Rel M gl (second_type es) false l ex bs (effect Select g l vs) (effect Select (with_added M g bs) (l ++ ex) vs)
  select [] m = tt
  select (c ∷ []) m = tt
  select (c ∷ d ∷ []) m = tt
  select (values.I32 n ∷ d ∷ a ∷ []) m = selected n d a (same_type (type_of a) (type_of d)) refl m
  select (values.I64 n ∷ d ∷ a ∷ []) m = tt
  select (c ∷ d ∷ a ∷ _ ∷ _) m = tt

  grown_rel : (o : Option Memory) (m : Memory) (n old : ℕ) → grow m n ≡ o → g.memory ≡ Some m → Rel M gl (Some I32) false l ex bs (effects.grown o g old l) (effects.grown o (with_added M g bs) old (l ++ ex))
  grown_rel None m n old e h = (refl, refl, wf, refl)
  grown_rel (Some m') m n old e h = (refl, refl, record { globals = wf.globals; memory = grow_keeps m m' n e (memory_is M gl g m wf h); least = least_is M gl g m m' wf h (grow_longer m m' n (nat_le (pages m + n) m.max) e); table = wf.table }, refl)

  value_rel : (t : ValType) (n : ℕ) (can : Bool) → Rel M gl (Some t) can l ex bs (gives g l (value t n ∷ [])) (gives (with_added M g bs) (l ++ ex) (value t n ∷ []))
  value_rel t n can = (refl, refl, wf, one_result (value t n) t (value_type t n))

  binop_rel : (t : ValType) (op : BinaryOp) (n k : ℕ) → Rel M gl (Some t) (divides op) l ex bs (effects.divides (binary t op k n) (λ x. gives g l (value t x ∷ []))) (effects.divides (binary t op k n) (λ x. gives (with_added M g bs) (l ++ ex) (value t x ∷ [])))
  unfolding int_binary
  binop_rel t Add n k = value_rel t _ false
  binop_rel t Sub n k = value_rel t _ false
  binop_rel t Mul n k = value_rel t _ false
  binop_rel t DivS n k = rel_divides M gl (Some t) true l ex bs (binary t DivS k n) _ _ refl (λ x. value_rel t x true)
  binop_rel t DivU n k = rel_divides M gl (Some t) true l ex bs (binary t DivU k n) _ _ refl (λ x. value_rel t x true)
  binop_rel t RemS n k = rel_divides M gl (Some t) true l ex bs (binary t RemS k n) _ _ refl (λ x. value_rel t x true)
  binop_rel t RemU n k = rel_divides M gl (Some t) true l ex bs (binary t RemU k n) _ _ refl (λ x. value_rel t x true)
  binop_rel t And n k = value_rel t _ false
  binop_rel t Or n k = value_rel t _ false
  binop_rel t Xor n k = value_rel t _ false
  binop_rel t Shl n k = value_rel t _ false
  binop_rel t ShrS n k = value_rel t _ false
  binop_rel t ShrU n k = value_rel t _ false
  binop_rel t Rotl n k = value_rel t _ false
  binop_rel t Rotr n k = value_rel t _ false

  abbrev pub Framed : Basic → List Value → Type 0
  Framed i vs = Rel M gl (result_type C es i) (can_trap i) l ex bs (effect i g l vs) (effect i (with_added M g bs) (l ++ ex) vs)

  framed_as : (i : Basic) → OneByOne i → (vs : List Value) → Match vs es → Framed i vs
  framed_as i is_nop vs m = rel_none M gl None false l ex bs (gives g l []) (gives (with_added M g bs) (l ++ ex) []) vs (refl, refl, wf, refl)
  framed_as i is_drop vs m = rel_any M gl None false l ex bs _ _ vs (λ v. (refl, refl, wf, refl))
  framed_as i is_select vs m = select vs m
  framed_as i (is_local_get x) vs m = rel_none M gl (slice_get C.locals x) false l ex bs _ _ vs (local_get x (slice_get l x) refl)
  framed_as i (is_local_set x) vs m = rel_any M gl None false l ex bs _ _ vs (λ v. local_set x v (slice_get l x) refl)
  framed_as i (is_local_tee x) vs m = rel_any M gl (slice_get C.locals x) false l ex bs _ _ vs (λ v. local_tee x v (slice_get l x) refl)
  framed_as i (is_global_get x) vs m = rel_none M gl (slice_get (global_types C.source) x) false l ex bs _ _ vs (global_get x (slice_get g.globals x) refl)
  framed_as i (is_global_set x) vs m = rel_any M gl None false l ex bs _ _ vs (λ v. global_set x v (slice_get g.globals x) refl)
  framed_as i (is_load t align o) vs m =
      rel_one M gl (Some (load_type t)) true l ex bs I32 _ _ vs (λ a. rel_some M gl (Some (load_type t)) true l ex bs g.memory _ _ (λ k e.
      rel_bounds M gl (Some (load_type t)) true l ex bs (memories.load k (address a o) (load_bits t / 8)) _ _ refl (λ n d. value_rel (load_type t) _ true)))
  framed_as i (is_store t align o) vs m =
      rel_two M gl None true l ex bs (store_type t) I32 _ _ vs (λ n a. rel_some M gl None true l ex bs g.memory _ _ (λ k e.
      rel_bounds M gl None true l ex bs (memories.put k (address a o) (to_bytes (store_bits t / 8) n)) _ _ refl (λ k' d.
      (refl, refl, record { globals = wf.globals; memory = put_keeps k k' (address a o) (to_bytes (store_bits t / 8) n) d (memory_is M gl g k wf e); least = least_is M gl g k k' wf e (put_longer k k' (address a o) (to_bytes (store_bits t / 8) n) d); table = wf.table }, refl))))
  framed_as i is_size vs m = rel_none M gl (Some I32) false l ex bs _ _ vs (rel_some M gl (Some I32) false l ex bs g.memory _ _ (λ k e. (refl, refl, wf, refl)))
  framed_as i is_grow vs m = rel_one M gl (Some I32) false l ex bs I32 _ _ vs (λ n. rel_some M gl (Some I32) false l ex bs g.memory _ _ (λ k e. grown_rel (grow k n) k n (pages k) refl e))
  framed_as i is_copy vs m =
      rel_three M gl None true l ex bs _ _ vs (λ n from to. rel_some M gl None true l ex bs g.memory _ _ (λ k e.
      rel_bounds M gl None true l ex bs (memories.copy k (modulo I32 to) (modulo I32 from) (modulo I32 n)) _ _ refl (λ k' d.
      (refl, refl, record { globals = wf.globals; memory = copy_keeps k k' (modulo I32 to) (modulo I32 from) (modulo I32 n) d (memory_is M gl g k wf e); least = least_is M gl g k k' wf e (copy_longer k k' (modulo I32 to) (modulo I32 from) (modulo I32 n) (nat_le (modulo I32 from + modulo I32 n) (length k.bytes)) d); table = wf.table }, refl))))
  framed_as i is_fill vs m =
      rel_three M gl None true l ex bs _ _ vs (λ n byte to. rel_some M gl None true l ex bs g.memory _ _ (λ k e.
      rel_bounds M gl None true l ex bs (memories.fill k (modulo I32 to) (byte % 256) (modulo I32 n)) _ _ refl (λ k' d.
      (refl, refl, record { globals = wf.globals; memory = put_keeps k k' (modulo I32 to) (replicate (modulo I32 n) (byte % 256)) d (memory_is M gl g k wf e); least = least_is M gl g k k' wf e (put_longer k k' (modulo I32 to) (replicate (modulo I32 n) (byte % 256)) d); table = wf.table }, refl))))
  framed_as i (is_const v) vs m = rel_none M gl (Some (type_of v)) false l ex bs _ _ vs (refl, refl, wf, one_result v (type_of v) refl)
  framed_as i (is_compare t op) vs m = rel_two M gl (Some I32) false l ex bs t t _ _ vs (λ n k. (refl, refl, wf, refl))
  framed_as i (is_binary t op) vs m = rel_two M gl (Some t) (divides op) l ex bs t t _ _ vs (λ n k. binop_rel t op n k)
  framed_as i (computes o) vs m =
      let gives_to : result_type C es i ≡ Some o.to = result_typed C es i ∙ ap (result_by C es) o.source_is in
      let safe : can_trap i ≡ false = never_traps i o (can_trap i) refl in
      subst₂ (λ (r : Option ValType) (q : Bool). Rel M gl r q l ex bs (effect i g l vs) (effect i (with_added M g bs) (l ++ ex) vs)) (sym gives_to) (sym safe)
      (subst₂ (λ (x y : Effect). Rel M gl (Some o.to) false l ex bs x y) (sym (o.effect_is g l vs)) (sym (o.effect_is (with_added M g bs) (l ++ ex) vs))
      (rel_one M gl (Some o.to) false l ex bs o.from (λ a. gives g l (value o.to (o.result a) ∷ [])) (λ a. gives (with_added M g bs) (l ++ ex) (value o.to (o.result a) ∷ [])) vs (λ a. value_rel o.to (o.result a) false)))

  pub framed : (i : Basic) (vs : List Value) → Match vs es → Framed i vs
  framed i vs m = framed_as i (one_by_one i) vs m

pub place_of : (C : Ctx) (l ex : List Value) (h : ℕ) (e : Place) (v : Value) → One C l ex h e v → type_of v ≡ place_type e
place_of C l ex h (Spilled t) v o = o.1
place_of C l ex h (Known w) v o = sym (ap type_of o)
place_of C l ex h (Copied t x) v o = o.1

pub match_of : (C : Ctx) (l ex : List Value) (m : ℕ) (js es : List Place) (ops vs below : List Value) → Holds C l ex js ops es → cut m ops ≡ parts vs below → Match vs (es ++ js)
match_of C l ex zero js es ops vs below h e = let f : vs ≡ [] = cc in rw f tt
match_of C l ex (suc m) js [] [] vs below h e = absurd (cc)
match_of C l ex (suc m) js (e ∷ es) [] vs below h c = absurd h
match_of C l ex (suc m) js [] (v ∷ ops) vs below h c = absurd h
match_of C l ex (suc m) js (e ∷ es) (v ∷ ops) vs below h c =
    let r = more_parts v (cut m ops) vs below c in
    rw r.2 (place_of C l ex (length (es ++ js)) e v h.0, match_of C l ex m js es ops r.0 below h.1 r.1)

pub cut_all : (m : ℕ) (ops vs below s : List Value) → cut m ops ≡ parts vs below → cut m (vs ++ s) ≡ parts vs s
cut_all zero ops vs below s e = let f : vs ≡ [] = cc in rw f refl
cut_all (suc m) [] vs below s e = absurd (cc)
cut_all (suc m) (v ∷ ops) vs below s e =
    let r = more_parts v (cut m ops) vs below e in
    rw r.2 (ap (one_more v) (cut_all m ops r.0 below s r.1))

-- labels under a write where no operand of theirs is
pub fits_put : (C : Ctx) (l ex : List Value) (a : Option ValType) (Ls : List Label) (ss : List (List Place)) (i : ℕ) (v : Value) → Clear C (length (joined ss)) i → FitsLabels C l ex a Ls ss → FitsLabels C l (slice_set ex i v) a Ls ss
fits_put C l ex a [] [] i v clear h = tt
fits_put C l ex a [] (_ ∷ _) i v clear h = absurd h
fits_put C l ex a (L ∷ Ls) [] i v clear h = absurd h
fits_put C l ex a (L ∷ Ls) (e ∷ ss) i v clear h =
    let inner = clear_less C (length (joined ss)) (length (e ++ joined ss)) i (omega (arith, length-append e (joined ss))) clear in
    (holds_put C l ex (joined ss) e L.operands i v clear h.0, h.1, h.2, h.3, fits_put C [] ex (awaits (pending L.kind)) Ls ss i v inner h.4)

-- of the kind, and of the offset
pub fits_kind : (C : Ctx) (l ex : List Value) (a : Option ValType) (Ls : List Label) (ss : List (List Place)) (v : Value) → length (joined ss) ≤ suc C.slots → FitsLabels C l ex a Ls ss → FitsLabels C l (slice_set ex (kind_at C) v) a Ls ss
fits_kind C l ex a Ls ss v le h = fits_put C l ex a Ls ss (kind_at C) v (clear_kind C (length (joined ss)) le) h

pub fits_offset : (C : Ctx) (l ex : List Value) (a : Option ValType) (Ls : List Label) (ss : List (List Place)) (v : Value) → length (joined ss) ≤ suc C.slots → FitsLabels C l ex a Ls ss → FitsLabels C l (slice_set ex (offset_at C) v) a Ls ss
fits_offset C l ex a Ls ss v le h = fits_put C l ex a Ls ss (offset_at C) v (clear_offset C (length (joined ss)) le) h

pub fits_stored : (C : Ctx) (l ex : List Value) (a r : Option ValType) (Ls : List Label) (ss : List (List Place)) (i : ValType → ℕ) (vs : List Value) → ((t : ValType) → Clear C (length (joined ss)) (i t)) → FitsLabels C l ex a Ls ss → FitsLabels C l (stored r i vs ex) a Ls ss
fits_stored C l ex a None Ls ss i vs clear h = h
fits_stored C l ex a (Some t) Ls ss i [] clear h = h
fits_stored C l ex a (Some t) Ls ss i (v ∷ vs) clear h = fits_put C l ex a Ls ss (i t) v (clear t) h

-- a slot at a height within bounds
pub has_slot : (C : Ctx) (ex : List Value) (r : Option ValType) (h : ℕ) → types ex ≡ added C.slots → h ≤ C.slots → HasPlace r (λ t. slot C.slots t h) ex
has_slot C ex None h ty le = tt
has_slot C ex (Some t) h ty le = rw ty (added_at C.slots h t le)

-- awaited results have arrived
pub settle : (C : Ctx) (l ex : List Value) (r : Option ValType) (L : Label) (Ls : List Label) (e : List Place) (ss : List (List Place)) (vs : List Value) → types ex ≡ added C.slots → exactly r vs ≡ Some vs → FitsLabels C l ex r (L ∷ Ls) (e ∷ ss) → FitsLabels C l (stored r (λ t. slot C.slots t (length (e ++ joined ss))) vs ex) None (label (vs ++ L.operands) L.nodes L.end L.kind ∷ Ls) (grown r e ∷ ss)
settle C l ex None L Ls e ss [] ty x h = h
settle C l ex None L Ls e ss (_ ∷ _) ty x h = absurd (cc)
settle C l ex (Some t) L Ls e ss [] ty x h = absurd (cc)
settle C l ex (Some t) L Ls e ss (v ∷ []) ty x h =
    let n = length (e ++ joined ss) in
    let i = slot C.slots t n in
    let le : n ≤ C.slots = omega (arith, h.1) in
    let at : slice_get (types ex) i ≡ Some t = rw ty (added_at C.slots n t le) in
    let clear = clear_slot C n t le in
    let inner = clear_less C (length (joined ss)) n i (omega (arith, length-append e (joined ss))) clear in
    let d : type_of v ≡ t = same_type_is (type_of v) t (if_same (same_type (type_of v) t) (v ∷ []) (v ∷ []) x).0 in
    (((slice_get-put_same ex i t v at, d), holds_put C l ex (joined ss) e L.operands i v clear h.0), tt, h.2, h.3, fits_put C [] ex (awaits (pending L.kind)) Ls ss i v inner h.4)
settle C l ex (Some t) L Ls e ss (v ∷ w ∷ vs) ty x h = absurd (cc)

module _ (M : Engine) where
  pub step_plain : {X : Shell} {tl s : List Value} {k : Nodes} {g : World} {co : List CollectorCall} (i : Basic) (vs below tl' : List Value) (g' : World) (ws s' : List Value) → cut (takes i) s ≡ parts vs below → effect i g tl vs ≡ gives g' tl' ws → ws ++ below ≡ s' → To M 1 1 (st X tl s (basic 0 i k) g co) (st X tl' s' k g' co)
  step_plain i vs below tl' g' ws s' c e d = one_step M _ _ (rw (c, e, d) refl)
