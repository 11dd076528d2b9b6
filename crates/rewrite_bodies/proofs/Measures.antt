-- The global and the local that tell the length of the memory: what sets them, and which instructions leave that length as it is.
use Rattle.std.proofs.Common.{◌≡◌, ◌≤◌, ℕ, suc, ◌+◌, ◌*◌, ◌/◌, ◌%◌, List, [], ◌∷◌, ◌++◌, length, Option, Some, None, Bool, true, false, nat_le, refl, sym, ap, ◌∙◌, subst, arith, slice_get, slice_set, if◌then◌else◌, replicate, ◌⊎◌, inl, inr}
use Rattle.std.proofs.Math.Nat.{mod-eq_of_lt}
use Rattle.wasm_syntax.specs.declared.value.ValType.{ValType}
use Rattle.wasm_syntax.specs.declared.value.ValType.TheVariants.{I32, I64}
use Rattle.wasm_syntax.specs.declared.value.Value.{Value}
use Rattle.wasm_syntax.specs.declared.value.Value.TheVariants as values
use Rattle.wasm_syntax.specs.declared.instruction.Basic.{Basic}
use Rattle.wasm_syntax.specs.declared.instruction.Basic.TheVariants.{Nop, Drop, Select, LocalGet, LocalSet, LocalTee, GlobalGet, GlobalSet, MemorySize, MemoryGrow, Const, Compare, Binary, Convert}
use Rattle.wasm_syntax.specs.declared.instruction.Convert.TheVariants.{ExtendU}
use Rattle.int_ops.specs.declared.operators.Binary.TheVariants.{Shl, Sub}
use Rattle.int_ops.specs.Integers.{binary as int_binary}
use Rattle.wasm_syntax.specs.Numbers.{number, value, modulo, types}
use Rattle.wasm_syntax.specs.Tree.{Nodes, basic}
use Rattle.wasm_syntax.specs.Host.{World}
use Rattle.wasm_syntax.specs.declared.host.CollectorCall.{CollectorCall}
use Rattle.wasm_syntax.specs.declared.module.ModuleParts.{ModuleParts as Module}
use Rattle.wasm_syntax.specs.declared.parts.Limits.{Limits}
use Rattle.wasm_syntax.specs.Effect.{Effect, gives, fails, unfit, effect, with_memory, address}
use Rattle.wasm_syntax.specs.Effect as effects
use Rattle.wasm_syntax.specs.Access.{load_bits, store_type, store_bits}
use Rattle.wasm_syntax.specs.calls.Classes.{EffectClass, Pure, Dividing, Accessing, SetsLocal, SetsGlobal, effect_class, Does}
use Rattle.wasm_syntax.proofs.Classes.{acts_as_class, OneByOne, computes, is_nop, is_drop, is_select, is_local_get, is_local_set, is_local_tee, is_global_get, is_global_set, is_load, is_store, is_size, is_grow, is_copy, is_fill, is_const, is_compare, is_binary, one_by_one}
use Rattle.wasm_syntax.specs.Machine.{Engine, next, Label}
use Rattle.linear_memory.specs.Memory.{Memory, pages, to_bytes}
use Rattle.linear_memory.specs.Memory as memories
use Rattle.rewrite_bodies.specs.Numbering.{flag_of}
use Rattle.rewrite_bodies.specs.calls.Slots.{Ctx, Place, length_at, added, measured}
use Rattle.rewrite_bodies.specs.calls.Pieces.{const, set}
use Rattle.rewrite_bodies.specs.calls.Guards.{less_word, memory_length, length_of, set_length, renewed, measure, set_both, renew_both}
use Rattle.rewrite_bodies.specs.calls.Rewrite.{grows, lengthened}
use Rattle.rewrite_bodies.specs.calls.Agreement.{MemoryFits, byte_count, told_length, with_added, flagged, joined, FitsLabels, HasLength}
use Rattle.rewrite_bodies.specs.calls.Known.{HasLeast}
use Rattle.rewrite_bodies.specs.calls.Steps.{To, Shell, st}
use Rattle.rewrite_bodies.proofs.Run.{still, one_step, seq, weaken, push_to, added_set}
use Rattle.rewrite_bodies.proofs.Parts.{pages_are, step_plain}
use Rattle.rewrite_bodies.proofs.Longer.{put_fits}
use Rattle.rewrite_bodies.proofs.Risks.{growth}
use Rattle.rewrite_bodies.proofs.Passing.{FitsBut}
use Rattle.rewrite_bodies.proofs.Told.{remeasured, length_there, types_told, has_told, over_told}

-- ---- the added globals

pub get_first : (g : List Value) (n : ℕ) (b : Value) (bs : List Value) → n ≡ length g → slice_get (g ++ b ∷ bs) n ≡ Some b
get_first [] n b bs e = let z : n ≡ 0 = e in rw z refl
get_first (v ∷ g) n b bs e = let z : n ≡ suc (length g) = e in rw z (get_first g (length g) b bs refl)

pub put_first : (g : List Value) (n : ℕ) (b v : Value) (bs : List Value) → n ≡ length g → slice_set (g ++ b ∷ bs) n v ≡ g ++ v ∷ bs
put_first [] n b v bs e = let z : n ≡ 0 = e in rw z refl
put_first (u ∷ g) n b v bs e = let z : n ≡ suc (length g) = e in rw z (ap (λ r. u ∷ r) (put_first g (length g) b v bs refl))

get_second : (g : List Value) (n : ℕ) (b v : Value) (bs : List Value) → n ≡ length g → slice_get (g ++ b ∷ v ∷ bs) (suc n) ≡ Some v
get_second [] n b v bs e = let z : n ≡ 0 = e in rw z refl
get_second (u ∷ g) n b v bs e = let z : n ≡ suc (length g) = e in rw z (get_second g (length g) b v bs refl)

put_second : (g : List Value) (n : ℕ) (b v w : Value) (bs : List Value) → n ≡ length g → slice_set (g ++ b ∷ v ∷ bs) (suc n) w ≡ g ++ b ∷ w ∷ bs
put_second [] n b v w bs e = let z : n ≡ 0 = e in rw z refl
put_second (u ∷ g) n b v w bs e = let z : n ≡ suc (length g) = e in rw z (ap (λ r. u ∷ r) (put_second g (length g) b v w bs refl))

-- ---- what leaves the length as it is

abbrev Keeps : Option Memory → Effect → Type 0
Keeps a (gives w l vs) = byte_count w.memory ≡ byte_count a
Keeps a (fails k) = Unit {0}
Keeps a unfit = Unit {0}

module _ (a : Option Memory) where
  keeps_some : {A : Type 0} (o : Option A) (go : A → Effect) → ((x : A) → o ≡ Some x → Keeps a (go x)) → Keeps a (effects.with_some o go)
  keeps_some None go h = tt
  keeps_some (Some x) go h = h x refl

  keeps_bounds : {A : Type 0} (o : Option A) (go : A → Effect) → ((x : A) → o ≡ Some x → Keeps a (go x)) → Keeps a (effects.in_bounds o go)
  keeps_bounds None go h = tt
  keeps_bounds (Some x) go h = h x refl

  keeps_one : (t : ValType) (go : ℕ → Effect) (vs : List Value) → ((n : ℕ) → Keeps a (go n)) → Keeps a (effects.on_one t go vs)
  keeps_one t go [] h = tt
  keeps_one t go (v ∷ []) h = keeps_some (number t v) go (λ n e. h n)
  keeps_one t go (v ∷ _ ∷ _) h = tt

  keeps_two : (t u : ValType) (go : ℕ → ℕ → Effect) (vs : List Value) → ((n k : ℕ) → Keeps a (go n k)) → Keeps a (effects.on_two t u go vs)
  keeps_two t u go [] h = tt
  keeps_two t u go (v ∷ []) h = tt
  keeps_two t u go (v ∷ w ∷ []) h = keeps_some (number t v) (λ n. effects.with_some (number u w) (go n)) (λ n e. keeps_some (number u w) (go n) (λ k d. h n k))
  keeps_two t u go (v ∷ w ∷ _ ∷ _) h = tt

  keeps_three : (go : ℕ → ℕ → ℕ → Effect) (vs : List Value) → ((n k j : ℕ) → Keeps a (go n k j)) → Keeps a (effects.on_three go vs)
  keeps_three go [] h = tt
  keeps_three go (v ∷ []) h = tt
  keeps_three go (v ∷ w ∷ []) h = tt
  keeps_three go (v ∷ w ∷ u ∷ []) h =
      keeps_some (number I32 v) (λ n. effects.with_some (number I32 w) (λ k. effects.with_some (number I32 u) (go n k)))
      (λ n e. keeps_some (number I32 w) (λ k. effects.with_some (number I32 u) (go n k)) (λ k d. keeps_some (number I32 u) (go n k) (λ j c. h n k j)))
  keeps_three go (v ∷ w ∷ u ∷ _ ∷ _) h = tt

module _ (g : World) (l : List Value) where
  put_in : (m : Memory) (at : ℕ) (new : List ℕ) → g.memory ≡ Some m → Keeps g.memory (effects.in_bounds (memories.put m at new) (λ m'. gives (with_memory g m') l []))
  put_in m at new there =
      keeps_bounds g.memory (memories.put m at new) (λ m'. gives (with_memory g m') l [])
      (λ m' e. (put_fits m m' at new (nat_le (at + length new) (length m.bytes)) refl e).0 ∙ sym (ap byte_count there))

  copied_in : (m : Memory) (to from n : ℕ) (q : Bool) → g.memory ≡ Some m → Keeps g.memory (effects.in_bounds (if q then memories.put m to (memories.window m.bytes from n) else None) (λ m'. gives (with_memory g m') l []))
  copied_in m to from n true there = put_in m to (memories.window m.bytes from n) there
  copied_in m to from n false there = tt

  abbrev accessing : EffectClass → Bool
  accessing Accessing = true
  accessing k = false

  by_class : (k : EffectClass) (e : Effect) → accessing k ≡ false → Does k g l e → Keeps g.memory e
  by_class k unfit q d = tt
  by_class k (fails kind) q d = tt
  by_class Pure (gives g' l' vs) q d = ap (λ z. byte_count z.memory) d.1
  by_class Dividing (gives g' l' vs) q d = ap (λ z. byte_count z.memory) d.1
  by_class Accessing (gives g' l' vs) q d = absurd (cc)
  by_class (SetsLocal x) (gives g' l' vs) q d = ap (λ z. byte_count z.memory) d.0
  by_class (SetsGlobal x) (gives g' l' vs) q d = ap (λ z. byte_count z.memory) d.2

  -- no access
  other : (i : Basic) → accessing (effect_class i) ≡ false → (vs : List Value) → Keeps g.memory (effect i g l vs)
  other i q vs = by_class (effect_class i) (effect i g l vs) q (acts_as_class g l i vs)

  keeps_as : (i : Basic) → OneByOne i → grows i ≡ false → (vs : List Value) → Keeps g.memory (effect i g l vs)
  keeps_as i is_nop e vs = other Nop refl vs
  keeps_as i is_drop e vs = other Drop refl vs
  keeps_as i is_select e vs = other Select refl vs
  keeps_as i (is_local_get x) e vs = other (LocalGet x) refl vs
  keeps_as i (is_local_set x) e vs = other (LocalSet x) refl vs
  keeps_as i (is_local_tee x) e vs = other (LocalTee x) refl vs
  keeps_as i (is_global_get x) e vs = other (GlobalGet x) refl vs
  keeps_as i (is_global_set x) e vs = other (GlobalSet x) refl vs
  keeps_as i (is_load t align o) e vs =
      keeps_one g.memory I32 _ vs (λ a. keeps_some g.memory g.memory _ (λ m there. keeps_bounds g.memory (memories.load m (address a o) (load_bits t / 8)) _ (λ n d. refl)))
  keeps_as i (is_store t align o) e vs =
      keeps_two g.memory (store_type t) I32 _ vs (λ n a. keeps_some g.memory g.memory _ (λ m there. put_in m (address a o) (to_bytes (store_bits t / 8) n) there))
  keeps_as i is_size e vs = other MemorySize refl vs
  keeps_as i is_grow e vs = absurd (cc)
  keeps_as i is_copy e vs =
      keeps_three g.memory _ vs (λ n from to. keeps_some g.memory g.memory _ (λ m there. copied_in m (modulo I32 to) (modulo I32 from) (modulo I32 n) (nat_le (modulo I32 from + modulo I32 n) (length m.bytes)) there))
  keeps_as i is_fill e vs =
      keeps_three g.memory _ vs (λ n byte to. keeps_some g.memory g.memory _ (λ m there. put_in m (modulo I32 to) (replicate (modulo I32 n) (byte % 256)) there))
  keeps_as i (is_const v) e vs = other (Const v) refl vs
  keeps_as i (is_compare t op) e vs = other (Compare t op) refl vs
  keeps_as i (is_binary t op) e vs = other (Binary t op) refl vs
  keeps_as i (computes o) e vs =
      subst (Keeps g.memory) (sym (o.effect_is g l vs)) (keeps_one g.memory o.from (λ a. gives g l (value o.to (o.result a) ∷ [])) vs (λ a. refl))

  -- behind `memory.grow` there is a memory
  abbrev Grown : Effect → Type 0
  Grown (gives w l vs) = (m : Memory) × (w.memory ≡ Some m)
  Grown (fails k) = Unit {0}
  Grown unfit = Unit {0}

  grown_by : (m : Memory) (old : ℕ) (o : Option Memory) → g.memory ≡ Some m → Grown (effects.grown o g old l)
  grown_by m old None there = (m, there)
  grown_by m old (Some m') there = (m', refl)

  grown_in : (n : ℕ) (o : Option Memory) → g.memory ≡ o → Grown (effects.with_some o (λ m. effects.grown (memories.grow m n) g (pages m) l))
  grown_in n None there = tt
  grown_in n (Some m) there = grown_by m (pages m) (memories.grow m n) there

  grown_on : (o : Option ℕ) → Grown (effects.with_some o (λ n. effects.with_some g.memory (λ m. effects.grown (memories.grow m n) g (pages m) l)))
  grown_on None = tt
  grown_on (Some n) = grown_in n g.memory refl

  grown_has : (vs : List Value) → Grown (effect MemoryGrow g l vs)
  grown_has [] = tt
  grown_has (v ∷ []) = grown_on (number I32 v)
  grown_has (v ∷ _ ∷ _) = tt

-- ---- the length is set

module _ (M' : Engine) where
  -- four bytes less than the length of the memory
  memory_length_to : (X : Shell) (k : Nodes) (g : World) (m : Memory) (co : List CollectorCall) (tl base : List Value) → g.memory ≡ Some m → MemoryFits (Some m) → To M' 6 6 (st X tl base (memory_length k) g co) (st X tl (values.I64 (less_word (length m.bytes)) ∷ base) k g co)
  unfolding int_binary
  memory_length_to X k g m co tl base gm mf =
      let pg : pages m ≡ mf.0 = pages_are m mf in
      let p32 : modulo I32 (pages m) ≡ pages m = mod-eq_of_lt (omega (arith, pg, mf.2)) in
      let len : modulo I64 (modulo I32 (pages m) * 65536) ≡ length m.bytes = ap (λ z. modulo I64 (z * 65536)) p32 ∙ mod-eq_of_lt (omega (arith, pg, mf.2)) ∙ (omega (arith, pg, mf.1)) in
      let k8 = basic 0 (Binary I64 Sub) k in
      let k7 = const (values.I64 4) k8 in
      let k6 = const (values.I64 16) (basic 0 (Binary I64 Shl) k7) in
      let k5 = basic 0 (Convert ExtendU) k6 in
      let size64 = modulo I64 (modulo I32 (pages m) * 65536) in
      let s3 : To M' 1 1 (st X tl base (memory_length k) g co) (st X tl (values.I32 (pages m) ∷ base) k5 g co) = one_step M' _ _ (rw gm refl) in
      let s4 : To M' 3 3 (st X tl (values.I32 (pages m) ∷ base) k5 g co) (st X tl (values.I64 size64 ∷ base) k7 g co) = seq M' (one_step M' _ (next (st X tl (values.I64 (modulo I32 (pages m)) ∷ base) k6 g co)) refl) (seq M' (push_to M' (values.I64 16)) (one_step M' _ _ refl)) in
      let s5 : To M' 2 2 (st X tl (values.I64 size64 ∷ base) k7 g co) (st X tl (values.I64 (less_word size64) ∷ base) k g co) = seq M' (push_to M' (values.I64 4)) (one_step M' _ _ refl) in
      subst (λ z. To M' 6 6 (st X tl base (memory_length k) g co) (st X tl (values.I64 (less_word z) ∷ base) k g co)) len (seq M' s3 (seq M' s4 s5))

  module _ (M : Engine) (src : Module) (X : Shell) (tl s : List Value) (k : Nodes) (g : World) (co : List CollectorCall) (b : Value) (fl : flag_of src ≡ length g.globals) where
    -- whatever the global had before
    pub set_length_to : (m : Memory) (old : ℕ) → g.memory ≡ Some m → MemoryFits (Some m) → To M' 7 7 (st X tl s (set_length src k) (with_added M g (b ∷ values.I64 old ∷ [])) co) (st X tl s k (with_added M g (b ∷ values.I64 (less_word (length m.bytes)) ∷ [])) co)
    set_length_to m old gm mf =
        let new = values.I64 (less_word (length m.bytes)) in
        let g0 = with_added M g (b ∷ values.I64 old ∷ []) in
        let g1 = with_added M g (b ∷ new ∷ []) in
        let k1 = basic 0 (GlobalSet (length_of src)) k in
        let there = get_second g.globals (flag_of src) b (values.I64 old) [] fl in
        let put_ = put_second g.globals (flag_of src) b (values.I64 old) new [] fl in
        let s1 : To M' 6 6 (st X tl s (set_length src k) g0 co) (st X tl (new ∷ s) k1 g0 co) = memory_length_to X k1 g0 m co tl s gm mf in
        let s2 : To M' 1 1 (st X tl (new ∷ s) k1 g0 co) (st X tl s k g1 co) = step_plain M' (GlobalSet (length_of src)) (new ∷ []) s tl g1 [] s refl (rw (there, put_) refl) refl in
        seq M' s1 s2

    -- behind what may have made the memory longer
    pub renew_to : (ls : List Limits) → HasLeast ls g.memory → MemoryFits g.memory → To M' 0 7 (st X tl s (renewed ls src k) (flagged M g b) co) (st X tl s k (flagged M g b) co)
    renew_to [] has mf = weaken M' (still M' _) (omega arith) (omega arith)
    renew_to (l ∷ ls) has mf = by_memory g.memory refl has mf
      where
        by_memory : (o : Option Memory) → g.memory ≡ o → HasLeast (l ∷ ls) o → MemoryFits o → To M' 0 7 (st X tl s (set_length src k) (flagged M g b) co) (st X tl s k (flagged M g b) co)
        by_memory None e has mf = absurd has
        by_memory (Some m) e has mf =
            subst (λ (n : ℕ). To M' 0 7 (st X tl s (set_length src k) (with_added M g (b ∷ values.I64 n ∷ [])) co) (st X tl s k (with_added M g (b ∷ values.I64 n ∷ [])) co)) (sym (ap told_length e)) (weaken M' (set_length_to m (less_word (length m.bytes)) e mf) (omega arith) (omega arith))

  -- ---- the local is set too

  -- the added locals behind an instruction, by whether it changes the length
  abbrev pub lengthy : Bool → Ctx → ℕ → List Value → List Value
  lengthy false C n ex = ex
  lengthy true C n ex = remeasured (measured C) C n ex

  pub types_lengthy : (q : Bool) (C : Ctx) (n : ℕ) (ex : List Value) → types ex ≡ added C.slots → types (lengthy q C n ex) ≡ types ex
  types_lengthy false C n ex room = refl
  types_lengthy true C n ex room = types_told (measured C) C n ex room

  pub over_lengthy : (q : Bool) (C : Ctx) (k : ℕ) (l ex : List Value) (n : ℕ) (a : Option ValType) (L : Label) (Ls : List Label) (e : List Place) (ss : List (List Place)) → length (e ++ joined ss) ≤ suc C.slots → FitsBut C k l ex a L Ls e ss → FitsBut C k l (lengthy q C n ex) a L Ls e ss
  over_lengthy false C k l ex n a L Ls e ss low h = h
  over_lengthy true C k l ex n a L Ls e ss low h = over_told (measured C) C k l ex n a L Ls e ss low h

  -- in a world before, and behind an instruction
  module _ (C : Ctx) (i : Basic) (before : World) (l l' vs ws : List Value) (g : World) (e : effect i before l vs ≡ gives g l' ws) where
    abbrev Behind : Bool → List Value → Type 0
    Behind q ex = HasLength C ex (told_length before.memory) → HasLength C (lengthy q C (told_length g.memory) ex) (told_length g.memory)

    pub has_lengthy : (ex : List Value) → types ex ≡ added C.slots → Behind (grows i) ex
    has_lengthy ex room = by_growth (growth i)
      where
        by_growth : (i ≡ MemoryGrow) ⊎ (grows i ≡ false) → Behind (grows i) ex
        by_growth (inl same) = subst (λ i. Behind (grows i) ex) (sym same) (λ has. has_told C (told_length g.memory) ex room)
        by_growth (inr stays) =
            let kept : told_length g.memory ≡ told_length before.memory = ap less_word (subst (Keeps before.memory) e (keeps_as before l i (one_by_one i) stays vs)) in
            subst (λ q. Behind q ex) (sym stays) (λ has. subst (HasLength C ex) (sym kept) has)

  module _ (M : Engine) (C : Ctx) (X : Shell) (l ex s : List Value) (k : Nodes) (g : World) (co : List CollectorCall) (b : Value) (size : length C.locals ≡ length l) (room : types ex ≡ added C.slots) (fl : flag_of C.source ≡ length g.globals) where
    pub measure_to : (q : Bool) → To M' 0 2 (st X (l ++ ex) s (measure q C k) (flagged M g b) co) (st X (l ++ remeasured q C (told_length g.memory) ex) s k (flagged M g b) co)
    measure_to false = weaken M' (still M' _) (omega arith) (omega arith)
    measure_to true =
        let n = values.I64 (told_length g.memory) in
        let gb = flagged M g b in
        let k1 = set C (length_at C) k in
        let there = get_second g.globals (flag_of C.source) b n [] fl in
        let s1 : To M' 1 1 (st X (l ++ ex) s (measure true C k) gb co) (st X (l ++ ex) (n ∷ s) k1 gb co) = step_plain M' (GlobalGet (length_of C.source)) [] s (l ++ ex) gb (n ∷ []) (n ∷ s) refl (rw there refl) refl in
        let s2 : To M' 1 1 (st X (l ++ ex) (n ∷ s) k1 gb co) (st X (l ++ slice_set ex (length_at C) n) s k gb co) = added_set M' C l size ex (length_at C) I64 n (length_there C ex room) refl in
        weaken M' (seq M' s1 s2) (omega arith) (omega arith)

    -- behind what may have made the memory longer
    pub renew_both_to : HasLeast C.source.memories g.memory → MemoryFits g.memory → To M' 0 9 (st X (l ++ ex) s (renew_both C k) (flagged M g b) co) (st X (l ++ remeasured (measured C) C (told_length g.memory) ex) s k (flagged M g b) co)
    renew_both_to has mf =
        let s1 = renew_to M C.source X (l ++ ex) s (measure (measured C) C k) g co b fl C.source.memories has mf in
        weaken M' (seq M' s1 (measure_to (measured C))) (omega arith) (omega arith)

    -- this code leads, from another length in the global, to the length there is
    abbrev Goes : Nodes → ℕ → List Value → Type 0
    Goes code old ex' = To M' 0 9 (st X (l ++ ex) s code (with_added M g (b ∷ values.I64 old ∷ [])) co) (st X (l ++ ex') s k (flagged M g b) co)

    -- behind an instruction, by whether it changes the length
    pub lengthened_to : (i : Basic) (before : World) (l0 l' vs ws : List Value) → effect i before l0 vs ≡ gives g l' ws → MemoryFits g.memory → Goes (lengthened (grows i) C k) (told_length before.memory) (lengthy (grows i) C (told_length g.memory) ex)
    lengthened_to i before l0 l' vs ws e mf = by_growth (growth i)
      where
        old : ℕ
        old = told_length before.memory

        n : ℕ
        n = told_length g.memory

        grew : (m : Memory) → g.memory ≡ Some m → Goes (set_both C k) old (remeasured (measured C) C n ex)
        grew m there =
            let k1 = measure (measured C) C k in
            let to = set_length_to M C.source X (l ++ ex) s k1 g co b fl m old there (subst MemoryFits there mf) in
            let s1 : To M' 7 7 (st X (l ++ ex) s (set_both C k) (with_added M g (b ∷ values.I64 old ∷ [])) co) (st X (l ++ ex) s k1 (flagged M g b) co) = subst (λ (n : ℕ). To M' 7 7 (st X (l ++ ex) s (set_both C k) (with_added M g (b ∷ values.I64 old ∷ [])) co) (st X (l ++ ex) s k1 (with_added M g (b ∷ values.I64 n ∷ [])) co)) (sym (ap told_length there)) to in
            weaken M' (seq M' s1 (measure_to (measured C))) (omega arith) (omega arith)

        by_growth : (i ≡ MemoryGrow) ⊎ (grows i ≡ false) → Goes (lengthened (grows i) C k) old (lengthy (grows i) C n ex)
        by_growth (inl same) =
            let h = subst (Grown before l0) (ap (λ i. effect i before l0 vs) (sym same) ∙ e) (grown_has before l0 vs) in
            subst (λ i. Goes (lengthened (grows i) C k) old (lengthy (grows i) C n ex)) (sym same) (grew h.0 h.1)
        by_growth (inr stays) =
            let kept : n ≡ old = ap less_word (subst (Keeps before.memory) e (keeps_as before l0 i (one_by_one i) stays vs)) in
            subst (λ q. Goes (lengthened q C k) old (lengthy q C n ex)) (sym stays) (subst (λ n. Goes k n ex) kept (weaken M' (still M' _) (omega arith) (omega arith)))
