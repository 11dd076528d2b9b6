-- The facts of a function: what is exposed makes its code sound; facts stay where the memory gets longer, where other locals are written, and behind
-- an instruction; and an access that is answered does not trap.
use Rattle.std.proofs.Common.{◌≡◌, ◌≢◌, ℕ, zero, suc, ◌+◌, ◌≤◌, ◌/◌, ◌==◌, ◌&&◌, ◌||◌, not, nat_le, nat_lt, List, [], ◌∷◌, ◌++◌, length, Option, Some, None, Bool, true, false, refl, sym, ap, ◌∙◌, subst, arith, slice_get, slice_set, if◌then◌else◌, inl, inr, Result, Ok, Err, leb-true}
use Rattle.std.proofs.lemmas.Bool.{eq-eqb, eqb-true, le-leb, and_parts}
use Rattle.wasm_syntax.specs.declared.value.ValType.TheVariants.{I32, I64}
use Rattle.wasm_syntax.specs.declared.value.ValType.{ValType}
use Rattle.wasm_syntax.specs.declared.value.Value.{Value}
use Rattle.wasm_syntax.specs.declared.value.Value.TheVariants as values
use Rattle.wasm_syntax.specs.declared.instruction.Basic.{Basic}
use Rattle.wasm_syntax.specs.declared.instruction.Basic.TheVariants.{Nop, Drop, Select, LocalGet, LocalSet, LocalTee, GlobalGet, GlobalSet, Load, Store, MemorySize, MemoryGrow, MemoryCopy, MemoryFill, Const, Eqz, Unary, Compare, Binary, Convert, Extend32, Extend64}
use Rattle.wasm_syntax.specs.declared.instruction.Load.{Load as Loading}
use Rattle.wasm_syntax.specs.declared.instruction.Store.{Store as Storing}
use Rattle.wasm_syntax.specs.declared.parts.Limits.{Limits}
use Rattle.int_ops.specs.declared.operators.ArithTrap.{ArithTrap}
use Rattle.int_ops.specs.declared.operators.Binary.{Binary as BinaryOp}
use Rattle.int_ops.specs.declared.operators.Compare.{Compare as CompareOp}
use Rattle.int_ops.specs.Integers.{extend32, extend64}
use Rattle.wasm_syntax.specs.Numbers.{number, value, type_of, same_type, modulo, bool_number, unary, compare, binary, convert, convert_from, convert_to}
use Rattle.wasm_syntax.specs.Access.{load_type, load_bits, loaded, store_type, store_bits}
use Rattle.wasm_syntax.specs.Tree.{Nodes, stop, basic, jump, block, loop, choose}
use Rattle.wasm_syntax.specs.Host.{World}
use Rattle.wasm_syntax.specs.Effect.{Effect, gives, fails, effect, takes, address, with_memory, with_some, on_one, on_two, in_bounds, divides, unfit, over, when}
use Rattle.wasm_syntax.specs.Machine.{Kind, Label, parts, cut}
use Rattle.wasm_syntax.specs.calls.Classes.{EffectClass, Pure, Dividing, Accessing, SetsLocal, SetsGlobal, effect_class, local_of, Accessed, MayWrite, MayGive, Does, Risky, risky_binary, risky_load, risky_store, risky_copy, risky_fill}
use Rattle.wasm_syntax.proofs.Classes.{acts_as_class}
use Rattle.linear_memory.specs.Memory.{Memory, pages, to_bytes, from_bytes}
use Rattle.linear_memory.specs.Memory as memories
use Rattle.rewrite_bodies.specs.calls.Slots.{local_written, Ctx}
use Rattle.rewrite_bodies.specs.calls.Guards.{can_trap}
use Rattle.rewrite_bodies.specs.calls.Facts.{is_local, written, frail, Fact, answered, keep_if, others, first_facts, most_facts, one_noted, Copies, no_copies, under_one, without_top, unless, unless_on, other_copies, copies_behind, reach, shown, is_answered, noted, facts_behind, if_exposed, exposed_from, exposed_in, among, needs, Base, Zero, Local, same_base, is_on, Copy, copy_of, number_of}
use Rattle.rewrite_bodies.specs.calls.Known.{Reaches, HasLeast, FactHolds, FactsHold, IsCopy, under_top, CopiesHold, Within, Steady, Sound, KnownOuter, KnownAt, Extends, Stands}
use Rattle.rewrite_bodies.proofs.Run.{slice_get-put_other, slice_get-put_same}
use Rattle.rewrite_bodies.proofs.Parts.{types_get}
use Rattle.rewrite_bodies.proofs.Longer.{Longer, longer_refl, reaches_longer, put_longer, copy_longer, grow_longer}
use Rattle.rewrite_bodies.proofs.Risks.{risk_of}

-- ---- booleans

pub or_left : (a b : Bool) → a ≡ true → (a || b) ≡ true
or_left true b h = refl
or_left false b h = absurd (cc)

pub or_right : (a b : Bool) → b ≡ true → (a || b) ≡ true
or_right true b h = refl
or_right false b h = h

or_map : (b x y : Bool) → (x ≡ true → y ≡ true) → (b || x) ≡ true → (b || y) ≡ true
or_map true x y f h = refl
or_map false x y f h = f h

pub or_cases : (a b c : Bool) → (a ≡ true → c ≡ true) → (b ≡ true → c ≡ true) → (a || b) ≡ true → c ≡ true
or_cases true b c f g h = f refl
or_cases false b c f g h = g h

pub same_number : (n : ℕ) → (n == n) ≡ true
same_number n = eq-eqb n n refl

and_false : (a b : Bool) → (a && b) ≡ false → a ≡ true → b ≡ false
and_false true b h e = h
and_false false b h e = absurd (cc)

pub needs_trap : (C : Ctx) (o : ℕ) (i : Basic) → needs C o i ≡ true → can_trap i ≡ true
needs_trap C o i e = (and_parts (can_trap i) (among o C.exposed) e).0

-- ---- what is exposed makes a function sound

abbrev Sub : List ℕ → List ℕ → Type 0
Sub os ps = (o : ℕ) → among o os ≡ true → among o ps ≡ true

among_front : (o : ℕ) (xs ys : List ℕ) → among o xs ≡ true → among o (xs ++ ys) ≡ true
among_front o [] ys h = absurd (cc)
among_front o (x ∷ xs) ys h = or_map (x == o) (among o xs) (among o (xs ++ ys)) (among_front o xs ys) h

among_back : (o : ℕ) (xs ys : List ℕ) → among o ys ≡ true → among o (xs ++ ys) ≡ true
among_back o [] ys h = h
among_back o (x ∷ xs) ys h = or_right (x == o) (among o (xs ++ ys)) (among_back o xs ys h)

among_exposed : (b : Bool) (o p : ℕ) (os : List ℕ) → among p os ≡ true → among p (if_exposed b o os) ≡ true
among_exposed true o p os h = or_right (o == p) (among p os) h
among_exposed false o p os h = h

frail_written : (nodes : Nodes) (x : ℕ) → frail nodes x ≡ true → written nodes x ≡ true
frail_written stop x h = absurd (cc)
frail_written (basic o i rest) x h = or_right (is_local (local_written i) x) (written rest x) (frail_written rest x h)
frail_written (jump o j rest) x h = frail_written rest x h
frail_written (block o t inner end rest) x h = or_map (written inner x) (frail rest x) (written rest x) (frail_written rest x) h
frail_written (loop o t inner end rest) x h = or_map (written inner x) (frail rest x) (written rest x) (frail_written rest x) h
frail_written (choose o t a ea b end rest) x h =
    or_map (written a x) (written b x || frail rest x) (written b x || written rest x) (or_map (written b x) (frail rest x) (written rest x) (frail_written rest x)) h

exposed_or : (b q : Bool) (o : ℕ) (os all : List ℕ) → Sub (if_exposed (b && not q) o os) all → b ≡ true → among o all ≡ false → q ≡ true
exposed_or true true o os all s ct na = refl
exposed_or true false o os all s ct na = absurd (let there : among o all ≡ true = s o (or_left (o == o) (among o os) (same_number o)) in cc)
exposed_or false q o os all s ct na = absurd (cc)

sound_from : (all : List ℕ) (these : ℕ → Bool) (fs : List Fact) (c : Copies) (nodes : Nodes) → Sub (exposed_from these fs c nodes) all → ((x : ℕ) → frail nodes x ≡ true → these x ≡ true) → Sound all these fs c nodes
sound_from all these fs c stop s w = tt
sound_from all these fs c (basic o i rest) s w =
    let behind = exposed_from these (facts_behind i c fs) (copies_behind i c) rest in
    let b = can_trap i && not (is_answered (shown i c) fs) in
    (λ ct na. exposed_or (can_trap i) (is_answered (shown i c) fs) o behind all s ct na, sound_from all these (facts_behind i c fs) (copies_behind i c) rest (λ p h. s p (among_exposed b o p behind h)) w)
sound_from all these fs c (jump o j rest) s w = sound_from all these fs no_copies rest s w
sound_from all these fs c (block o t inner end rest) s w =
    let kept = others these fs in
    let a = exposed_from these fs no_copies inner in
    let b = exposed_from these kept no_copies rest in
    let all_in : Within these inner = λ x h. w x (or_left (written inner x) (frail rest x) h) in
    (all_in, sound_from all these fs no_copies inner (λ p h. s p (among_front p a b h)) (λ x h. all_in x (frail_written inner x h)), sound_from all these kept no_copies rest (λ p h. s p (among_back p a b h)) (λ x h. w x (or_right (written inner x) (frail rest x) h)))
sound_from all these fs c (loop o t inner end rest) s w =
    let kept = others these fs in
    let a = exposed_from these kept no_copies inner in
    let b = exposed_from these kept no_copies rest in
    let all_in : Within these inner = λ x h. w x (or_left (written inner x) (frail rest x) h) in
    (all_in, sound_from all these kept no_copies inner (λ p h. s p (among_front p a b h)) (λ x h. all_in x (frail_written inner x h)), sound_from all these kept no_copies rest (λ p h. s p (among_back p a b h)) (λ x h. w x (or_right (written inner x) (frail rest x) h)))
sound_from all these fs c (choose o t x ea y end rest) s w =
    let kept = others these fs in
    let a = exposed_from these fs no_copies x in
    let b = exposed_from these kept no_copies y in
    let d = exposed_from these kept no_copies rest in
    let in_a : Within these x = λ z h. w z (or_left (written x z) (written y z || frail rest z) h) in
    let in_b : Within these y = λ z h. w z (or_right (written x z) (written y z || frail rest z) (or_left (written y z) (frail rest z) h)) in
    let in_rest : (z : ℕ) → frail rest z ≡ true → these z ≡ true = λ z h. w z (or_right (written x z) (written y z || frail rest z) (or_right (written y z) (frail rest z) h)) in (
      (in_a, in_b),
      (sound_from all these fs no_copies x (λ p h. s p (among_front p a (b ++ d) h)) (λ z h. in_a z (frail_written x z h)), sound_from all these kept no_copies y (λ p h. s p (among_back p a (b ++ d) (among_front p b d h))) (λ z h. in_b z (frail_written y z h))),
      sound_from all these kept no_copies rest (λ p h. s p (among_back p a (b ++ d) (among_back p b d h))) in_rest,
    )

pub sound_all : (ls : List Limits) (nodes : Nodes) → Sound (exposed_in ls nodes) (frail nodes) (first_facts ls) no_copies nodes
sound_all ls nodes = sound_from (exposed_in ls nodes) (frail nodes) (first_facts ls) no_copies nodes (λ o h. h) (λ x h. h)

pub first_hold : (l : List Value) (mem : Option Memory) (ls : List Limits) → HasLeast ls mem → FactsHold l mem (first_facts ls)
first_hold l mem [] h = tt
first_hold l mem (x ∷ ls) h = (h, tt)

-- ---- a memory that got longer

extends_longer : (l : List Value) (a b : Option Memory) (k : Base) (n : ℕ) → Longer a b → Extends l a k n → Extends l b k n
extends_longer l a b Zero n le h = reaches_longer a b n le h
extends_longer l a b (Local x) n le h = (h.0, h.1, reaches_longer a b (address h.0 n) le h.2)

pub facts_longer : (l : List Value) (a b : Option Memory) (fs : List Fact) → Longer a b → FactsHold l a fs → FactsHold l b fs
facts_longer l a b [] le h = tt
facts_longer l a b (f ∷ fs) le h = (extends_longer l a b f.base f.end le h.0, facts_longer l a b fs le h.1)

pub outer_longer : (os : List ℕ) (these : ℕ → Bool) (l : List Value) (a b : Option Memory) (Ls : List Label) (fss : List (List Fact)) → Longer a b → KnownOuter os these l a Ls fss → KnownOuter os these l b Ls fss
outer_longer os these l a b [] fss le h = tt
outer_longer os these l a b (L ∷ Ls) [] le h = absurd h
outer_longer os these l a b (L ∷ Ls) (fs ∷ fss) le h = (h.0, facts_longer l a b fs le h.1, h.2, h.3, h.4, outer_longer os these l a b Ls fss le h.5)

-- ---- facts that are kept, and one more

kept_holds : (l : List Value) (mem : Option Memory) (b : Bool) (f : Fact) (fs : List Fact) → FactHolds l mem f → FactsHold l mem fs → FactsHold l mem (keep_if b f fs)
kept_holds l mem true f fs h hs = (h, hs)
kept_holds l mem false f fs h hs = hs

pub others_hold : (l : List Value) (mem : Option Memory) (these : ℕ → Bool) (fs : List Fact) → FactsHold l mem fs → FactsHold l mem (others these fs)
others_hold l mem these [] h = tt
others_hold l mem these (f ∷ fs) h = kept_holds l mem (not (is_on these f.base)) f (others these fs) h.0 (others_hold l mem these fs h.1)

steady_kept : (these : ℕ → Bool) (b : Bool) (f : Fact) (fs : List Fact) → is_on these f.base ≡ b → Steady these fs → Steady these (keep_if (not b) f fs)
steady_kept these true f fs e h = h
steady_kept these false f fs e h = (e, h)

pub others_steady : (these : ℕ → Bool) (fs : List Fact) → Steady these (others these fs)
others_steady these [] = tt
others_steady these (f ∷ fs) = steady_kept these (is_on these f.base) f (others these fs) refl (others_steady these fs)

pub steady_same : (these : ℕ → Bool) (fs : List Fact) → Steady these fs → others these fs ≡ fs
steady_same these [] h = refl
steady_same these (f ∷ fs) h = ap (λ b. keep_if (not b) f (others these fs)) h.0 ∙ ap (λ z. f ∷ z) (steady_same these fs h.1)

one_more_holds : (l : List Value) (mem : Option Memory) (fs : List Fact) (f : Fact) → FactsHold l mem fs → FactHolds l mem f → FactsHold l mem (fs ++ f ∷ [])
one_more_holds l mem [] f h k = (k, tt)
one_more_holds l mem (g ∷ fs) f h k = (h.0, one_more_holds l mem fs f h.1 k)

one_noted_holds : (l : List Value) (mem : Option Memory) (b : Bool) (f : Fact) (fs : List Fact) → FactsHold l mem fs → FactHolds l mem f → FactsHold l mem (one_noted b f fs)
one_noted_holds l mem true f fs h k = one_more_holds l mem fs f h k
one_noted_holds l mem false f fs h k = h

abbrev pub ShownHolds : List Value → Option Memory → Option Fact → Type 0
ShownHolds l mem None = Unit {0}
ShownHolds l mem (Some f) = FactHolds l mem f

noted_holds : (l : List Value) (mem : Option Memory) (o : Option Fact) (fs : List Fact) → FactsHold l mem fs → ShownHolds l mem o → FactsHold l mem (noted o fs)
noted_holds l mem None fs h k = h
noted_holds l mem (Some f) fs h k = one_noted_holds l mem (not (answered f fs) && nat_lt (length fs) most_facts) f fs h k

-- ---- a local that is written

-- on no local for which this test holds, and it holds for x
other_base : (l : List Value) (mem : Option Memory) (these : ℕ → Bool) (x : ℕ) (v : Value) (k : Base) (n : ℕ) → these x ≡ true → is_on these k ≡ false → Extends l mem k n → Extends (slice_set l x v) mem k n
other_base l mem these x v Zero n t e h = h
other_base l mem these x v (Local y) n t e h = let ne : y ≢ x = λ z. differs (ap these z) in (h.0, slice_get-put_other l y x v ne ∙ h.1, h.2)
  where
    differs : these y ≡ these x → ⊥
    differs z = cc

freed_holds : (l : List Value) (mem : Option Memory) (x : ℕ) (v : Value) (b : Bool) (f : Fact) (fs : List Fact) → is_on (is_local (Some x)) f.base ≡ b → FactHolds l mem f → FactsHold (slice_set l x v) mem fs → FactsHold (slice_set l x v) mem (keep_if (not b) f fs)
freed_holds l mem x v true f fs e h hs = hs
freed_holds l mem x v false f fs e h hs = (other_base l mem (is_local (Some x)) x v f.base f.end (same_number x) e h, hs)

set_holds : (l : List Value) (mem : Option Memory) (x : ℕ) (v : Value) (fs : List Fact) → FactsHold l mem fs → FactsHold (slice_set l x v) mem (others (is_local (Some x)) fs)
set_holds l mem x v [] h = tt
set_holds l mem x v (f ∷ fs) h = freed_holds l mem x v (is_on (is_local (Some x)) f.base) f (others (is_local (Some x)) fs) refl h.0 (set_holds l mem x v fs h.1)

abbrev pub Wrote : Option ℕ → List Value → List Value → Type 0
Wrote None l l' = l' ≡ l
Wrote (Some x) l l' = (v : Value) × (l' ≡ slice_set l x v)

written_holds : (o : Option ℕ) (l l' : List Value) (mem : Option Memory) (fs : List Fact) → Wrote o l l' → FactsHold l mem fs → FactsHold l' mem (others (is_local o) fs)
written_holds None l l' mem fs w h = subst (λ z. FactsHold z mem (others (is_local None) fs)) (sym w) (others_hold l mem (is_local None) fs h)
written_holds (Some x) l l' mem fs w h = subst (λ z. FactsHold z mem (others (is_local (Some x)) fs)) (sym w.1) (set_holds l mem x w.0 fs h)

steady_set : (these : ℕ → Bool) (l : List Value) (mem : Option Memory) (x : ℕ) (v : Value) (fs : List Fact) → these x ≡ true → Steady these fs → FactsHold l mem fs → FactsHold (slice_set l x v) mem fs
steady_set these l mem x v [] e s h = tt
steady_set these l mem x v (f ∷ fs) e s h = (other_base l mem these x v f.base f.end e s.0 h.0, steady_set these l mem x v fs e s.1 h.1)

outer_set : (os : List ℕ) (these : ℕ → Bool) (l : List Value) (mem : Option Memory) (x : ℕ) (v : Value) (Ls : List Label) (fss : List (List Fact)) → these x ≡ true → KnownOuter os these l mem Ls fss → KnownOuter os these (slice_set l x v) mem Ls fss
outer_set os these l mem x v [] fss e h = tt
outer_set os these l mem x v (L ∷ Ls) [] e h = absurd h
outer_set os these l mem x v (L ∷ Ls) (fs ∷ fss) e h = (h.0, steady_set these l mem x v fs e h.0 h.1, h.2, h.3, h.4, outer_set os these l mem x v Ls fss e h.5)

pub outer_written : (os : List ℕ) (these : ℕ → Bool) (o : Option ℕ) (l l' : List Value) (mem : Option Memory) (Ls : List Label) (fss : List (List Fact)) → Wrote o l l' → ((x : ℕ) → o ≡ Some x → these x ≡ true) → KnownOuter os these l mem Ls fss → KnownOuter os these l' mem Ls fss
outer_written os these None l l' mem Ls fss w t h = subst (λ z. KnownOuter os these z mem Ls fss) (sym w) h
outer_written os these (Some x) l l' mem Ls fss w t h = subst (λ z. KnownOuter os these z mem Ls fss) (sym w.1) (outer_set os these l mem x w.0 Ls fss (t x refl) h)

-- ---- what an instruction does

written_is : (i : Basic) → local_written i ≡ local_of (effect_class i)
written_is Nop = refl
written_is Drop = refl
written_is Select = refl
written_is (LocalGet x) = refl
written_is (LocalSet x) = refl
written_is (LocalTee x) = refl
written_is (GlobalGet x) = refl
written_is (GlobalSet x) = refl
written_is (Load t align o) = refl
written_is (Store t align o) = refl
written_is MemorySize = refl
written_is MemoryGrow = refl
written_is MemoryCopy = refl
written_is MemoryFill = refl
written_is (Const v) = refl
written_is (Eqz t) = refl
written_is (Unary t op) = refl
written_is (Compare t op) = refl
written_is (Binary t op) = refl
written_is (Convert k) = refl
written_is (Extend32 k) = refl
written_is (Extend64 k) = refl

gives_locals : (k : EffectClass) (w w' : World) (l l' : List Value) → MayGive k w l w' l' → Wrote (local_of k) l l'
gives_locals Pure w w' l l' h = h.0
gives_locals Dividing w w' l l' h = h.0
gives_locals Accessing w w' l l' h = h.0
gives_locals (SetsLocal x) w w' l l' h = (h.1, h.2)
gives_locals (SetsGlobal x) w w' l l' h = h.0

accessed_longer : (m m' : Memory) → Accessed m m' → length m.bytes ≤ length m'.bytes
accessed_longer m m' (inl (at, bytes, e)) = put_longer m m' at bytes e
accessed_longer m m' (inr (inl (to, from, n, e))) = copy_longer m m' to from n (nat_le (from + n) (length m.bytes)) e
accessed_longer m m' (inr (inr (n, e))) = grow_longer m m' n (nat_le (pages m + n) m.max) e

writes_longer : (w w' : World) → MayWrite w w' → Longer w.memory w'.memory
writes_longer w w' (inl e) = subst (λ z. Longer w.memory z.memory) (sym e) (longer_refl w.memory)
writes_longer w w' (inr (m, m', there, acc, e)) =
    subst (λ z. Longer w.memory z.memory) (sym e) (subst (λ z. Longer z (Some m')) (sym there) (accessed_longer m m' acc))

gives_longer : (k : EffectClass) (w w' : World) (l l' : List Value) → MayGive k w l w' l' → Longer w.memory w'.memory
gives_longer Pure w w' l l' h = subst (λ z. Longer w.memory z.memory) (sym h.1) (longer_refl w.memory)
gives_longer Dividing w w' l l' h = subst (λ z. Longer w.memory z.memory) (sym h.1) (longer_refl w.memory)
gives_longer Accessing w w' l l' h = writes_longer w w' h.1
gives_longer (SetsLocal x) w w' l l' h = subst (λ z. Longer w.memory z.memory) (sym h.0) (longer_refl w.memory)
gives_longer (SetsGlobal x) w w' l l' h = subst (λ z. Longer w.memory z.memory) (sym h.2) (longer_refl w.memory)

pub does_to : (i : Basic) (w w' : World) (l l' vs ws : List Value) → effect i w l vs ≡ gives w' l' ws → Wrote (local_written i) l l' × Longer w.memory w'.memory
does_to i w w' l l' vs ws e =
    let d : Does (effect_class i) w l (gives w' l' ws) = subst (Does (effect_class i) w l) e (acts_as_class w l i vs) in
    (subst (λ o. Wrote o l l') (sym (written_is i)) (gives_locals (effect_class i) w w' l l' d), gives_longer (effect_class i) w w' l l' d)

-- ---- copies

-- under the topmost operand
top_leaves : (l : List Value) (c : Copies) (v : Value) (ops : List Value) → CopiesHold l c (v ∷ ops) → CopiesHold l (without_top c) ops
top_leaves l c v ops h = (h.1, h.2, tt)

-- where a local is written
stands_other : (l : List Value) (x : ℕ) (v : Value) (k : Base) (p : ℕ) (w : Value) → is_on (is_local (Some x)) k ≡ false → Stands l k p w → Stands (slice_set l x v) k p w
stands_other l x v Zero p w e h = h
stands_other l x v (Local y) p w e h = let ne : y ≢ x = λ z. differs (ap (λ n. x == n) z) in (slice_get-put_other l y x v ne ∙ h.0, h.1)
  where
    differs : (x == y) ≡ (x == x) → ⊥
    differs z = let t : (x == x) ≡ true = same_number x in cc

unless_holds : (l : List Value) (x : ℕ) (v : Value) (k : Copy) (b : Bool) (ops : List Value) → is_on (is_local (Some x)) k.base ≡ b → IsCopy l (Some k) ops → IsCopy (slice_set l x v) (unless b k) ops
unless_holds l x v k true ops e h = tt
unless_holds l x v k false [] e h = absurd h
unless_holds l x v k false (w ∷ ops) e h = stands_other l x v k.base k.plus w e h

other_copied : (l : List Value) (x : ℕ) (v : Value) (q : Option Copy) (ops : List Value) → IsCopy l q ops → IsCopy (slice_set l x v) (unless_on (is_local (Some x)) q) ops
other_copied l x v None ops h = tt
other_copied l x v (Some k) ops h = unless_holds l x v k (is_on (is_local (Some x)) k.base) ops refl h

others_copied : (l : List Value) (x : ℕ) (v : Value) (c : Copies) (ops : List Value) → CopiesHold l c ops → CopiesHold (slice_set l x v) (other_copies (is_local (Some x)) c) ops
others_copied l x v c ops h = (other_copied l x v c.first ops h.0, other_copied l x v c.second (under_top ops) h.1, other_copied l x v c.third (under_top (under_top ops)) h.2)

-- ---- one value is given, and no local is written

module _ (l : List Value) where
  abbrev pub OneGiven : Effect → Type 0
  OneGiven (gives g' l' ws) = (l' ≡ l) × (w : Value) × (ws ≡ w ∷ [])
  OneGiven (fails k) = Unit {0}
  OneGiven unfit = Unit {0}

  given_some : {A : Type 0} (o : Option A) (go : A → Effect) → ((x : A) → OneGiven (go x)) → OneGiven (with_some o go)
  given_some None go h = tt
  given_some (Some x) go h = h x

  given_one : (t : ValType) (go : ℕ → Effect) (vs : List Value) → ((n : ℕ) → OneGiven (go n)) → OneGiven (on_one t go vs)
  given_one t go [] h = tt
  given_one t go (v ∷ []) h = given_some (number t v) go h
  given_one t go (v ∷ _ ∷ _) h = tt

  given_two : (t u : ValType) (go : ℕ → ℕ → Effect) (vs : List Value) → ((n m : ℕ) → OneGiven (go n m)) → OneGiven (on_two t u go vs)
  given_two t u go [] h = tt
  given_two t u go (v ∷ []) h = tt
  given_two t u go (v ∷ w ∷ []) h = given_some (number t v) (λ n. with_some (number u w) (go n)) (λ n. given_some (number u w) (go n) (h n))
  given_two t u go (v ∷ w ∷ _ ∷ _) h = tt

  given_bounded : {A : Type 0} (o : Option A) (go : A → Effect) → ((x : A) → OneGiven (go x)) → OneGiven (in_bounds o go)
  given_bounded None go h = tt
  given_bounded (Some x) go h = h x

  given_divided : (r : Result ℕ ArithTrap) (go : ℕ → Effect) → ((n : ℕ) → OneGiven (go n)) → OneGiven (divides r go)
  given_divided (Ok n) go h = h n
  given_divided (Err trap) go h = tt

-- ---- what an access shows, and one that is answered

length-to_bytes : (n v : ℕ) → length (to_bytes n v) ≡ n
length-to_bytes zero v = refl
length-to_bytes (suc n) v = ap suc (length-to_bytes n (v / 256))

module _ (g : World) (l : List Value) where
  -- the effects of a load and a store at an address, by the memory
  abbrev Loads : Loading → ℕ → ℕ → Option Memory → Effect
  Loads t a o r = with_some r (λ m. in_bounds (memories.load m (address a o) (load_bits t / 8)) (λ n. gives g l (value (load_type t) (loaded t n) ∷ [])))

  abbrev Stores : Storing → ℕ → ℕ → ℕ → Option Memory → Effect
  Stores t n a o r = with_some r (λ m. in_bounds (memories.put m (address a o) (to_bytes (store_bits t / 8) n)) (λ m'. gives (with_memory g m') l []))

  load_in : (m : Memory) (a o k : ℕ) (go : ℕ → Effect) (q : Bool) (g' : World) (l' ws : List Value) → nat_le (address a o + k) (length m.bytes) ≡ q → in_bounds (if q then Some (from_bytes (memories.window m.bytes (address a o) k)) else None) go ≡ gives g' l' ws → address a (o + k) ≤ length m.bytes
  load_in m a o k go true g' l' ws q e = omega (arith, leb-true (address a o + k) (length m.bytes) q)
  load_in m a o k go false g' l' ws q e = absurd (cc)

  loads_reach : (t : Loading) (a o : ℕ) (r : Option Memory) (g' : World) (l' ws : List Value) → Loads t a o r ≡ gives g' l' ws → Reaches r (address a (o + load_bits t / 8))
  loads_reach t a o None g' l' ws e = absurd (cc)
  loads_reach t a o (Some m) g' l' ws e = load_in m a o (load_bits t / 8) (λ n. gives g l (value (load_type t) (loaded t n) ∷ [])) (nat_le (address a o + load_bits t / 8) (length m.bytes)) g' l' ws refl e

  put_in : (m : Memory) (a o k : ℕ) (new : List ℕ) (go : Memory → Effect) (q : Bool) (g' : World) (l' ws : List Value) → length new ≡ k → nat_le (address a o + length new) (length m.bytes) ≡ q → in_bounds (if q then Some (record m { bytes = memories.splice m.bytes (address a o) new }) else None) go ≡ gives g' l' ws → address a (o + k) ≤ length m.bytes
  put_in m a o k new go true g' l' ws n q e = omega (arith, n, leb-true (address a o + length new) (length m.bytes) q)
  put_in m a o k new go false g' l' ws n q e = absurd (cc)

  stores_reach : (t : Storing) (n a o : ℕ) (r : Option Memory) (g' : World) (l' ws : List Value) → Stores t n a o r ≡ gives g' l' ws → Reaches r (address a (o + store_bits t / 8))
  stores_reach t n a o None g' l' ws e = absurd (cc)
  stores_reach t n a o (Some m) g' l' ws e =
      let new = to_bytes (store_bits t / 8) n in
      put_in m a o (store_bits t / 8) new (λ m'. gives (with_memory g m') l []) (nat_le (address a o + length new) (length m.bytes)) g' l' ws (length-to_bytes (store_bits t / 8) n) refl e

  -- of a number, or a copy
  stands_reach : (r : Option Memory) (k : Base) (p a n : ℕ) → Stands l k p (values.I32 a) → Reaches r (address a n) → Extends l r k (p + n)
  stands_reach r Zero p a n h e =
      let same : values.I32 h.0 ≡ values.I32 a = sym h.1 in
      let one : h.0 ≡ a = cc in
      let z : modulo I32 a ≡ p = subst (λ x. modulo I32 x ≡ p) one h.2 in
      subst (λ q. Reaches r (q + n)) z e
  stands_reach r (Local x) p a n h e = let z : 0 + n ≡ n = omega arith in (a, h.0, subst (λ q. Reaches r (address a (q + n))) (sym h.1) (subst (λ q. Reaches r (address a q)) (sym z) e))

  load_shows : (t : Loading) (o : ℕ) (q : Option Copy) (v : Value) (ops : List Value) (align : ℕ) (g' : World) (l' ws : List Value) → IsCopy l q (v ∷ ops) → effect (Load t align o) g l (v ∷ []) ≡ gives g' l' ws → ShownHolds l g.memory (reach q (o + load_bits t / 8))
  load_shows t o None v ops align g' l' ws h e = tt
  load_shows t o (Some k) (values.I64 n) ops align g' l' ws h e = absurd (cc)
  load_shows t o (Some k) (values.I32 a) ops align g' l' ws h e = stands_reach g.memory k.base k.plus a (o + load_bits t / 8) h (loads_reach t a o g.memory g' l' ws e)

  store_shows : (t : Storing) (o : ℕ) (q : Option Copy) (v w : Value) (ops : List Value) (align : ℕ) (g' : World) (l' ws : List Value) → IsCopy l q (w ∷ ops) → effect (Store t align o) g l (v ∷ w ∷ []) ≡ gives g' l' ws → ShownHolds l g.memory (reach q (o + store_bits t / 8))
  store_shows t o None v w ops align g' l' ws h e = tt
  store_shows t o (Some k) v w ops align g' l' ws h e = by_number (number (store_type t) v) w h e
    where
      by_number : (r : Option ℕ) (w : Value) → IsCopy l (Some k) (w ∷ ops) → with_some r (λ n. with_some (number I32 w) (λ a. Stores t n a o g.memory)) ≡ gives g' l' ws → ShownHolds l g.memory (reach (Some k) (o + store_bits t / 8))
      by_number None w h e = absurd (cc)
      by_number (Some n) (values.I64 a) h e = absurd (cc)
      by_number (Some n) (values.I32 a) h e = stands_reach g.memory k.base k.plus a (o + store_bits t / 8) h (stores_reach t n a o g.memory g' l' ws e)

  pub shown_holds : (i : Basic) (c : Copies) (ops vs below : List Value) (g' : World) (l' ws : List Value) → CopiesHold l c ops → cut (takes i) ops ≡ parts vs below → effect i g l vs ≡ gives g' l' ws → ShownHolds l g.memory (shown i c)
  shown_holds (Load t align o) c [] vs below g' l' ws h u e = absurd (cc)
  shown_holds (Load t align o) c (v ∷ ops) vs below g' l' ws h u e =
      let z : vs ≡ v ∷ [] = cc in load_shows t o c.first v ops align g' l' ws h.0 (subst (λ z. effect (Load t align o) g l z ≡ gives g' l' ws) z e)
  shown_holds (Store t align o) c [] vs below g' l' ws h u e = absurd (cc)
  shown_holds (Store t align o) c (v ∷ []) vs below g' l' ws h u e = absurd (cc)
  shown_holds (Store t align o) c (v ∷ w ∷ ops) vs below g' l' ws h u e =
      let z : vs ≡ v ∷ w ∷ [] = cc in store_shows t o c.second v w ops align g' l' ws h.1 (subst (λ z. effect (Store t align o) g l z ≡ gives g' l' ws) z e)
  shown_holds Nop c ops vs below g' l' ws h u e = tt
  shown_holds Drop c ops vs below g' l' ws h u e = tt
  shown_holds Select c ops vs below g' l' ws h u e = tt
  shown_holds (LocalGet x) c ops vs below g' l' ws h u e = tt
  shown_holds (LocalSet x) c ops vs below g' l' ws h u e = tt
  shown_holds (LocalTee x) c ops vs below g' l' ws h u e = tt
  shown_holds (GlobalGet x) c ops vs below g' l' ws h u e = tt
  shown_holds (GlobalSet x) c ops vs below g' l' ws h u e = tt
  shown_holds MemorySize c ops vs below g' l' ws h u e = tt
  shown_holds MemoryGrow c ops vs below g' l' ws h u e = tt
  shown_holds MemoryCopy c ops vs below g' l' ws h u e = tt
  shown_holds MemoryFill c ops vs below g' l' ws h u e = tt
  shown_holds (Const v) c ops vs below g' l' ws h u e = tt
  shown_holds (Eqz t) c ops vs below g' l' ws h u e = tt
  shown_holds (Unary t op) c ops vs below g' l' ws h u e = tt
  shown_holds (Compare t op) c ops vs below g' l' ws h u e = tt
  shown_holds (Binary t op) c ops vs below g' l' ws h u e = tt
  shown_holds (Convert k) c ops vs below g' l' ws h u e = tt
  shown_holds (Extend32 k) c ops vs below g' l' ws h u e = tt
  shown_holds (Extend64 k) c ops vs below g' l' ws h u e = tt

  -- ---- an answer

  reaches_less : (r : Option Memory) (m n : ℕ) → m ≤ n → Reaches r n → Reaches r m
  reaches_less None m n le h = absurd h
  reaches_less (Some k) m n le h = omega (arith, le, h)

  extends_less : (r : Option Memory) (k : Base) (m n : ℕ) → m ≤ n → Extends l r k n → Extends l r k m
  extends_less r Zero m n le h = reaches_less r m n le h
  extends_less r (Local x) m n le h = (h.0, h.1, reaches_less r (address h.0 m) (address h.0 n) (omega (arith, le)) h.2)

  bases_are : (a b : Base) → same_base a b ≡ true → a ≡ b
  bases_are Zero Zero e = refl
  bases_are Zero (Local y) e = absurd (cc)
  bases_are (Local x) Zero e = absurd (cc)
  bases_are (Local x) (Local y) e = ap Local (eqb-true x y e)

  found : (f h : Fact) (fs : List Fact) (b : Bool) → (same_base h.base f.base && nat_le f.end h.end) ≡ b → (b || answered f fs) ≡ true → FactHolds l g.memory h → (answered f fs ≡ true → FactHolds l g.memory f) → FactHolds l g.memory f
  found f h fs true b e k go =
      let p = and_parts (same_base h.base f.base) (nat_le f.end h.end) b in
      subst (λ z. Extends l g.memory z f.end) (bases_are h.base f.base p.0) (extends_less g.memory h.base f.end h.end (leb-true f.end h.end p.1) k)
  found f h fs false b e k go = go e

  answer_holds : (f : Fact) (fs : List Fact) → answered f fs ≡ true → FactsHold l g.memory fs → FactHolds l g.memory f
  answer_holds f [] e h = absurd (cc)
  answer_holds f (k ∷ fs) e h = found f k fs (same_base k.base f.base && nat_le f.end k.end) refl e h.0 (λ a. answer_holds f fs a h.1)

  load_fits : (m : Memory) (a o k : ℕ) (go : ℕ → Effect) (q : Bool) (j : ℕ) → ((n : ℕ) → go n ≡ fails j → ⊥) → nat_le (address a o + k) (length m.bytes) ≡ q → address a (o + k) ≤ length m.bytes → in_bounds (if q then Some (from_bytes (memories.window m.bytes (address a o) k)) else None) go ≡ fails j → ⊥
  load_fits m a o k go true j never q le e = never (from_bytes (memories.window m.bytes (address a o) k)) e
  load_fits m a o k go false j never q le e = let t : nat_le (address a o + k) (length m.bytes) ≡ true = le-leb (address a o + k) (length m.bytes) (omega (arith, le)) in cc

  loads_fit : (t : Loading) (a o : ℕ) (r : Option Memory) (j : ℕ) → Reaches r (address a (o + load_bits t / 8)) → Loads t a o r ≡ fails j → ⊥
  loads_fit t a o None j h e = absurd h
  loads_fit t a o (Some m) j h e =
      load_fits m a o (load_bits t / 8) (λ n. gives g l (value (load_type t) (loaded t n) ∷ [])) (nat_le (address a o + load_bits t / 8) (length m.bytes)) j (λ n z. cc) refl h e

  put_fits_in : (m : Memory) (a o k : ℕ) (new : List ℕ) (go : Memory → Effect) (q : Bool) (j : ℕ) → ((m' : Memory) → go m' ≡ fails j → ⊥) → length new ≡ k → nat_le (address a o + length new) (length m.bytes) ≡ q → address a (o + k) ≤ length m.bytes → in_bounds (if q then Some (record m { bytes = memories.splice m.bytes (address a o) new }) else None) go ≡ fails j → ⊥
  put_fits_in m a o k new go true j never n q le e = never (record m { bytes = memories.splice m.bytes (address a o) new }) e
  put_fits_in m a o k new go false j never n q le e = let t : nat_le (address a o + length new) (length m.bytes) ≡ true = le-leb (address a o + length new) (length m.bytes) (omega (arith, n, le)) in cc

  stores_fit : (t : Storing) (n a o : ℕ) (r : Option Memory) (j : ℕ) → Reaches r (address a (o + store_bits t / 8)) → Stores t n a o r ≡ fails j → ⊥
  stores_fit t n a o None j h e = absurd h
  stores_fit t n a o (Some m) j h e =
      let new = to_bytes (store_bits t / 8) n in
      put_fits_in m a o (store_bits t / 8) new (λ m'. gives (with_memory g m') l []) (nat_le (address a o + length new) (length m.bytes)) j (λ m' z. cc) (length-to_bytes (store_bits t / 8) n) refl h e

  -- from the value that stands there
  stood_reach : (r : Option Memory) (k : Base) (p a n : ℕ) → Stands l k p (values.I32 a) → Extends l r k (p + n) → Reaches r (address a n)
  stood_reach r Zero p a n h e =
      let same : values.I32 h.0 ≡ values.I32 a = sym h.1 in
      let one : h.0 ≡ a = cc in
      let z : modulo I32 a ≡ p = subst (λ x. modulo I32 x ≡ p) one h.2 in
      subst (λ q. Reaches r (q + n)) (sym z) e
  stood_reach r (Local x) p a n h e =
      let same : Some (values.I32 e.0) ≡ Some (values.I32 a) = sym e.1 ∙ h.0 in
      let one : e.0 ≡ a = cc in
      let z : p + n ≡ n = omega (arith, h.1) in
      subst (λ q. Reaches r (address q n)) one (subst (λ q. Reaches r (address e.0 q)) z e.2)

  load_safe : (t : Loading) (o : ℕ) (q : Option Copy) (v : Value) (ops : List Value) (align j : ℕ) (fs : List Fact) → IsCopy l q (v ∷ ops) → FactsHold l g.memory fs → is_answered (reach q (o + load_bits t / 8)) fs ≡ true → effect (Load t align o) g l (v ∷ []) ≡ fails j → ⊥
  load_safe t o None v ops align j fs h hs a e = cc
  load_safe t o (Some k) (values.I64 n) ops align j fs h hs a e = cc
  load_safe t o (Some k) (values.I32 n) ops align j fs h hs a e =
      let f = answer_holds (record { base = k.base; end = k.plus + (o + load_bits t / 8) }) fs a hs in
      loads_fit t n o g.memory j (stood_reach g.memory k.base k.plus n (o + load_bits t / 8) h f) e

  store_safe : (t : Storing) (o : ℕ) (q : Option Copy) (v w : Value) (ops : List Value) (align j : ℕ) (fs : List Fact) → IsCopy l q (w ∷ ops) → FactsHold l g.memory fs → is_answered (reach q (o + store_bits t / 8)) fs ≡ true → effect (Store t align o) g l (v ∷ w ∷ []) ≡ fails j → ⊥
  store_safe t o None v w ops align j fs h hs a e = cc
  store_safe t o (Some k) v w ops align j fs h hs a e = by_number (number (store_type t) v) w h e
    where
      by_number : (r : Option ℕ) (w : Value) → IsCopy l (Some k) (w ∷ ops) → with_some r (λ n. with_some (number I32 w) (λ a. Stores t n a o g.memory)) ≡ fails j → ⊥
      by_number None w h e = cc
      by_number (Some n) (values.I64 b) h e = cc
      by_number (Some n) (values.I32 b) h e =
          let f = answer_holds (record { base = k.base; end = k.plus + (o + store_bits t / 8) }) fs a hs in
          stores_fit t n b o g.memory j (stood_reach g.memory k.base k.plus b (o + store_bits t / 8) h f) e

  by_risk : (i : Basic) (c : Copies) (ops vs below : List Value) (fs : List Fact) (j : ℕ) → Risky i → CopiesHold l c ops → FactsHold l g.memory fs → is_answered (shown i c) fs ≡ true → cut (takes i) ops ≡ parts vs below → effect i g l vs ≡ fails j → ⊥
  by_risk i c ops vs below fs j (risky_binary t op by) h hs a u e = cc
  by_risk i c [] vs below fs j (risky_load t align o) h hs a u e = cc
  by_risk i c (v ∷ ops) vs below fs j (risky_load t align o) h hs a u e =
      let z : vs ≡ v ∷ [] = cc in load_safe t o c.first v ops align j fs h.0 hs a (subst (λ z. effect (Load t align o) g l z ≡ fails j) z e)
  by_risk i c [] vs below fs j (risky_store t align o) h hs a u e = cc
  by_risk i c (v ∷ []) vs below fs j (risky_store t align o) h hs a u e = cc
  by_risk i c (v ∷ w ∷ ops) vs below fs j (risky_store t align o) h hs a u e =
      let z : vs ≡ v ∷ w ∷ [] = cc in store_safe t o c.second v w ops align j fs h.1 hs a (subst (λ z. effect (Store t align o) g l z ≡ fails j) z e)
  by_risk i c ops vs below fs j risky_copy h hs a u e = cc
  by_risk i c ops vs below fs j risky_fill h hs a u e = cc

  -- one that is answered does not trap
  pub answered_safe : (i : Basic) (c : Copies) (ops vs below : List Value) (fs : List Fact) (j : ℕ) → can_trap i ≡ true → CopiesHold l c ops → FactsHold l g.memory fs → is_answered (shown i c) fs ≡ true → cut (takes i) ops ≡ parts vs below → effect i g l vs ≡ fails j → ⊥
  answered_safe i c ops vs below fs j t h hs a u e = by_risk i c ops vs below fs j (risk_of i t) h hs a u e

  -- ---- facts and copies behind an instruction

  pub facts_go_on : (i : Basic) (c : Copies) (ops vs below : List Value) (fs : List Fact) (g' : World) (l' ws : List Value) → CopiesHold l c ops → cut (takes i) ops ≡ parts vs below → effect i g l vs ≡ gives g' l' ws → FactsHold l g.memory fs → FactsHold l' g'.memory (facts_behind i c fs)
  facts_go_on i c ops vs below fs g' l' ws h u e hs =
      let d = does_to i g g' l l' vs ws e in
      let n = noted_holds l g.memory (shown i c) fs hs (shown_holds i c ops vs below g' l' ws h u e) in
      written_holds (local_written i) l l' g'.memory (noted (shown i c) fs) d.0 (facts_longer l g.memory g'.memory (noted (shown i c) fs) d.1 n)

  load_gives : (t : Loading) (align o : ℕ) (vs : List Value) → OneGiven l (effect (Load t align o) g l vs)
  load_gives t align o vs =
      let found : ℕ → Effect = λ n. gives g l (value (load_type t) (loaded t n) ∷ []) in
      let go : ℕ → Memory → Effect = λ a m. in_bounds (memories.load m (address a o) (load_bits t / 8)) found in
      given_one l I32 (λ a. with_some g.memory (go a)) vs
      (λ a. given_some l g.memory (go a) (λ m. given_bounded l (memories.load m (address a o) (load_bits t / 8)) found (λ n. (refl, value (load_type t) (loaded t n), refl))))

  pub compare_gives : (t : ValType) (op : CompareOp) (vs : List Value) → OneGiven l (effect (Compare t op) g l vs)
  compare_gives t op vs = given_two l t t (λ b a. gives g l (values.I32 (bool_number (compare t op a b)) ∷ [])) vs (λ b a. (refl, values.I32 (bool_number (compare t op a b)), refl))

  pub binary_gives : (t : ValType) (op : BinaryOp) (vs : List Value) → OneGiven l (effect (Binary t op) g l vs)
  binary_gives t op vs =
      given_two l t t (λ b a. divides (binary t op a b) (λ n. gives g l (value t n ∷ []))) vs
      (λ b a. given_divided l (binary t op a b) (λ n. gives g l (value t n ∷ [])) (λ n. (refl, value t n, refl)))

  -- under one more operand
  under_holds : (l : List Value) (top : Option Copy) (v : Value) (c : Copies) (below : List Value) → IsCopy l top (v ∷ below) → CopiesHold l c below → CopiesHold l (under_one top c) (v ∷ below)
  under_holds l top v c below t h = (t, h.0, h.1)

  get_copies : (x : ℕ) (q : Option Value) (c : Copies) (ops vs below : List Value) (g' : World) (l' ws : List Value) → slice_get l x ≡ q → CopiesHold l c ops → below ≡ ops → with_some q (λ v. gives g l (v ∷ [])) ≡ gives g' l' ws → CopiesHold l' (copies_behind (LocalGet x) c) (ws ++ below)
  get_copies x None c ops vs below g' l' ws at h b e = absurd (cc)
  get_copies x (Some v) c ops vs below g' l' ws at h b e =
      let z : ws ≡ v ∷ [] = cc in
      let k : l ≡ l' = cc in
      subst (λ l'. CopiesHold l' (copies_behind (LocalGet x) c) (ws ++ below)) k (subst (λ ws. CopiesHold l (copies_behind (LocalGet x) c) (ws ++ below)) (sym z) (under_holds l (Some (copy_of x)) v c below (at, refl) (subst (CopiesHold l c) (sym b) h)))

  number_copy : (v : Value) (below : List Value) → IsCopy l (number_of v) (v ∷ below)
  number_copy (values.I32 n) below = (n, refl, refl)
  number_copy (values.I64 n) below = tt

  -- a local is written
  tee_copies : (x : ℕ) (q : Option Value) (v : Value) (c : Copies) (g' : World) (l' ws below : List Value) → CopiesHold l c below → slice_get l x ≡ q → over q v (gives g (slice_set l x v) (v ∷ [])) ≡ gives g' l' ws → CopiesHold l' (under_one (Some (copy_of x)) (other_copies (is_local (Some x)) c)) (ws ++ below)
  tee_copies x None v c g' l' ws below h at e = absurd (cc)
  tee_copies x (Some old) v c g' l' ws below h at e = by_type (same_type (type_of old) (type_of v)) e
    where
      by_type : (b : Bool) → when b (gives g (slice_set l x v) (v ∷ [])) ≡ gives g' l' ws → CopiesHold l' (under_one (Some (copy_of x)) (other_copies (is_local (Some x)) c)) (ws ++ below)
      by_type false e = absurd (cc)
      by_type true e =
          let z : ws ≡ v ∷ [] = cc in
          let k : slice_set l x v ≡ l' = cc in
          let c' = other_copies (is_local (Some x)) c in
          let written = others_copied l x v c below h in
          subst (λ m. CopiesHold m (under_one (Some (copy_of x)) c') (ws ++ below)) k
          (subst (λ us. CopiesHold (slice_set l x v) (under_one (Some (copy_of x)) c') (us ++ below)) (sym z)
          (under_holds (slice_set l x v) (Some (copy_of x)) v c' below (slice_get-put_same l x (type_of old) v (types_get l x old at), refl) written))

  -- one value takes the place of one, or of two
  one_copies : (x : Effect) (c : Copies) (v : Value) (ops below : List Value) (g' : World) (l' ws : List Value) → OneGiven l x → x ≡ gives g' l' ws → CopiesHold l c (v ∷ ops) → below ≡ ops → CopiesHold l' (under_one None (without_top c)) (ws ++ below)
  one_copies x c v ops below g' l' ws o e h b =
      let z = subst (OneGiven l) e o in
      let under = subst (CopiesHold l (without_top c)) (sym b) (top_leaves l c v ops h) in
      subst (λ m. CopiesHold m (under_one None (without_top c)) (ws ++ below)) (sym z.0) (subst (λ us. CopiesHold l (under_one None (without_top c)) (us ++ below)) (sym z.2) (under_holds l None z.1 (without_top c) below tt under))

  of_one : (i : Basic) (c : Copies) (ops vs below : List Value) (g' : World) (l' ws : List Value) → ((vs : List Value) → OneGiven l (effect i g l vs)) → CopiesHold l c ops → cut 1 ops ≡ parts vs below → effect i g l vs ≡ gives g' l' ws → CopiesHold l' (under_one None (without_top c)) (ws ++ below)
  of_one i c [] vs below g' l' ws o h u e = absurd (cc)
  of_one i c (v ∷ ops) vs below g' l' ws o h u e = let b : below ≡ ops = cc in one_copies (effect i g l vs) c v ops below g' l' ws (o vs) e h b

  of_two : (i : Basic) (c : Copies) (ops vs below : List Value) (g' : World) (l' ws : List Value) → ((vs : List Value) → OneGiven l (effect i g l vs)) → CopiesHold l c ops → cut 2 ops ≡ parts vs below → effect i g l vs ≡ gives g' l' ws → CopiesHold l' (under_one None (without_top (without_top c))) (ws ++ below)
  of_two i c [] vs below g' l' ws o h u e = absurd (cc)
  of_two i c (v ∷ []) vs below g' l' ws o h u e = absurd (cc)
  of_two i c (v ∷ w ∷ ops) vs below g' l' ws o h u e = let b : below ≡ ops = cc in one_copies (effect i g l vs) (without_top c) w ops below g' l' ws (o vs) e (top_leaves l c v (w ∷ ops) h) b

  pub copies_go_on : (i : Basic) (c : Copies) (ops vs below : List Value) (g' : World) (l' ws : List Value) → CopiesHold l c ops → cut (takes i) ops ≡ parts vs below → effect i g l vs ≡ gives g' l' ws → CopiesHold l' (copies_behind i c) (ws ++ below)
  copies_go_on (LocalGet x) c ops [] below g' l' ws h u e = get_copies x (slice_get l x) c ops [] below g' l' ws refl h (cc) e
  copies_go_on (LocalGet x) c ops (v ∷ vs) below g' l' ws h u e = absurd (cc)
  copies_go_on (Const v) c ops [] below g' l' ws h u e =
      let z : ws ≡ v ∷ [] = cc in
      let k : l ≡ l' = cc in
      let b : below ≡ ops = cc in
      subst (λ l'. CopiesHold l' (copies_behind (Const v) c) (ws ++ below)) k (subst (λ ws. CopiesHold l (copies_behind (Const v) c) (ws ++ below)) (sym z) (under_holds l (number_of v) v c below (number_copy v below) (subst (CopiesHold l c) (sym b) h)))
  copies_go_on (Const v) c ops (w ∷ vs) below g' l' ws h u e = absurd (cc)
  copies_go_on Nop c ops vs below g' l' ws h u e = (tt, tt, tt)
  copies_go_on Drop c ops vs below g' l' ws h u e = (tt, tt, tt)
  copies_go_on Select c ops vs below g' l' ws h u e = (tt, tt, tt)
  copies_go_on (LocalSet x) c ops vs below g' l' ws h u e = (tt, tt, tt)
  copies_go_on (LocalTee x) c [] vs below g' l' ws h u e = absurd (cc)
  copies_go_on (LocalTee x) c (v ∷ ops) vs below g' l' ws h u e =
      let z : vs ≡ v ∷ [] = cc in
      let b : below ≡ ops = cc in
      tee_copies x (slice_get l x) v (without_top c) g' l' ws below (subst (CopiesHold l (without_top c)) (sym b) (top_leaves l c v ops h)) refl (subst (λ z. effect (LocalTee x) g l z ≡ gives g' l' ws) z e)
  copies_go_on (GlobalGet x) c ops vs below g' l' ws h u e = (tt, tt, tt)
  copies_go_on (GlobalSet x) c ops vs below g' l' ws h u e = (tt, tt, tt)
  copies_go_on (Load t align o) c ops vs below g' l' ws h u e = of_one (Load t align o) c ops vs below g' l' ws (load_gives t align o) h u e
  copies_go_on (Store t align o) c ops vs below g' l' ws h u e = (tt, tt, tt)
  copies_go_on MemorySize c ops vs below g' l' ws h u e = (tt, tt, tt)
  copies_go_on MemoryGrow c ops vs below g' l' ws h u e = (tt, tt, tt)
  copies_go_on MemoryCopy c ops vs below g' l' ws h u e = (tt, tt, tt)
  copies_go_on MemoryFill c ops vs below g' l' ws h u e = (tt, tt, tt)
  copies_go_on (Eqz t) c ops vs below g' l' ws h u e = of_one (Eqz t) c ops vs below g' l' ws (λ vs. given_one l t (λ a. gives g l (values.I32 (bool_number (a == 0)) ∷ [])) vs (λ a. (refl, values.I32 (bool_number (a == 0)), refl))) h u e
  copies_go_on (Unary t op) c ops vs below g' l' ws h u e = of_one (Unary t op) c ops vs below g' l' ws (λ vs. given_one l t (λ a. gives g l (value t (unary t op a) ∷ [])) vs (λ a. (refl, value t (unary t op a), refl))) h u e
  copies_go_on (Compare t op) c ops vs below g' l' ws h u e = of_two (Compare t op) c ops vs below g' l' ws (compare_gives t op) h u e
  copies_go_on (Binary t op) c ops vs below g' l' ws h u e = of_two (Binary t op) c ops vs below g' l' ws (binary_gives t op) h u e
  copies_go_on (Convert k) c ops vs below g' l' ws h u e = of_one (Convert k) c ops vs below g' l' ws (λ vs. given_one l (convert_from k) (λ a. gives g l (value (convert_to k) (convert k a) ∷ [])) vs (λ a. (refl, value (convert_to k) (convert k a), refl))) h u e
  copies_go_on (Extend32 k) c ops vs below g' l' ws h u e = of_one (Extend32 k) c ops vs below g' l' ws (λ vs. given_one l I32 (λ a. gives g l (values.I32 (extend32 k a) ∷ [])) vs (λ a. (refl, values.I32 (extend32 k a), refl))) h u e
  copies_go_on (Extend64 k) c ops vs below g' l' ws h u e = of_one (Extend64 k) c ops vs below g' l' ws (λ vs. given_one l I64 (λ a. gives g l (values.I64 (extend64 k a) ∷ [])) vs (λ a. (refl, values.I64 (extend64 k a), refl))) h u e

-- ---- an instruction without a guard, where this is known

abbrev pub Safe : Ctx → World → List Value → List Value → Nodes → Type 0
Safe C g l ops (basic o i rest) =
    needs C o i ≡ false → can_trap i ≡ true → (vs below : List Value) (j : ℕ) → cut (takes i) ops ≡ parts vs below → effect i g l vs ≡ fails j → ⊥
Safe C g l ops stop = Unit {0}
Safe C g l ops (jump o j rest) = Unit {0}
Safe C g l ops (block o t inner en rest) = Unit {0}
Safe C g l ops (loop o t inner en rest) = Unit {0}
Safe C g l ops (choose o t a ea b en rest) = Unit {0}

pub safe_here : (C : Ctx) (os : List ℕ) (these : ℕ → Bool) (c : Copies) (g : World) (l ops : List Value) (nodes : Nodes) (kd : Kind) (Ls : List Label) → C.exposed ≡ os → KnownAt os these l g.memory c ops nodes kd Ls → Safe C g l ops nodes
safe_here C os these c g l ops stop kd Ls same k = tt
safe_here C os these c g l ops (basic o i rest) kd Ls same k = λ n t vs below j u e.
    let na : among o os ≡ false = subst (λ z. among o z ≡ false) same (and_false (can_trap i) (among o C.exposed) n t) in
    answered_safe g l i c ops vs below k.facts j t k.copied k.hold (k.sound.0 t na) u e
safe_here C os these c g l ops (jump o j rest) kd Ls same k = tt
safe_here C os these c g l ops (block o t inner en rest) kd Ls same k = tt
safe_here C os these c g l ops (loop o t inner en rest) kd Ls same k = tt
safe_here C os these c g l ops (choose o t a ea b en rest) kd Ls same k = tt
