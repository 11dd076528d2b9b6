-- Where a run of the original stands, the locals that are worked out of two others are so behind each step, unless they are about to be written.
use Rattle.std.proofs.Common.{◌≡◌, ◌≢◌, ℕ, zero, suc, ◌+◌, ◌-◌, ◌==◌, ◌||◌, List, [], ◌∷◌, ◌++◌, length, map, reverse, Option, Some, None, Bool, true, false, refl, sym, ap, ◌∙◌, subst, subst₂, arith, slice_get, slice_set, option_map, option_to_list, nat_lt, ltb-false, true≢false, if◌then◌else◌}
use Rattle.std.specs.List.{AllByRecursion}
use Rattle.std.proofs.lemmas.List.{length-map}
use Rattle.wasm_syntax.specs.declared.value.ValType.{ValType}
use Rattle.wasm_syntax.specs.declared.value.Value.{Value}
use Rattle.wasm_syntax.specs.declared.value.Value.TheVariants as values
use Rattle.wasm_syntax.specs.declared.instruction.Basic.{Basic}
use Rattle.wasm_syntax.specs.declared.instruction.Basic.TheVariants.{LocalGet, LocalSet, Compare, Binary}
use Rattle.wasm_syntax.specs.declared.host.HostCall.{HostCall}
use Rattle.wasm_syntax.specs.declared.host.CollectorCall.{CollectorCall}
use Rattle.wasm_syntax.specs.declared.parts.FuncType.{FuncType}
use Rattle.wasm_syntax.specs.declared.parts.Body.{Body}
use Rattle.wasm_syntax.specs.Numbers.{types, type_of, same_type}
use Rattle.wasm_syntax.specs.Tree.{Tree, Nodes, stop, basic, jump, block, loop, choose, Jump, Unreachable, Br, BrIf, BrTable, Return, Call, CallIndirect}
use Rattle.wasm_syntax.specs.Module.{Program, Function, imported, defined, defined_at, imported_at, function_types, function_at, type_at, declared_locals, option_then, same_types, same_functype}
use Rattle.wasm_syntax.specs.Host.{World, Answer, replied, told, silent, misfit, answer}
use Rattle.wasm_syntax.specs.Effect.{Effect, gives, fails, unfit, effect, takes, over, when, with_some}
use Rattle.wasm_syntax.specs.Machine.{Kind, leaves, again, returns, Label, Frame, Config, label, config, Engine, Stepped, next, Cut, short, parts, cut, top, exactly, Went, inside, outside, nowhere, arrive, arrive_some, out_some, leave, loops, land, branch, carry, same_carry, pick, function_type, entered, host_call, goes_to, deliver, moved, host, enters, applied, applied_if, calls_on, calls, calls_if, calls_entry, calls_typed, calls_indirect, branch_if, moved_if, branch_table, jumps, affects, does, chooses, runs, in_frame, steps, step}
use Rattle.wasm_syntax.proofs.Types.{same_types_are, then_found, map_found}
use Rattle.pm_text.proofs.Lists.{get_behind}
use Rattle.rewrite_bodies.specs.calls.Slots.{Derivation, local_written}
use Rattle.rewrite_bodies.specs.calls.Facts.{is_local, exposed_in}
use Rattle.rewrite_bodies.specs.calls.Derived.{derives, Trail, Nowhere, One, Two, Worked, worked_if, trail_behind, can_leave, derived_for, Derived, AllDerived, Works, Follows, ahead_unless, ahead, Keeps, Keeping, KeepingKind, KeepingLabels, Settled, DerivedAt, DerivedLabels, DerivedWaiting, derived_at, derived_of, offsets_at, offsets_of, DerivedFrame, DerivedCallers, DerivedFrames, DerivedConfig}
use Rattle.rewrite_bodies.proofs.Run.{slice_get-put_other, slice_get-put_same}
use Rattle.rewrite_bodies.proofs.Parts.{types_get}
use Rattle.rewrite_bodies.proofs.FactLaws.{same_number, Wrote, does_to, OneGiven, compare_gives, binary_gives}
use Rattle.rewrite_bodies.proofs.DerivedLaws.{derives_alike, derived_keeping, derived_first}

-- ---- where the frame can be left, all hold

all_settled : (os : List ℕ) (ds : List Derivation) (l : List Value) (nodes : Nodes) → ((x : ℕ) → ahead os nodes x ≡ false) → AllByRecursion (Settled os l nodes) ds → AllDerived l ds
all_settled os [] l nodes h s = tt
all_settled os (d ∷ ds) l nodes h s = (s.0 (h d.made), all_settled os ds l nodes h s.1)

stay_settled : (os : List ℕ) (ds : List Derivation) (l : List Value) (nodes : Nodes) → AllDerived l ds → AllByRecursion (Settled os l nodes) ds
stay_settled os [] l nodes h = tt
stay_settled os (d ∷ ds) l nodes h = (λ _. h.0, stay_settled os ds l nodes h.1)

pub all_derived_basic : (os : List ℕ) (ds : List Derivation) (l ops : List Value) (o : ℕ) (i : Basic) (rest : Nodes) (kd : Kind) (Ls : List Label) → can_leave os o i ≡ true → DerivedAt os ds l ops (basic o i rest) kd Ls → AllDerived l ds
all_derived_basic os ds l ops o i rest kd Ls e k = all_settled os ds l (basic o i rest) (λ x. ap (λ b. ahead_unless b (is_local (local_written i) x || ahead os rest x)) e) k.settled

pub all_derived_jump : (os : List ℕ) (ds : List Derivation) (l ops : List Value) (o : ℕ) (j : Jump) (rest : Nodes) (kd : Kind) (Ls : List Label) → DerivedAt os ds l ops (jump o j rest) kd Ls → AllDerived l ds
all_derived_jump os ds l ops o j rest kd Ls k = all_settled os ds l (jump o j rest) (λ x. refl) k.settled

-- ---- inside a frame

module _ (os : List ℕ) (ds : List Derivation) (l : List Value) where
  abbrev AfterMove : Went → Type 0
  AfterMove (inside Ls) = DerivedLabels os ds l Ls
  AfterMove (outside vs) = Unit {0}
  AfterMove nowhere = Unit {0}

  -- nodes begin where all hold
  starts : (ops : List Value) (nodes : Nodes) (kd : Kind) (Ls : List Label) → AllDerived l ds → Keeping os ds Nowhere nodes → KeepingKind os ds kd → KeepingLabels os ds Ls → DerivedAt os ds l ops nodes kd Ls
  starts ops nodes kd Ls a k kk ko = record { trail = Nowhere; follows = tt; settled = stay_settled os ds l nodes a; keeping = k; kind_keeps = kk; outside = ko }

  arrive_derived : (vs : List Value) (Ls : List Label) → AllDerived l ds → KeepingLabels os ds Ls → AfterMove (arrive vs Ls)
  arrive_derived vs [] a h = tt
  arrive_derived vs (L ∷ Ls) a h = starts (vs ++ L.operands) L.nodes L.kind Ls a h.0 h.1 h.2

  some_derived : (o : Option (List Value)) (Ls : List Label) → AllDerived l ds → KeepingLabels os ds Ls → AfterMove (arrive_some o Ls)
  some_derived None Ls a h = tt
  some_derived (Some vs) Ls a h = arrive_derived vs Ls a h

  out_derived : (o : Option (List Value)) → AfterMove (out_some o)
  out_derived None = tt
  out_derived (Some vs) = tt

  leave_derived : (kd : Kind) (vs : List Value) (Ls : List Label) → AllDerived l ds → KeepingLabels os ds Ls → AfterMove (leave kd vs Ls)
  leave_derived (leaves t) vs Ls a h = some_derived (exactly t vs) Ls a h
  leave_derived (again at t inner en) vs Ls a h = some_derived (exactly t vs) Ls a h
  leave_derived (returns t) vs Ls a h = out_derived (exactly t vs)

  loops_derived : (at : ℕ) (t : Option ValType) (inner : Nodes) (en : ℕ) (Ls : List Label) → AllDerived l ds → Keeping os ds Nowhere inner → KeepingLabels os ds Ls → AfterMove (loops at t inner en Ls)
  loops_derived at t inner en [] a k h = tt
  loops_derived at t inner en (L ∷ Ls) a k h = starts L.operands (loop at t inner en L.nodes) L.kind Ls a (k, h.0) h.1 h.2

  land_derived : (kd : Kind) (vs : List Value) (Ls : List Label) → AllDerived l ds → KeepingKind os ds kd → KeepingLabels os ds Ls → AfterMove (land kd vs Ls)
  land_derived (leaves t) vs Ls a k h = some_derived (top t vs) Ls a h
  land_derived (again at t inner en) vs Ls a k h = loops_derived at t inner en Ls a k h
  land_derived (returns t) vs Ls a k h = out_derived (top t vs)

  branch_outer : (n : ℕ) (vs : List Value) (Ls : List Label) → AllDerived l ds → KeepingLabels os ds Ls → AfterMove (branch n vs Ls)
  branch_outer n vs [] a h = tt
  branch_outer zero vs (L ∷ Ls) a h = land_derived L.kind vs Ls a h.1 h.2
  branch_outer (suc n) vs (L ∷ Ls) a h = branch_outer n vs Ls a h.2

  branch_derived : (n : ℕ) (vs : List Value) (L : Label) (Ls : List Label) → AllDerived l ds → KeepingKind os ds L.kind → KeepingLabels os ds Ls → AfterMove (branch n vs (L ∷ Ls))
  branch_derived zero vs L Ls a k h = land_derived L.kind vs Ls a k h
  branch_derived (suc n) vs L Ls a k h = branch_outer n vs Ls a h

-- ---- what the trail says, behind an instruction

abbrev Breaks : Basic → Type 0
Breaks i = (trail_behind Nowhere i ≡ Nowhere) × ((y : ℕ) → trail_behind (One y) i ≡ Nowhere) × ((j : Basic) (x y : ℕ) → trail_behind (Worked j x y) i ≡ Nowhere)

data Turn : Basic → Type 0 where
  gets : (z : ℕ) → Turn (LocalGet z)
  -- it takes two operands and gives one
  works : {i : Basic} → Breaks i → ((x y : ℕ) → trail_behind (Two x y) i ≡ worked_if (derives i) i x y) → takes i ≡ 2 → ((g : World) (l vs : List Value) → OneGiven l (effect i g l vs)) → Turn i
  -- behind all others nothing is said
  breaks : {i : Basic} → Breaks i → ((x y : ℕ) → trail_behind (Two x y) i ≡ Nowhere) → Turn i

turn : (i : Basic) → Turn i
turn (LocalGet z) = gets z
turn (Compare t op) = works (refl, λ y. refl, λ j x y. refl) (λ x y. refl) refl (λ g l vs. compare_gives g l t op vs)
turn (Binary t op) = works (refl, λ y. refl, λ j x y. refl) (λ x y. refl) refl (λ g l vs. binary_gives g l t op vs)
turn i = breaks (refl, λ y. refl, λ j x y. refl) (λ x y. refl)

breaks_always : (i : Basic) (t : Trail) → Breaks i → ((x y : ℕ) → trail_behind (Two x y) i ≡ Nowhere) → trail_behind t i ≡ Nowhere
breaks_always i Nowhere b two = b.0
breaks_always i (One y) b two = b.1 y
breaks_always i (Two x y) b two = two x y
breaks_always i (Worked j x y) b two = b.2 j x y

-- one more operand, of a local
pushed : (l : List Value) (t : Trail) (z : ℕ) (v : Value) (ops : List Value) → Follows l t ops → slice_get l z ≡ Some v → Follows l (trail_behind t (LocalGet z)) (v ∷ ops)
pushed l Nowhere z v ops f a = a
pushed l (One y) z v [] f a = absurd f
pushed l (One y) z v (u ∷ ops) f a = (f, a)
pushed l (Two x y) z v [] f a = absurd f
pushed l (Two x y) z v (u ∷ []) f a = absurd f
pushed l (Two x y) z v (u ∷ w ∷ ops) f a = (f.1, a)
pushed l (Worked j x y) z v ops f a = a

module _ (g g' : World) (l l' vs below ws : List Value) where
  got : (q : Option Value) → with_some q (λ v. gives g l (v ∷ [])) ≡ gives g' l' ws → (v : Value) × (q ≡ Some v) × (l' ≡ l) × (ws ≡ v ∷ [])
  got None e = absurd (cc)
  got (Some v) e = let a : l ≡ l' = cc in let b : ws ≡ v ∷ [] = cc in (v, refl, sym a, b)

  follows_get : (t : Trail) (z : ℕ) (ops : List Value) → Follows l t ops → cut 0 ops ≡ parts vs below → effect (LocalGet z) g l vs ≡ gives g' l' ws → Follows l' (trail_behind t (LocalGet z)) (ws ++ below)
  follows_get t z ops f u e =
      let none : vs ≡ [] = cc in
      let all : below ≡ ops = cc in
      let h = got (slice_get l z) (subst (λ vs. effect (LocalGet z) g l vs ≡ gives g' l' ws) none e) in
      let k : Follows l (trail_behind t (LocalGet z)) (h.0 ∷ below) = subst (λ xs. Follows l (trail_behind t (LocalGet z)) (h.0 ∷ xs)) (sym all) (pushed l t z h.0 ops f h.1) in
      subst₂ (λ m xs. Follows m (trail_behind t (LocalGet z)) (xs ++ below)) (sym h.2) (sym h.3) k

  worked_out : (b : Bool) (i : Basic) (x y : ℕ) (ops : List Value) → derives i ≡ b → OneGiven l (effect i g l vs) → Follows l (Two x y) ops → cut 2 ops ≡ parts vs below → effect i g l vs ≡ gives g' l' ws → Follows l' (worked_if b i x y) (ws ++ below)
  worked_out false i x y ops d o f u e = tt
  worked_out true i x y [] d o f u e = absurd f
  worked_out true i x y (v ∷ []) d o f u e = absurd f
  worked_out true i x y (v ∷ w ∷ ops) d o f u e =
      let two : vs ≡ v ∷ w ∷ [] = cc in
      let one : OneGiven l (gives g' l' ws) = subst (OneGiven l) e o in
      let k = derives_alike i g l vs l' ws g' d e in
      let r : Works l i x y one.1 = record { left = w; right = v; at_left = f.0; at_right = f.1; works = λ h ks. subst₂ (λ a b. effect i h ks a ≡ gives h ks b) two one.2 (k.2 h ks) } in
      subst₂ (λ m xs. Follows m (Worked i x y) (xs ++ below)) (sym one.0) (sym one.2) r

  follows_two : (t : Trail) (i : Basic) (ops : List Value) → Breaks i → ((x y : ℕ) → trail_behind (Two x y) i ≡ worked_if (derives i) i x y) → OneGiven l (effect i g l vs) → Follows l t ops → cut 2 ops ≡ parts vs below → effect i g l vs ≡ gives g' l' ws → Follows l' (trail_behind t i) (ws ++ below)
  follows_two Nowhere i ops b two o f u e = subst (λ t. Follows l' t (ws ++ below)) (sym b.0) tt
  follows_two (One y) i ops b two o f u e = subst (λ t. Follows l' t (ws ++ below)) (sym (b.1 y)) tt
  follows_two (Worked j x y) i ops b two o f u e = subst (λ t. Follows l' t (ws ++ below)) (sym (b.2 j x y)) tt
  follows_two (Two x y) i ops b two o f u e = subst (λ t. Follows l' t (ws ++ below)) (sym (two x y)) (worked_out (derives i) i x y ops refl o f u e)

  follows_turn : (t : Trail) (i : Basic) (ops : List Value) → Turn i → Follows l t ops → cut (takes i) ops ≡ parts vs below → effect i g l vs ≡ gives g' l' ws → Follows l' (trail_behind t i) (ws ++ below)
  follows_turn t i ops (gets z) f u e = follows_get t z ops f u e
  follows_turn t i ops (works b two n o) f u e = follows_two t i ops b two (o g l vs) f (subst (λ n. cut n ops ≡ parts vs below) n u) e
  follows_turn t i ops (breaks b two) f u e = subst (λ t. Follows l' t (ws ++ below)) (sym (breaks_always i t b two)) tt

-- ---- what is worked out, behind an instruction

set_over : (g g' : World) (l l' ws : List Value) (x : ℕ) (q : Option Value) (v : Value) → over q v (gives g (slice_set l x v) []) ≡ gives g' l' ws → (old : Value) × (q ≡ Some old) × (l' ≡ slice_set l x v)
set_over g g' l l' ws x None v e = absurd (cc)
set_over g g' l l' ws x (Some old) v e = (old, refl, by_type (same_type (type_of old) (type_of v)) e)
  where
    by_type : (b : Bool) → when b (gives g (slice_set l x v) []) ≡ gives g' l' ws → l' ≡ slice_set l x v
    by_type false e = absurd (cc)
    by_type true e = let k : slice_set l x v ≡ l' = cc in sym k

-- the local is written, with what the trail gave
made_here : (g g' : World) (l l' ops vs below ws : List Value) (d : Derivation) → Follows l (Worked d.instruction d.left d.right) ops → cut 1 ops ≡ parts vs below → effect (LocalSet d.made) g l vs ≡ gives g' l' ws → d.left ≢ d.made → d.right ≢ d.made → Derived l' d
made_here g g' l l' [] vs below ws d f u e nl nr = absurd f
made_here g g' l l' (v ∷ ops) vs below ws d f u e nl nr =
    let one : vs ≡ v ∷ [] = cc in
    let s = set_over g g' l l' ws d.made (slice_get l d.made) v (subst (λ vs. effect (LocalSet d.made) g l vs ≡ gives g' l' ws) one e) in
    let there = slice_get-put_same l d.made (type_of s.0) v (types_get l d.made s.0 s.1) in
    let r : Derived (slice_set l d.made v) d = record { left = f.left; right = f.right; made = v; at_left = slice_get-put_other l d.left d.made v nl ∙ f.at_left; at_right = slice_get-put_other l d.right d.made v nr ∙ f.at_right; at_made = there; works = f.works } in
    subst (λ m. Derived m d) (sym s.2) r

other_local : (l : List Value) (x : ℕ) (v : Value) (y : ℕ) → (x == y) ≡ false → slice_get (slice_set l x v) y ≡ slice_get l y
other_local l x v y e = slice_get-put_other l y x v (λ z. true≢false (sym (same_number x) ∙ ap (λ n. x == n) (sym z) ∙ e))

-- none of the three is written
kept_derived : (o : Option ℕ) (l l' : List Value) (d : Derivation) → Wrote o l l' → is_local o d.left ≡ false → is_local o d.right ≡ false → is_local o d.made ≡ false → Derived l d → Derived l' d
kept_derived None l l' d w a b c k = subst (λ m. Derived m d) (sym w) k
kept_derived (Some x) l l' d w a b c k =
    let v = w.0 in
    let r : Derived (slice_set l x v) d = record { left = k.left; right = k.right; made = k.made; at_left = other_local l x v d.left a ∙ k.at_left; at_right = other_local l x v d.right b ∙ k.at_right; at_made = other_local l x v d.made c ∙ k.at_made; works = k.works } in
    subst (λ m. Derived m d) (sym w.1) r

not_so : (a b : Bool) → (a ≡ true → b ≡ true) → b ≡ false → a ≡ false
not_so true b h e = absurd (true≢false (sym (h refl) ∙ e))
not_so false b h e = refl

not_ahead : (b c a : Bool) → c ≡ false → a ≡ false → ahead_unless b (c || a) ≡ false
not_ahead true c a m n = refl
not_ahead false c a m n = ap (λ z. z || a) m ∙ n

module _ (os : List ℕ) (g g' : World) (l l' ops vs below ws : List Value) (t : Trail) (o : ℕ) (i : Basic) (rest : Nodes) (f : Follows l t ops) (u : cut (takes i) ops ≡ parts vs below) (e : effect i g l vs ≡ gives g' l' ws) where
  settled_one : (d : Derivation) (b : Bool) → is_local (local_written i) d.made ≡ b → Settled os l (basic o i rest) d → Keeps os t i rest d → Settled os l' rest d
  settled_one d true m s k = λ n.
      let p = k.made m in
      made_here g g' l l' ops vs below ws d (subst (λ t. Follows l t ops) p.1 f) (subst (λ i. cut (takes i) ops ≡ parts vs below) p.0 u) (subst (λ i. effect i g l vs ≡ gives g' l' ws) p.0 e) p.2 p.3
  settled_one d false m s k = λ n.
      let w = (does_to i g g' l l' vs ws e).0 in
      let before = s (not_ahead (can_leave os o i) (is_local (local_written i) d.made) (ahead os rest d.made) m n) in
      kept_derived (local_written i) l l' d w (not_so (is_local (local_written i) d.left) (ahead os rest d.made) k.left n) (not_so (is_local (local_written i) d.right) (ahead os rest d.made) k.right n) m before

  settled_all : (ds : List Derivation) → AllByRecursion (Settled os l (basic o i rest)) ds → AllByRecursion (Keeps os t i rest) ds → AllByRecursion (Settled os l' rest) ds
  settled_all [] s k = tt
  settled_all (d ∷ ds) s k = (settled_one d (is_local (local_written i) d.made) refl s.0 k.0, settled_all ds s.1 k.1)

basic_derived : (os : List ℕ) (ds : List Derivation) (ops : List Value) (o : ℕ) (i : Basic) (rest : Nodes) (kd : Kind) (Ls : List Label) (g g' : World) (l l' vs below ws : List Value) → DerivedAt os ds l ops (basic o i rest) kd Ls → cut (takes i) ops ≡ parts vs below → effect i g l vs ≡ gives g' l' ws → DerivedAt os ds l' (ws ++ below) rest kd Ls
basic_derived os ds ops o i rest kd Ls g g' l l' vs below ws k u e =
    record {
      trail = trail_behind k.trail i;
      follows = follows_turn g g' l l' vs below ws k.trail i ops (turn i) k.follows u e;
      settled = settled_all os g g' l l' ops vs below ws k.trail o i rest k.follows u e ds k.settled k.keeping.0;
      keeping = k.keeping.1;
      kind_keeps = k.kind_keeps;
      outside = k.outside;
    }

-- behind a jump that goes on, with other operands
goes_on : (os : List ℕ) (ds : List Derivation) (l ops vs : List Value) (o : ℕ) (j : Jump) (rest : Nodes) (kd : Kind) (Ls : List Label) → DerivedAt os ds l ops (jump o j rest) kd Ls → DerivedAt os ds l vs rest kd Ls
goes_on os ds l ops vs o j rest kd Ls k = starts os ds l vs rest kd Ls (all_derived_jump os ds l ops o j rest kd Ls k) k.keeping k.kind_keeps k.outside

-- ---- the type of a function of a program

pub defined_type : (p : Program) (f : ℕ) (b : Body) (tree : Tree) (type : FuncType) → function_at p f ≡ Some (defined b tree type) → type_at p.module_ f ≡ Some type
defined_type p f b tree type e = by_low (nat_lt f n) refl e
  where
    n : ℕ
    n = length p.module_.imports

    by_low : (q : Bool) → nat_lt f n ≡ q → (if q then imported_at p.module_ f else defined_at p (f - n)) ≡ Some (defined b tree type) → type_at p.module_ f ≡ Some type
    by_low true lt e =
        let i = then_found (slice_get p.module_.imports f) (λ i. option_map (imported i) (slice_get p.module_.types i.ftype)) (defined b tree type) e in
        let t = map_found (slice_get p.module_.types i.0.ftype) (imported i.0) (defined b tree type) i.2 in
        let differs : imported i.0 t.0 ≡ defined b tree type = t.2 in
        absurd (cc)
    by_low false lt e =
        let t = then_found (slice_get p.module_.functions (f - n)) _ (defined b tree type) e in
        let a = then_found (slice_get p.module_.types t.0) _ (defined b tree type) t.2 in
        let c = then_found (slice_get p.module_.bodies (f - n)) _ (defined b tree type) a.2 in
        let d = map_found (slice_get p.trees (f - n)) _ (defined b tree type) c.2 in
        let same : defined c.0 d.0 a.0 ≡ defined b tree type = d.2 in
        let own : a.0 ≡ type = cc in
        let many = length-map p.module_.imports (λ i. i.ftype) in
        let at : f ≡ length (map (λ i. i.ftype) p.module_.imports) + (f - n) = omega (arith, many, ltb-false f n lt) in
        let there : slice_get (function_types p.module_) f ≡ Some t.0 = ap (slice_get (function_types p.module_)) at ∙ get_behind (map (λ i. i.ftype) p.module_.imports) p.module_.functions (f - n) ∙ t.1 in
        ap (λ q. option_then q (slice_get p.module_.types)) there ∙ a.1 ∙ ap Some own

-- ---- a step

module _ (M : Engine) where
  abbrev pub DerivedStepped : Stepped → Type 0
  DerivedStepped (next c) = DerivedConfig M.program c
  DerivedStepped r = Unit {0}

  abbrev os_of : Frame → List ℕ
  os_of F = offsets_of M.program F.function

  abbrev ds_of : Frame → List Derivation
  ds_of F = derived_of M.program F.function

  abbrev At : Frame → List Value → Nodes → Kind → List Label → Type 0
  At F ops nodes kd Ls = DerivedAt (os_of F) (ds_of F) F.locals ops nodes kd Ls

  deliver_derived : (vs : List Value) (Fs : List Frame) (w : World) (co : List CollectorCall) → DerivedCallers M.program Fs → DerivedStepped (deliver M vs Fs w co)
  deliver_derived vs [] w co h = tt
  deliver_derived vs (F ∷ Fs) w co h = by_labels F.labels h.0
    where
      by_labels : (Ls : List Label) → DerivedWaiting (os_of F) (ds_of F) F.locals Ls → DerivedStepped (goes_to M (arrive vs Ls) F Fs w co)
      by_labels [] k = tt
      by_labels (L ∷ Ls) k = (arrive_derived (os_of F) (ds_of F) F.locals vs (L ∷ Ls) k.0 k.1, h.1)

  moved_derived : (x : Went) (F : Frame) (Fs : List Frame) (w : World) (co : List CollectorCall) → AfterMove (os_of F) (ds_of F) F.locals x → DerivedCallers M.program Fs → DerivedStepped (moved M x F Fs w co)
  moved_derived (inside Ls) F Fs w co h hs = (h, hs)
  moved_derived (outside vs) F Fs w co h hs = deliver_derived vs Fs w co hs
  moved_derived nowhere F Fs w co h hs = tt

  moved_if_derived : (q : Bool) (x : Went) (F : Frame) (Fs : List Frame) (w : World) (co : List CollectorCall) → AfterMove (os_of F) (ds_of F) F.locals x → DerivedCallers M.program Fs → DerivedStepped (moved_if M q x F Fs w co)
  moved_if_derived false x F Fs w co h hs = tt
  moved_if_derived true x F Fs w co h hs = moved_derived x F Fs w co h hs

  -- the frame of a function that begins
  begins : (g : ℕ) (b : Body) (tree : Tree) (type : FuncType) (args : List Value) → function_at M.program g ≡ Some (defined b tree type) → length args ≡ length type.params → DerivedFrame M.program (entered g b tree type args)
  begins g b tree type args e many =
      let m = M.program.module_ in
      let F = entered g b tree type args in
      let locals = type.params ++ declared_locals b.groups in
      let first = derived_first m g type (declared_locals b.groups) args tree.nodes (defined_type M.program g b tree type e) many in
      subst (λ q. DerivedLabels (offsets_at m q) (derived_at m g q) F.locals F.labels) (sym e)
      (starts (exposed_in m.memories tree.nodes) (derived_for m g locals tree.nodes) F.locals [] tree.nodes (returns F.result) [] first (derived_keeping m g locals tree.nodes) tt tt)

  module _ (F : Frame) (L : Label) (Ls : List Label) (Fs : List Frame) (w : World) (co : List CollectorCall) (hs : DerivedCallers M.program Fs) where
    module _ (at : ℕ) (ops : List Value) (o : ℕ) (j : Jump) (rest : Nodes) (k : At F ops (jump o j rest) L.kind Ls) where
      all : AllDerived F.locals (ds_of F)
      all = all_derived_jump (os_of F) (ds_of F) F.locals ops o j rest L.kind Ls k

      goes_behind : (vs : List Value) → At F vs rest L.kind Ls
      goes_behind vs = goes_on (os_of F) (ds_of F) F.locals ops vs o j rest L.kind Ls k

      host_derived : (r : Answer) (call : HostCall) (below : List Value) → DerivedStepped (host M r call below rest F L Ls Fs w co)
      host_derived (replied w' v) call below = (goes_behind (option_to_list v ++ below), hs)
      host_derived (told d) call below = (goes_behind below, hs)
      host_derived silent call below = tt
      host_derived (misfit reply) call below = tt

      enter_derived : (q : Bool) (g : ℕ) (b : Body) (tree : Tree) (type : FuncType) (args below : List Value) → function_at M.program g ≡ Some (defined b tree type) → length args ≡ length type.params → DerivedStepped (enters M q (entered g b tree type args) below at rest F L Ls Fs w co)
      enter_derived false g b tree type args below e many = tt
      enter_derived true g b tree type args below e many = (begins g b tree type args e many, ((all, (k.keeping, k.kind_keeps, k.outside)), hs))

      applied_derived : (f : Function) (g : ℕ) (args below : List Value) → function_at M.program g ≡ Some f → length args ≡ length (function_type f).params → DerivedStepped (applied M f g args below at rest F L Ls Fs w co)
      applied_derived (imported i type) g args below e many = host_derived (answer M.collects M.program.module_ (host_call g i type args) w) (host_call g i type args) below
      applied_derived (defined b tree type) g args below e many = enter_derived (nat_lt (suc (length Fs)) M.depth) g b tree type args below e many

      applied_if_derived : (q : Bool) (f : Function) (g : ℕ) (args below : List Value) → function_at M.program g ≡ Some f → same_types (types args) (function_type f).params ≡ q → DerivedStepped (applied_if M q f g args below at rest F L Ls Fs w co)
      applied_if_derived false f g args below e same = tt
      applied_if_derived true f g args below e same =
          applied_derived f g args below e (sym (length-map args type_of) ∙ ap length (same_types_are (types args) (function_type f).params same))

      calls_on_derived : (f : Function) (g : ℕ) (u : Cut) → function_at M.program g ≡ Some f → DerivedStepped (calls_on M f g u at rest F L Ls Fs w co)
      calls_on_derived f g short e = tt
      calls_on_derived f g (parts vs below) e = applied_if_derived (same_types (types (reverse vs)) (function_type f).params) f g (reverse vs) below e refl

      calls_derived : (q : Option Function) (g : ℕ) (vs : List Value) → function_at M.program g ≡ q → DerivedStepped (calls M q g vs at rest F L Ls Fs w co)
      calls_derived None g vs e = tt
      calls_derived (Some f) g vs e = calls_on_derived f g (cut (length (function_type f).params) vs) e

      calls_if_derived : (q : Option Bool) (g : ℕ) (vs : List Value) → DerivedStepped (calls_if M q g vs at rest F L Ls Fs w co)
      calls_if_derived None g vs = tt
      calls_if_derived (Some false) g vs = tt
      calls_if_derived (Some true) g vs = calls_derived (function_at M.program g) g vs refl

      entry_derived : (q : Option (Option ℕ)) (type : FuncType) (vs : List Value) → DerivedStepped (calls_entry M q type vs at rest F L Ls Fs w co)
      entry_derived None type vs = tt
      entry_derived (Some None) type vs = tt
      entry_derived (Some (Some g)) type vs = calls_if_derived (option_map (λ u. same_functype u type) (type_at M.program.module_ g)) g vs

      typed_derived : (t : Option FuncType) (q : Option (Option ℕ)) (vs : List Value) → DerivedStepped (calls_typed M t q vs at rest F L Ls Fs w co)
      typed_derived None q vs = tt
      typed_derived (Some type) q vs = entry_derived q type vs

      indirect_derived : (t : ℕ) (vs : List Value) → DerivedStepped (calls_indirect M t vs at rest F L Ls Fs w co)
      indirect_derived t [] = tt
      indirect_derived t (values.I64 n ∷ vs) = tt
      indirect_derived t (values.I32 n ∷ vs) = typed_derived (slice_get M.program.module_.types t) (slice_get w.table n) vs

      goes_to_label : (n : ℕ) (vs : List Value) → AfterMove (os_of F) (ds_of F) F.locals (branch n vs (L ∷ Ls))
      goes_to_label n vs = branch_derived (os_of F) (ds_of F) F.locals n vs L Ls all k.kind_keeps k.outside

      branch_if_derived : (n : ℕ) (vs : List Value) → DerivedStepped (branch_if M n vs rest F L Ls Fs w co)
      branch_if_derived n [] = tt
      branch_if_derived n (values.I64 a ∷ vs) = tt
      branch_if_derived n (values.I32 zero ∷ vs) = (goes_behind vs, hs)
      branch_if_derived n (values.I32 (suc a) ∷ vs) = moved_derived (branch n vs (L ∷ Ls)) F Fs w co (goes_to_label n vs) hs

      table_derived : (ts : List ℕ) (d : ℕ) (vs : List Value) → DerivedStepped (branch_table M ts d vs F L Ls Fs w co)
      table_derived ts d [] = tt
      table_derived ts d (values.I64 n ∷ vs) = tt
      table_derived ts d (values.I32 n ∷ vs) =
          moved_if_derived (same_carry (carry (pick ts d n) (L ∷ Ls)) (carry d (L ∷ Ls))) (branch (pick ts d n) vs (L ∷ Ls)) F Fs w co (goes_to_label (pick ts d n) vs) hs

    jump_derived : (at : ℕ) (j : Jump) (rest : Nodes) → At F L.operands (jump at j rest) L.kind Ls → DerivedStepped (jumps M j at rest F L Ls Fs w co)
    jump_derived at Unreachable rest k = tt
    jump_derived at (Br n) rest k = moved_derived (branch n L.operands (L ∷ Ls)) F Fs w co (goes_to_label at L.operands at (Br n) rest k n L.operands) hs
    jump_derived at (BrIf n) rest k = branch_if_derived at L.operands at (BrIf n) rest k n L.operands
    jump_derived at (BrTable ts d) rest k = table_derived at L.operands at (BrTable ts d) rest k ts d L.operands
    jump_derived at Return rest k = moved_derived (out_some (top F.result L.operands)) F Fs w co (out_derived (os_of F) (ds_of F) F.locals (top F.result L.operands)) hs
    jump_derived at (Call g) rest k = calls_derived at L.operands at (Call g) rest k (function_at M.program g) g L.operands refl
    jump_derived at (CallIndirect t) rest k = indirect_derived at L.operands at (CallIndirect t) rest k t L.operands

    affects_derived : (o : ℕ) (i : Basic) (rest : Nodes) (vs below : List Value) (x : Effect) → At F L.operands (basic o i rest) L.kind Ls → cut (takes i) L.operands ≡ parts vs below → effect i w F.locals vs ≡ x → DerivedStepped (affects M x below rest F L Ls Fs w co)
    affects_derived o i rest vs below (gives w' l' ws) k u e = (basic_derived (os_of F) (ds_of F) L.operands o i rest L.kind Ls w w' F.locals l' vs below ws k u e, hs)
    affects_derived o i rest vs below (fails j) k u e = tt
    affects_derived o i rest vs below unfit k u e = tt

    does_derived : (o : ℕ) (i : Basic) (rest : Nodes) (u : Cut) → At F L.operands (basic o i rest) L.kind Ls → cut (takes i) L.operands ≡ u → DerivedStepped (does M i u rest F L Ls Fs w co)
    does_derived o i rest short k e = tt
    does_derived o i rest (parts vs below) k e = affects_derived o i rest vs below (effect i w F.locals vs) k e refl

    -- a block or an arm is entered, where all hold
    enters_derived : (vs : List Value) (inner rest : Nodes) (kd : Kind) → AllDerived F.locals (ds_of F) → Keeping (os_of F) (ds_of F) Nowhere inner → Keeping (os_of F) (ds_of F) Nowhere rest → KeepingKind (os_of F) (ds_of F) kd → KeepingKind (os_of F) (ds_of F) L.kind → KeepingLabels (os_of F) (ds_of F) Ls → At F [] inner kd (label vs rest L.end L.kind ∷ Ls)
    enters_derived vs inner rest kd a ki kr kn kk ko = starts (os_of F) (ds_of F) F.locals [] inner kd (label vs rest L.end L.kind ∷ Ls) a ki kn (kr, kk, ko)

    chooses_derived : (at : ℕ) (t : Option ValType) (a : Nodes) (ea : Option ℕ) (b : Nodes) (en : ℕ) (rest : Nodes) (vs : List Value) → At F L.operands (choose at t a ea b en rest) L.kind Ls → DerivedStepped (chooses M vs t a ea b en rest F L Ls Fs w co)
    chooses_derived at t a ea b en rest [] k = tt
    chooses_derived at t a ea b en rest (values.I64 n ∷ vs) k = tt
    chooses_derived at t a ea b en rest (values.I32 zero ∷ vs) k =
        let all = all_settled (os_of F) (ds_of F) F.locals (choose at t a ea b en rest) (λ x. refl) k.settled in
        (enters_derived vs b rest (leaves t) all k.keeping.1 k.keeping.2 tt k.kind_keeps k.outside, hs)
    chooses_derived at t a ea b en rest (values.I32 (suc n) ∷ vs) k =
        let all = all_settled (os_of F) (ds_of F) F.locals (choose at t a ea b en rest) (λ x. refl) k.settled in
        (enters_derived vs a rest (leaves t) all k.keeping.0 k.keeping.2 tt k.kind_keeps k.outside, hs)

    runs_derived : (nodes : Nodes) → At F L.operands nodes L.kind Ls → DerivedStepped (runs M nodes F L Ls Fs w co)
    runs_derived stop k =
        let all = all_settled (os_of F) (ds_of F) F.locals stop (λ x. refl) k.settled in
        moved_derived (leave L.kind L.operands Ls) F Fs w co (leave_derived (os_of F) (ds_of F) F.locals L.kind L.operands Ls all k.outside) hs
    runs_derived (basic o i rest) k = does_derived o i rest (cut (takes i) L.operands) k refl
    runs_derived (jump o j rest) k = jump_derived o j rest k
    runs_derived (block o t inner en rest) k =
        let all = all_settled (os_of F) (ds_of F) F.locals (block o t inner en rest) (λ x. refl) k.settled in
        (enters_derived L.operands inner rest (leaves t) all k.keeping.0 k.keeping.1 tt k.kind_keeps k.outside, hs)
    runs_derived (loop o t inner en rest) k =
        let all = all_settled (os_of F) (ds_of F) F.locals (loop o t inner en rest) (λ x. refl) k.settled in
        (enters_derived L.operands inner rest (again o t inner en) all k.keeping.0 k.keeping.1 k.keeping.0 k.kind_keeps k.outside, hs)
    runs_derived (choose o t a ea b en rest) k = chooses_derived o t a ea b en rest L.operands k

  labels_derived : (F : Frame) (Ls : List Label) (Fs : List Frame) (w : World) (co : List CollectorCall) → DerivedLabels (os_of F) (ds_of F) F.locals Ls → DerivedCallers M.program Fs → DerivedStepped (in_frame M Ls F Fs w co)
  labels_derived F [] Fs w co h hs = tt
  labels_derived F (L ∷ Ls) Fs w co h hs = runs_derived F L Ls Fs w co hs L.nodes h

  frames_derived : (Fs : List Frame) (w : World) (co : List CollectorCall) → DerivedFrames M.program Fs → DerivedStepped (steps M Fs w co)
  frames_derived [] w co h = tt
  frames_derived (F ∷ Fs) w co h = labels_derived F F.labels Fs w co h.0 h.1

  pub derived_step : (c : Config) → DerivedConfig M.program c → DerivedStepped (step M c)
  derived_step c h = frames_derived c.frames c.world c.collected h

-- an invocation begins
pub derived_begins : (M : Engine) (g : ℕ) (b : Body) (tree : Tree) (type : FuncType) (args : List Value) (w : World) (co : List CollectorCall) → function_at M.program g ≡ Some (defined b tree type) → length args ≡ length type.params → DerivedConfig M.program (config (entered g b tree type args ∷ []) w co)
derived_begins M g b tree type args w co e many = (begins M g b tree type args e many, tt)
