-- What is known at a point of a body, and where the code goes from there.
use Rattle.rewrite_bodies.specs.calls.Landings.{most_landings}
use Rattle.std.proofs.Common.{◌≡◌, ◌≢◌, ℕ, zero, suc, pred, if◌then◌else◌, ◌+◌, ◌-◌, ◌^◌, ◌<◌, ◌≤◌, Bool, true, false, nat_lt, Option, List, [], ◌∷◌, length, drop, get_or, slice_get, refl, sym, ap, subst, ◌∙◌, arith, length-drop, lt-ltb}
use Rattle.std.proofs.lemmas.List.{drop_all}
use Rattle.std.proofs.lemmas.Option.{slice_get-get_or}
use Rattle.std.proofs.lemmas.Bool.{leb-true, leb-false, false≢true}
use Rattle.wasm_syntax.specs.declared.instruction.Op.{Op}
use Rattle.wasm_syntax.specs.declared.instruction.Instr.{Instr}
use Rattle.wasm_syntax.specs.declared.instruction.Instr.TheVariants as instrs
use Rattle.wasm_syntax.specs.declared.parts.Body.{Body}
use Rattle.wasm_syntax.specs.Tree.{Nodes, Tree, stop, basic, jump, block, loop, choose, End, Placed, placed, write, code_of, item_of, jump_of, Item, Plain, Goes, Opens, OpensLoop, OpensIf, Else, Jump, Writes}
use Rattle.wasm_syntax.specs.declared.value.ValType.{ValType}
use Rattle.wasm_syntax.specs.declared.instruction.Basic.{Basic}
use Rattle.wasm_syntax.specs.Effect.{takes}
use Rattle.rewrite_bodies.specs.calls.Facts.{needs}
use Rattle.rewrite_bodies.specs.calls.Slots.{Ctx}
use Rattle.rewrite_bodies.specs.calls.Rewrite.{any, at_once, or_behind, passes, rewrite}
use Rattle.rewrite_bodies.specs.calls.Typed.{end_gives}
use Rattle.rewrite_bodies.proofs.Sim.{room_height, grown_longer}
use Rattle.rewrite_code.specs.calls.Writing.{Written, EmitsLast}
use Rattle.operand_spill.specs.declared.labels.OpenBlock.{OpenBlock}
use Rattle.operand_spill.specs.calls.Labels.{info}
use Rattle.operand_spill.specs.calls.Walking.{Walking, behind_block, at_start}
use Rattle.operand_spill.specs.calls.Standing.{Due, before_end, before_else, flat, Passes, Fine, Around, Rewrites, Left}
use Rattle.operand_spill.proofs.Shapes.{Shape, shape, begins_read}
use Rattle.operand_spill.proofs.Steps.{point_within, end_within, whole_written, begin}
use Rattle.operand_spill.specs.declared.flow.Flow.{Flow}
use Rattle.operand_spill.specs.declared.flow.Flow.TheVariants.{Next, Ends}
use Rattle.unwind_rewrite.specs.declared.points.Point.{Point}
use Rattle.unwind_rewrite.specs.declared.points.Point.TheVariants as points
use Rattle.unwind_rewrite.specs.calls.Numbers.{Helped, AllHelped}
use Rattle.unwind_rewrite.specs.calls.Points.{AtOnce, EndsAt, Advances, Resumes, IsBehind, Holds, BeforeLast, code_in, is_last}
use Rattle.rewrite_modules.proofs.Multiple.{code_length}

-- ---- whether an operand passes

-- not to an instruction with a guard
pub to_guarded : (C : Ctx) (o : ℕ) (i : Basic) (rest : Nodes) {b : Bool} → b ≡ needs C o i → b ≡ true → false ≡ passes C (basic o i rest)
to_guarded C o i rest e is = rw (sym e ∙ is) refl

-- to one that takes some
pub to_taker : (C : Ctx) (o : ℕ) (i : Basic) (rest : Nodes) {b : Bool} {n : ℕ} → b ≡ needs C o i → b ≡ false → n ≡ takes i → n ≢ 0 → true ≡ passes C (basic o i rest)
to_taker C o i rest e is same some = rw (sym e ∙ is) (by (takes i) (λ z. some (same ∙ z)))
  where
    by : (n : ℕ) → n ≢ 0 → true ≡ any (or_behind n (at_once C rest))
    by zero some = absurd (some refl)
    by (suc n) some = refl

-- over one that takes none, to one that takes two
pub over_pushing : (C : Ctx) (o : ℕ) (i : Basic) (rest : Nodes) {b : Bool} {n : ℕ} (m : ℕ) → b ≡ needs C o i → b ≡ false → n ≡ takes i → n ≡ 0 → m ≡ at_once C rest → nat_lt 1 m ≡ passes C (basic o i rest)
over_pushing C o i rest m e is same none there = rw (sym e ∙ is) (rw (sym same ∙ none) (rw there (by (at_once C rest))))
  where
    by : (m : ℕ) → nat_lt 1 m ≡ any (pred m)
    by zero = refl
    by (suc zero) = refl
    by (suc (suc m)) = lt-ltb 1 (suc (suc m)) (omega arith)

-- where nothing is left, no node is
no_first : {x : Placed} {xs : List Placed} → [] ≡ x ∷ xs → ⊥
no_first e = omega (arith, ap length e)

nothing_left : (nodes : Nodes) (dues : List Due) → [] ≡ write nodes (flat dues) → nodes ≡ stop
nothing_left stop dues e = refl
nothing_left (basic at i rest) dues e = absurd (no_first e)
nothing_left (jump at j rest) dues e = absurd (no_first e)
nothing_left (block at t inner end rest) dues e = absurd (no_first e)
nothing_left (loop at t inner end rest) dues e = absurd (no_first e)
nothing_left (choose at t a ea b end rest) dues e = absurd (no_first e)

pub passes_nothing : (C : Ctx) (n : ℕ) (targets : List ℕ) (ops : List Op) → length ops ≤ n → Passes C (drop n (code_of targets ops)) true
passes_nothing C n targets ops le nodes dues e =
    let none : drop n (code_of targets ops) ≡ [] = drop_all n (code_of targets ops) (omega (arith, le, code_length targets ops)) in
    ap (passes C) (sym (nothing_left nodes dues (sym none ∙ e)))

-- to the node of an instruction
pub passes_shape : (C : Ctx) (at : ℕ) (i : Item) (xs : List Placed) (p : Bool) → ((nodes : Nodes) (dues : List Due) → Shape at i xs nodes dues → p ≡ passes C nodes) → Passes C (placed at i ∷ xs) p
passes_shape C at i xs p h nodes dues e = h nodes dues (shape nodes dues at i xs e)

pub passes_basic : (C : Ctx) (at : ℕ) (i : Basic) (xs : List Placed) (p : Bool) → ((rest : Nodes) (dues : List Due) → xs ≡ write rest (flat dues) → p ≡ passes C (basic at i rest)) → Passes C (placed at (Plain i) ∷ xs) p
passes_basic C at i xs p e = passes_shape C at (Plain i) xs p (λ nodes dues s. e s.0 dues s.2 ∙ ap (passes C) (sym s.1))

pub passes_jump : (C : Ctx) (at : ℕ) (j : Jump) (xs : List Placed) (p : Bool) → ((rest : Nodes) → p ≡ passes C (jump at j rest)) → Passes C (placed at (Goes j) ∷ xs) p
passes_jump C at j xs p e = passes_shape C at (Goes j) xs p (λ nodes dues s. e s.0 ∙ ap (passes C) (sym s.1))

pub passes_block : (C : Ctx) (at : ℕ) (t : Option ValType) (xs : List Placed) → Passes C (placed at (Opens t) ∷ xs) false
passes_block C at t xs = passes_shape C at (Opens t) xs false (λ nodes dues s. ap (passes C) (sym s.3))

pub passes_loop : (C : Ctx) (at : ℕ) (t : Option ValType) (xs : List Placed) → Passes C (placed at (OpensLoop t) ∷ xs) false
passes_loop C at t xs = passes_shape C at (OpensLoop t) xs false (λ nodes dues s. ap (passes C) (sym s.3))

pub passes_if : (C : Ctx) (at : ℕ) (t : Option ValType) (xs : List Placed) → Passes C (placed at (OpensIf t) ∷ xs) true
passes_if C at t xs = passes_shape C at (OpensIf t) xs true (λ nodes dues s. ap (passes C) (sym s.5))

pub passes_else : (C : Ctx) (at : ℕ) (xs : List Placed) → Passes C (placed at Else ∷ xs) true
passes_else C at xs = passes_shape C at Else xs true (λ nodes dues s. ap (passes C) (sym s.0))

pub passes_end : (C : Ctx) (at : ℕ) (xs : List Placed) → Passes C (placed at End ∷ xs) true
passes_end C at xs = passes_shape C at End xs true (λ nodes dues s. ap (passes C) (sym s.0))

-- to the first one of the code that is left
pub passes_first : (C : Ctx) (targets : List ℕ) (ops : List Op) (pc : ℕ) (d : Op) (p : Bool) → pc < length ops → Passes C (placed (get_or ops pc d).at (item_of targets (get_or ops pc d).code) ∷ drop (pc + 1) (code_of targets ops)) p → Passes C (drop pc (code_of targets ops)) p
passes_first C targets ops pc d p lt h =
    let one : pc + 1 ≡ suc pc = omega arith in
    subst (λ xs. Passes C xs p) (sym (begins_read targets ops pc d lt)) (subst (λ n. Passes C (placed (get_or ops pc d).at (item_of targets (get_or ops pc d).code) ∷ drop n (code_of targets ops)) p) one h)

-- how many are taken at once
pub at_once_nothing : (C : Ctx) (n : ℕ) (targets : List ℕ) (ops : List Op) → length ops ≤ n → AtOnce C (drop n (code_of targets ops)) 0
at_once_nothing C n targets ops le nodes dues e =
    let none : drop n (code_of targets ops) ≡ [] = drop_all n (code_of targets ops) (omega (arith, le, code_length targets ops)) in
    ap (at_once C) (sym (nothing_left nodes dues (sym none ∙ e)))

pub at_once_basic : (C : Ctx) (at : ℕ) (i : Basic) (xs : List Placed) (n : ℕ) → n ≡ (if needs C at i then 0 else takes i) → AtOnce C (placed at (Plain i) ∷ xs) n
at_once_basic C at i xs n same nodes dues e = let s = shape nodes dues at (Plain i) xs e in same ∙ ap (at_once C) (sym s.1)

pub at_once_jump : (C : Ctx) (at : ℕ) (j : Jump) (xs : List Placed) → AtOnce C (placed at (Goes j) ∷ xs) 0
at_once_jump C at j xs nodes dues e = let s = shape nodes dues at (Goes j) xs e in ap (at_once C) (sym s.1)

pub at_once_block : (C : Ctx) (at : ℕ) (t : Option ValType) (xs : List Placed) → AtOnce C (placed at (Opens t) ∷ xs) 0
at_once_block C at t xs nodes dues e = let s = shape nodes dues at (Opens t) xs e in ap (at_once C) (sym s.3)

pub at_once_loop : (C : Ctx) (at : ℕ) (t : Option ValType) (xs : List Placed) → AtOnce C (placed at (OpensLoop t) ∷ xs) 0
at_once_loop C at t xs nodes dues e = let s = shape nodes dues at (OpensLoop t) xs e in ap (at_once C) (sym s.3)

pub at_once_if : (C : Ctx) (at : ℕ) (t : Option ValType) (xs : List Placed) → AtOnce C (placed at (OpensIf t) ∷ xs) 0
at_once_if C at t xs nodes dues e = let s = shape nodes dues at (OpensIf t) xs e in ap (at_once C) (sym s.5)

pub at_once_else : (C : Ctx) (at : ℕ) (xs : List Placed) → AtOnce C (placed at Else ∷ xs) 0
at_once_else C at xs nodes dues e = let s = shape nodes dues at Else xs e in ap (at_once C) (sym s.0)

pub at_once_end : (C : Ctx) (at : ℕ) (xs : List Placed) → AtOnce C (placed at End ∷ xs) 0
at_once_end C at xs nodes dues e = let s = shape nodes dues at End xs e in ap (at_once C) (sym s.0)

-- in the code behind an instruction
passes_behind : (C : Ctx) (body : Body) (p : Bool) (pc : ℕ) (xs : List Op) → xs ≡ body.ops → ((targets : List ℕ) → Passes C (drop (pc + 1) (code_of targets xs)) p) → Passes C (drop (suc pc) (code_in body)) p
passes_behind C body p pc xs same q =
    let one : pc + 1 ≡ suc pc = omega arith in
    subst (λ n. Passes C (drop n (code_in body)) p) one (subst (λ os. Passes C (drop (pc + 1) (code_of body.targets os)) p) same (q body.targets))

-- ---- at the end of a list

-- in front of another instruction than the last one a block is open
pub block_open : (C : Ctx) (code : List Placed) (start : Written) (whole : Nodes) (pc : ℕ) (w : Walking) (now : Written) → suc pc < length code → Left C code start whole pc w now → 1 ≤ length w.opens
block_open C code start whole pc w now lt r = by w.opens r.dues r.leaves.code_is r.leaves.around
  where
    by : (opens : List OpenBlock) (dues : List Due) → drop pc code ≡ flat dues → Around C opens dues → 1 ≤ length opens
    by [] [] e around = absurd around
    by [] (before_end end rest ∷ ds) e around =
        let one : drop pc code ≡ placed end End ∷ [] = e ∙ ap (λ n. placed end End ∷ write n (flat ds)) around.0 ∙ ap (λ ds. placed end End ∷ flat ds) around.1 in
        absurd (omega (arith, lt, length-drop pc code, ap length one))
    by [] (before_else at other end rest ∷ ds) e around = absurd around
    by (x ∷ xs) dues e around = omega arith

-- the operands below an open block have slots
pub saved_room : (C : Ctx) (code : List Placed) (start : Written) (whole : Nodes) (pc : ℕ) (w : Walking) (now : Written) → Left C code start whole pc w now → (x : OpenBlock) (others : List OpenBlock) → w.opens ≡ x ∷ others →
    length x.saved ≤ C.slots
saved_room C code start whole pc w now r x others is = by r.dues (subst (λ os. Around C os r.dues) is r.leaves.around)
  where
    by : (dues : List Due) → Around C (x ∷ others) dues → length x.saved ≤ C.slots
    by [] around = absurd around
    by (before_end end rest ∷ ds) around = omega (arith, grown_longer (end_gives (info x.label)) x.saved, room_height C (behind_block x) rest around.0.room)
    by (before_else at other end rest ∷ ds) around = room_height C x.saved other around.0.room

-- there stands `else` or `end`
abbrev begins : Nodes → Bool
begins stop = false
begins nodes = true

behind_list : (targets : List ℕ) (at : ℕ) (code : Instr) (xs : List Placed) (dues : List Due) → Shape at (item_of targets code) xs stop dues → IsBehind code
behind_list targets at (instrs.Basic k) xs dues h = absurd (false≢true (ap begins h.1))
behind_list targets at (instrs.Jump j) xs dues h = absurd (false≢true (ap begins h.1))
behind_list targets at (instrs.Block t) xs dues h = absurd (false≢true (ap begins h.3))
behind_list targets at (instrs.Loop t) xs dues h = absurd (false≢true (ap begins h.3))
behind_list targets at (instrs.If t) xs dues h = absurd (false≢true (ap begins h.5))
behind_list targets at instrs.Else xs dues h = tt
behind_list targets at instrs.End xs dues h = tt

pub stands_behind : (C : Ctx) (body : Body) (xs : List Op) (start : Written) (whole : Nodes) (pc : ℕ) (d : Op) (w : Walking) (now : Written) → xs ≡ body.ops → Left C (code_in body) start whole pc w now → IsBehind (get_or xs pc d).code
stands_behind C body xs start whole pc d w now same r =
    let lt : pc < length body.ops = omega (arith, end_within C (code_in body) start whole pc w now r, code_length body.targets body.ops) in
    let o : Op = get_or body.ops pc d in
    subst (λ os. IsBehind (get_or os pc d).code) (sym same)
    (behind_list body.targets o.at o.code (drop (suc pc) (code_in body)) r.dues (shape stop r.dues o.at (item_of body.targets o.code) (drop (suc pc) (code_in body)) (sym (begins_read body.targets body.ops pc d lt) ∙ r.leaves.code_is)))

pub resumes_next : (C : Ctx) (p : Bool) (body : Body) (xs : List Op) (start : Written) (whole : Nodes) (pc : ℕ) (d : Op) (w w' : Walking) {now next : Written} → xs ≡ body.ops → pc + 1 < length body.ops →
    ((targets : List ℕ) → Resumes C p (item_of targets (get_or xs pc d).code) w now w' next) → ((targets : List ℕ) → Passes C (drop (pc + 1) (code_of targets xs)) p) → Left C (code_in body) start whole pc w now → Rewrites C (code_in body) start whole (pc + 1) w' next
resumes_next C p body xs start whole pc d w w' {now} {next} same lt a q r =
    let below : pc < length body.ops = omega (arith, lt) in
    let more : suc pc < length (code_in body) = omega (arith, lt, code_length body.targets body.ops) in
    let one : suc pc ≡ pc + 1 = omega arith in
    let b : Resumes C p (item_of body.targets (get_or body.ops pc d).code) w now w' next = subst (λ os. Resumes C p (item_of body.targets (get_or os pc d).code) w now w' next) same (a body.targets) in
    subst (λ n. Rewrites C (code_in body) start whole n w' next) one (b (code_in body) start whole pc (get_or body.ops pc d).at (begins_read body.targets body.ops pc d below) more (passes_behind C body p pc xs same q) r)

-- ---- at a live instruction

pub stands_inside : (C : Ctx) (body : Body) (start : Written) (whole : Nodes) (pc : ℕ) (w : Walking) (now : Written) → Rewrites C (code_in body) start whole pc w now → pc < length body.ops
stands_inside C body start whole pc w now r = omega (arith, point_within C (code_in body) start whole pc w now r, code_length body.targets body.ops)

pub is_helped : (C : Ctx) (ops xs : List Op) (pc : ℕ) (d : Op) → xs ≡ ops → pc < length ops → AllHelped C ops → Helped C (get_or xs pc d).code
is_helped C ops xs pc d same lt all = all pc (get_or xs pc d) (ap (λ os. slice_get os pc) (sym same) ∙ slice_get-get_or xs pc d (omega (arith, lt, ap length same)))

advance_of : (C : Ctx) (p : Bool) (body : Body) (ts : List ℕ) (xs : List Op) (pc : ℕ) (d : Op) (w w' : Walking) (flow flow' : Flow) (now next : Written) → ts ≡ body.targets → xs ≡ body.ops → flow ≡ flow' →
    Advances C p (get_or xs pc d).at (item_of ts (get_or xs pc d).code) w now w' next flow → Advances C p (get_or body.ops pc d).at (item_of body.targets (get_or body.ops pc d).code) w now w' next flow'
advance_of C p body ts xs pc d w w' flow flow' now next targets ops is a =
    let b : Advances C p (get_or xs pc d).at (item_of ts (get_or xs pc d).code) w now w' next flow' = subst (λ f. Advances C p (get_or xs pc d).at (item_of ts (get_or xs pc d).code) w now w' next f) is a in
    let c : Advances C p (get_or xs pc d).at (item_of body.targets (get_or xs pc d).code) w now w' next flow' = subst (λ t. Advances C p (get_or xs pc d).at (item_of t (get_or xs pc d).code) w now w' next flow') targets b in
    subst (λ os. Advances C p (get_or os pc d).at (item_of body.targets (get_or os pc d).code) w now w' next flow') ops c

pub goes_next : (C : Ctx) (p : Bool) (body : Body) (ts : List ℕ) (xs : List Op) (start : Written) (whole : Nodes) (pc : ℕ) (d : Op) (w w' : Walking) (flow : Flow) {now next : Written} → ts ≡ body.targets → xs ≡ body.ops → flow ≡ Next →
    Advances C p (get_or xs pc d).at (item_of ts (get_or xs pc d).code) w now w' next flow → ((targets : List ℕ) → Passes C (drop (pc + 1) (code_of targets xs)) p) → Rewrites C (code_in body) start whole pc w now → Rewrites C (code_in body) start whole (pc + 1) w' next
goes_next C p body ts xs start whole pc d w w' flow {now} {next} targets ops is a q r =
    let lt : pc < length body.ops = stands_inside C body start whole pc w now r in
    let one : suc pc ≡ pc + 1 = omega arith in
    subst (λ n. Rewrites C (code_in body) start whole n w' next) one (advance_of C p body ts xs pc d w w' flow Next now next targets ops is a (code_in body) start whole pc (begins_read body.targets body.ops pc d lt) (passes_behind C body p pc xs ops q) r)

pub goes_out : (C : Ctx) (p : Bool) (body : Body) (ts : List ℕ) (xs : List Op) (start : Written) (whole : Nodes) (pc to : ℕ) (d : Op) (w w' : Walking) (flow : Flow) {now next : Written} → ts ≡ body.targets → xs ≡ body.ops → flow ≡ Ends →
    Advances C p (get_or xs pc d).at (item_of ts (get_or xs pc d).code) w now w' next flow → ((targets : List ℕ) → Passes C (drop (pc + 1) (code_of targets xs)) p) → pc ≤ to →
    ((targets : List ℕ) (nodes : Nodes) (dues : List Due) → drop pc (code_of targets xs) ≡ write nodes (flat dues) → drop to (code_of targets xs) ≡ flat dues) → Rewrites C (code_in body) start whole pc w now → Left C (code_in body) start whole to w' next
goes_out C p body ts xs start whole pc to d w w' flow {now} {next} targets ops is a q le end r =
    let lt : pc < length body.ops = stands_inside C body start whole pc w now r in
    let ends : EndsAt (code_in body) pc to = subst (λ os. EndsAt (code_of body.targets os) pc to) ops (end body.targets) in
    advance_of C p body ts xs pc d w w' flow Ends now next targets ops is a (code_in body) start whole pc (begins_read body.targets body.ops pc d lt) (passes_behind C body p pc xs ops q) r to ends le

pub shallow : (C : Ctx) (body : Body) (start : Written) (whole : Nodes) (pc : ℕ) (w : Walking) (now : Written) → length body.ops + most_landings + 1 < 2 ^ 32 → Rewrites C (code_in body) start whole pc w now → length w.opens + most_landings + 2 < 2 ^ 32
shallow C body start whole pc w now few r = omega (arith, few, stands_inside C body start whole pc w now r, r.stands.shallow)

-- ---- the loop

pub begun : (C : Ctx) (body : Body) (tree : Tree) (w : Walking) (now : Written) → Writes body.targets body.ops tree → Fine C [] tree.nodes → w ≡ at_start C.result →
    Rewrites C (code_in body) now (rewrite C 1 [] tree.nodes) 0 w now
begun C body tree w now writes fine is =
    subst (λ v. Rewrites C (code_in body) now (rewrite C 1 [] tree.nodes) 0 v now) (sym is) (begin C (code_in body) now tree writes fine.room fine.arms)

pub before_last : (n last : ℕ) (p : Point) → last ≡ n - 1 → is_last last p ≡ false → BeforeLast n p
before_last n last (points.Live pc) e is = tt
before_last n last (points.Ended pc) e is = omega (arith, e, leb-false last pc is)

pub all_written : (C : Ctx) (body : Body) (start : Written) (whole : Nodes) (w : Walking) (now : Written) (last : ℕ) (p : Point) → last ≡ length body.ops - 1 → is_last last p ≡ true → Holds C (code_in body) start whole w now p → EmitsLast whole start now
all_written C body start whole w now last (points.Live pc) e is h = absurd (false≢true is)
all_written C body start whole w now last (points.Ended pc) e is h =
    let lt = end_within C (code_in body) start whole pc w now h in
    let at : suc pc ≡ length (code_in body) = omega (arith, e, leb-true last pc is, lt, code_length body.targets body.ops) in
    whole_written C (code_in body) start whole pc w now at h
