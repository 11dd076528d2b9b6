-- How the code around the nodes of a body, wrappers and helpers are put together.
use Rattle.std.proofs.Common.{◌≡◌, ℕ, suc, ◌+◌, ◌-◌, ◌<◌, ◌≤◌, List, [], ◌∷◌, length, map, drop, get_or, Option, None, sym, ap, subst, ◌∙◌, arith}
use Rattle.std.proofs.lemmas.List.{length-map, drop_all, get_or-map}
use Rattle.std.proofs.Math.Seq.{drop-cons}
use Rattle.wasm_syntax.specs.declared.value.ValType.{ValType}
use Rattle.wasm_syntax.specs.declared.instruction.Basic.TheVariants.{GlobalGet, GlobalSet, LocalGet}
use Rattle.wasm_syntax.specs.declared.parts.Global.{Global}
use Rattle.wasm_syntax.specs.declared.module.ModuleParts.{ModuleParts as Module}
use Rattle.wasm_syntax.specs.Tree.{BrTable, Return, Unreachable, Nodes, stop, basic, jump, block, choose}
use Rattle.rewrite_bodies.specs.Numbering.{mapped, value_import, frame_import, flag_of, global_types}
use Rattle.rewrite_bodies.specs.calls.Slots.{Ctx, kind_at, offset_at}
use Rattle.rewrite_bodies.specs.calls.Pieces.{get, const, i32, call}
use Rattle.rewrite_bodies.specs.calls.Guards.{renew, says, helper, entry_label, first_table}
use Rattle.rewrite_bodies.specs.calls.Rewrite.{worked_out, hand_locals, zero_result, raise_flag, exit_code, rewrite, body}
use Rattle.rewrite_modules.specs.calls.Wrappers.{get_all, tell_globals, lower_flag, end_of_dump, after_wrapped, wrapper_nodes}
use Rattle.rewrite_code.specs.calls.Writing.{Written, Behind, ends, goes, Emits, EmitsLast, Opens, Closes}
use Rattle.rewrite_code.proofs.Pieces.{emits_then, emits_last, emits_stop, emits_within}
use Rattle.unwind_rewrite.specs.calls.Bodies.{OpensTwo, ClosesWith}
use Rattle.unwind_rewrite.proofs.Numbers.{get_at, number_at, call_at, global_get_at, global_set_at}

-- ---- the exit

pub raised : (C : Ctx) (m : Module) (x : ℕ) {a b c : Written} → m ≡ C.source → x ≡ flag_of m → Emits (const (i32 1)) a b → Emits (basic 0 (GlobalSet x)) b c → Emits (raise_flag C) a c
raised C m x same at p q = emits_then p (global_set_at (at ∙ ap flag_of same) q)

pub frame_ended : (C : Ctx) (m : Module) (x y i n f : ℕ) {a b c d e g : Written} → x ≡ kind_at C → y ≡ offset_at C → i ≡ C.index → n ≡ length C.locals → m ≡ C.source → f ≡ frame_import m →
    Emits (get C x) a b → Emits (const (i32 i)) b c → Emits (get C y) c d → Emits (const (i32 n)) d e → Emits (call f) e g →
    Emits (λ k. get C (kind_at C) (const (i32 C.index) (get C (offset_at C) (const (i32 (length C.locals)) (call (frame_import C.source) k))))) a g
frame_ended C m x y i n f kind offset index count same frame p q r s t =
    emits_then (get_at C kind p) (emits_then (number_at index q) (emits_then (get_at C offset r) (emits_then (number_at count s) (call_at (frame ∙ ap frame_import same) t))))

pub exited : (C : Ctx) (r : Option ValType) {a w b c d e f : Written} → r ≡ C.result → Emits (worked_out C.derivations) a w → Emits (hand_locals C 0 C.locals) w b →
    Emits (λ k. get C (kind_at C) (const (i32 C.index) (get C (offset_at C) (const (i32 (length C.locals)) (call (frame_import C.source) k))))) b c → Emits (raise_flag C) c d → Emits (zero_result r) d e →
    Emits (jump 0 Return) e f → EmitsLast (exit_code C) a f
exited C r {d = d} {e = e} gives o p q s z t = emits_last o (emits_last p (emits_last q (emits_last s (emits_last (subst (λ r. Emits (zero_result r) d e) gives z) (emits_stop t)))))

-- ---- wrappers and helpers

pub global_step : (m : Module) (gs : List Global) (x : ℕ) (d : Global) {a b : Written} → gs ≡ m.globals → x < length gs → Emits (λ k. basic 0 (GlobalGet x) (call (value_import m (get_or gs x d).vtype) k)) a b →
    (k : Nodes) (behind : List Behind) → goes a (tell_globals m x (drop x (global_types m)) k) behind ≡ goes b (tell_globals m (x + 1) (drop (x + 1) (global_types m)) k) behind
global_step m gs x d {a} {b} e lt p k behind =
    let ts : List ValType = map (λ (g : Global). g.vtype) gs in
    let same : ts ≡ global_types m = ap (map (λ (g : Global). g.vtype)) e in
    let count : length ts ≡ length gs = length-map gs (λ (g : Global). g.vtype) in
    let below : x < length ts = omega (arith, lt, count) in
    let one : suc x ≡ x + 1 = omega arith in
    let others : Nodes = tell_globals m (suc x) (drop (suc x) ts) k in
    ap (λ l. goes a (tell_globals m x (drop x l) k) behind) (sym same)
    ∙ ap (λ l. goes a (tell_globals m x l k) behind) (drop-cons ts x d.vtype below)
    ∙ ap (λ t. goes a (basic 0 (GlobalGet x) (call (value_import m t) others)) behind) (get_or-map (λ (g : Global). g.vtype) gs x d d.vtype lt)
    ∙ p.emitted others behind
    ∙ ap (λ n. goes b (tell_globals m n (drop n ts) k) behind) one
    ∙ ap (λ l. goes b (tell_globals m (x + 1) (drop (x + 1) l) k) behind) same

pub globals_done : (m : Module) (x : ℕ) {a b : Written} → length m.globals ≤ x →
    ((k : Nodes) (behind : List Behind) → goes a (tell_globals m 0 (global_types m) k) behind ≡ goes b (tell_globals m x (drop x (global_types m)) k) behind) → Emits (tell_globals m 0 (global_types m)) a b
globals_done m x {b = b} le so_far =
    let count : length (global_types m) ≡ length m.globals = length-map m.globals (λ (g : Global). g.vtype) in
    let few : length (global_types m) ≤ x = omega (arith, le, count) in
    let none : drop x (global_types m) ≡ [] = drop_all x (global_types m) few in
    record { emitted = λ k behind. so_far k behind ∙ ap (λ l. goes b (tell_globals m x l k) behind) none }

pub parameter_step : (n x : ℕ) {a b : Written} → x < n → Emits (basic 0 (LocalGet x)) a b →
    (k : Nodes) (behind : List Behind) → goes a (get_all x (n - x) k) behind ≡ goes b (get_all (x + 1) (n - (x + 1)) k) behind
parameter_step n x {a} {b} lt p k behind =
    let left : n - x ≡ suc (n - (x + 1)) = omega (arith, lt) in
    let one : suc x ≡ x + 1 = omega arith in
    ap (λ m. goes a (get_all x m k) behind) left ∙ p.emitted (get_all (suc x) (n - (x + 1)) k) behind ∙ ap (λ y. goes b (get_all y (n - (x + 1)) k) behind) one

pub parameters_done : (n x : ℕ) {a b : Written} → n ≤ x → ((k : Nodes) (behind : List Behind) → goes a (get_all 0 n k) behind ≡ goes b (get_all x (n - x) k) behind) → Emits (get_all 0 n) a b
parameters_done n x {b = b} le so_far =
    let none : n - x ≡ 0 = omega (arith, le) in
    record { emitted = λ k behind. so_far k behind ∙ ap (λ m. goes b (get_all x m k) behind) none }

pub told : (m : Module) (x f : ℕ) (t : ValType) {a b c : Written} → f ≡ value_import m t → Emits (basic 0 (GlobalGet x)) a b → Emits (call f) b c → Emits (λ k. basic 0 (GlobalGet x) (call (value_import m t) k)) a c
told m x f t e p q = emits_then p (call_at e q)

flag_lowered : (m : Module) (x : ℕ) {a b : Written} → x ≡ flag_of m → Emits (λ k. const (i32 0) (basic 0 (GlobalSet x) k)) a b → Emits (lower_flag m) a b
flag_lowered m x {a} {b} at p = subst (λ y. Emits (λ k. const (i32 0) (basic 0 (GlobalSet y) k)) a b) at p

pub wrapped_end : (m : Module) (x f : ℕ) {a b c d e g h i : Written} → x ≡ flag_of m → f ≡ frame_import m → Emits (const (i32 255)) a b → Emits (const (i32 0)) b c → Emits (const (i32 0)) c d → Emits (const (i32 x)) d e →
    Emits (call f) e g → Emits (λ k. const (i32 0) (basic 0 (GlobalSet x) k)) g h → Emits (jump 0 Unreachable) h i → EmitsLast (const (i32 255) (const (i32 0) (const (i32 0) (const (i32 (length m.globals)) (call (frame_import m) (lower_flag m (jump 0 Unreachable stop))))))) a i
wrapped_end m x f at frame p q r s t low u = emits_last p (emits_last q (emits_last r (emits_last (number_at at s) (emits_last (call_at frame t) (emits_last (flag_lowered m x at low) (emits_stop u))))))

pub dump_ended : (m : Module) {a b c : Written} → Emits (tell_globals m 0 (global_types m)) a b →
    EmitsLast (const (i32 255) (const (i32 0) (const (i32 0) (const (i32 (length m.globals)) (call (frame_import m) (lower_flag m (jump 0 Unreachable stop))))))) b c → EmitsLast (end_of_dump m) a c
dump_ended m p q = emits_last p q

pub wrapped_tested : (m : Module) (x : ℕ) {a b c d e : Written} → x ≡ flag_of m → Emits (basic 0 (GlobalGet x)) a b → Opens (λ arm k. choose 0 None arm None stop 0 k) b c → EmitsLast (end_of_dump m) c d → Closes d e →
    EmitsLast (after_wrapped m) a e
wrapped_tested m x at p o i j = emits_last (global_get_at at p) (emits_stop (emits_within o i j))

pub wrapper_written : (m : Module) (f n x g : ℕ) {a b w c d e : Written} → x ≡ flag_of m → g ≡ mapped m f → Emits (λ k. const (i32 0) (basic 0 (GlobalSet x) k)) a b → Emits (renew m) b w → Emits (get_all 0 n) w c → Emits (call g) c d → EmitsLast (after_wrapped m) d e → EmitsLast (wrapper_nodes m f n) a e
wrapper_written m f n x g flag there p w q r s = emits_last (flag_lowered m x flag p) (emits_last w (emits_last q (emits_last (call_at there r) s)))

pub says_kind : (kind : ℕ) {a b c : Written} → Emits (const (i32 kind)) a b → Emits (jump 0 Return) b c → EmitsLast (says kind) a c
says_kind kind p q = emits_last p (emits_stop q)

pub helper_written : (m : Module) (t : ℕ) (labels : List ℕ) {a b c d e f g h : Written} → labels ≡ map (entry_label m t) (first_table m) → OpensTwo None a b → OpensTwo None b c →
    EmitsLast (basic 0 (LocalGet 0) (jump 0 (BrTable labels 1) stop)) c d → ClosesWith (says 0) d e → ClosesWith (says 5) e f → ClosesWith (says 6) f g → ClosesWith (says 7) g h → EmitsLast (helper m t) a h
helper_written m t labels {c = c} {d = d} are o p s z five six seven =
    let inner : Nodes = basic 0 (LocalGet 0) (jump 0 (BrTable (map (entry_label m t) (first_table m)) 1) stop) in
    let chosen : EmitsLast inner c d = subst (λ ls. EmitsLast (basic 0 (LocalGet 0) (jump 0 (BrTable ls 1) stop)) c d) are s in
    record {
      emitted = λ behind.
          o.opened (block 0 None (block 0 None inner 0 (says 0)) 0 (says 5)) (says 6) (says 7) behind ∙ p.opened inner (says 0) (says 5) (ends (says 6) ∷ ends (says 7) ∷ behind)
          ∙ chosen.emitted (ends (says 0) ∷ ends (says 5) ∷ ends (says 6) ∷ ends (says 7) ∷ behind) ∙ z.closed (ends (says 5) ∷ ends (says 6) ∷ ends (says 7) ∷ behind)
          ∙ five.closed (ends (says 6) ∷ ends (says 7) ∷ behind) ∙ six.closed (ends (says 7) ∷ behind) ∙ seven.closed behind;
    }
