-- No configuration that a well-typed program reaches is stuck, and each step leads to a fine one.
use Rattle.std.proofs.Common.{◌≡◌, ℕ, zero, suc, ◌≤◌, Bool, true, false, ◌&&◌, nat_lt, List, [], ◌∷◌, ◌++◌, reverse, length, slice_get, Option, Some, None, option_to_list, refl, sym, ap, ap₂, ◌∙◌, subst, subst₂, arith}
use Rattle.std.proofs.lemmas.List.{reverse-reverse, length-reverse}
use Rattle.wasm_syntax.specs.declared.value.ValType.{ValType}
use Rattle.wasm_syntax.specs.declared.value.ValType.TheVariants.{I32, I64}
use Rattle.wasm_syntax.specs.declared.value.Value.{Value}
use Rattle.wasm_syntax.specs.declared.value.Value.TheVariants as values
use Rattle.wasm_syntax.specs.declared.instruction.Basic.{Basic}
use Rattle.wasm_syntax.specs.declared.parts.FuncType.{FuncType}
use Rattle.wasm_syntax.specs.declared.parts.Body.{Body}
use Rattle.wasm_syntax.specs.declared.parts.Limits.{Limits}
use Rattle.wasm_syntax.specs.Numbers.{type_of, types, same_type}
use Rattle.linear_memory.specs.Memory.{Memory, put}
use Rattle.wasm_syntax.specs.Tree.{Jump, Unreachable, Br, BrIf, BrTable, Return, Call, CallIndirect, Nodes, stop, basic, jump, block, loop, choose, Tree}
use Rattle.wasm_syntax.specs.Module.{Program, Function, imported, defined, function_at, type_at, declared_locals, same_types, same_functype, option_then}
use Rattle.wasm_syntax.specs.declared.module.ModuleParts.{ModuleParts as Module}
use Rattle.wasm_syntax.specs.declared.host.HostCall.{HostCall}
use Rattle.wasm_syntax.specs.declared.host.Write.{Write}
use Rattle.wasm_syntax.specs.declared.host.Reply.{Reply}
use Rattle.wasm_syntax.specs.declared.host.CollectorCall.{CollectorCall}
use Rattle.wasm_syntax.specs.Host.{World, Answer, replied, told, silent, misfit, answer, told_or, served_by, if_fits, if_written, after_writes, fits_type, collector_of, if_none}
use Rattle.wasm_syntax.specs.Effect.{Effect, gives, fails, unfit, effect, takes}
use Rattle.wasm_syntax.specs.Machine.{Kind, leaves, again, returns, Label, Frame, Config, label, frame, config, Engine, Stepped, next, ends, traps, no_reply, bad_reply, stuck, parts, cut, top, exactly, Went, inside, outside, nowhere, arrive, out_some, leave, land, branch, carried_by, carry, same_result, same_carry, pick, zeros, first, result_of, function_type, entered, host_call, goes_to, deliver, moved, host, enters, applied, calls, calls_if, fits_entry, calls_entry, calls_indirect, branch_if, moved_if, branch_table, jumps, affects, does, chooses, runs, in_frame, steps, step}
use Rattle.wasm_syntax.specs.Typing.{Context, BasicTypes, IsLabel, AreLabels, JumpTypes, within, Types, body_context}
use Rattle.wasm_laws.proofs.Progress.{IsNil, tail, head, same_of, types_of, types_append, zero_types, types_reverse, cuts, HasMemory, WorldFine, EffectFine, memory_stays, effect_fine, takes_len}
use Rattle.pm_text.proofs.Lists.{some_is}

-- ---- what a fine configuration is

abbrev pub end_type : Kind → Option ValType
end_type (leaves t) = t
end_type (again at t body end) = t
end_type (returns t) = t

abbrev pub label_types : List Label → List (List ValType)
label_types [] = []
label_types (l ∷ ls) = option_to_list (carried_by l.kind) ∷ label_types ls

abbrev pub at_labels : Context → List Label → Context
at_labels c ls = record c { labels = label_types ls }

-- the function's label is the outermost, and a loop can begin anew
abbrev pub KindFine : Context → Kind → List Label → Type 0
KindFine c (leaves t) [] = ⊥
KindFine c (leaves t) (_ ∷ _) = Unit {0}
KindFine c (again at t body end) [] = ⊥
KindFine c (again at t body end) (l ∷ ls) = Types (within (at_labels c (l ∷ ls)) []) body [] (option_to_list t)
KindFine c (returns t) [] = option_to_list t ≡ c.returns
KindFine c (returns t) (_ ∷ _) = ⊥

-- these labels wait for results of these types
abbrev pub LabelsFine : Context → List ValType → List Label → Type 0
LabelsFine c awaited [] = Unit {0}
LabelsFine c awaited (l ∷ ls) =
    Types (at_labels c (l ∷ ls)) l.nodes (awaited ++ types l.operands) (option_to_list (end_type l.kind)) × KindFine c l.kind ls × LabelsFine c (option_to_list (end_type l.kind)) ls

abbrev pub OpenFine : Context → List ValType → List Label → Type 0
OpenFine c awaited [] = ⊥
OpenFine c awaited (l ∷ ls) = LabelsFine c awaited (l ∷ ls)

pub record FrameFine (p : Program) (f : ℕ) (r : Option ValType) (locals : List Value) : Type 0 where
  pub type : FuncType
  pub body : Body
  pub tree : Tree
  pub function_is : function_at p f ≡ Some (defined body tree type)
  pub result : result_of type ≡ r
  pub locals_are : types locals ≡ type.params ++ declared_locals body.groups

abbrev pub context_of : (p : Program) (f : ℕ) (r : Option ValType) (locals : List Value) → FrameFine p f r locals → Context
context_of p f r locals k = body_context p.module_ k.type k.body

abbrev pub CallersFine : Program → Option ValType → List Frame → Type 0
CallersFine p r [] = Unit {0}
CallersFine p r (f ∷ fs) =
    (k : FrameFine p f.function f.result f.locals) × OpenFine (context_of p f.function f.result f.locals k) (option_to_list r) f.labels × CallersFine p f.result fs

abbrev pub FramesFine : Program → List Frame → Type 0
FramesFine p [] = ⊥
FramesFine p (f ∷ fs) = (k : FrameFine p f.function f.result f.locals) × OpenFine (context_of p f.function f.result f.locals k) [] f.labels × CallersFine p f.result fs

abbrev pub SteppedFine : Program → Stepped → Type 0
SteppedFine p (next c) = WorldFine p.module_ c.world × FramesFine p c.frames
SteppedFine p (ends w vs co) = WorldFine p.module_ w
SteppedFine p (traps kind c) = WorldFine p.module_ c.world
SteppedFine p (no_reply call c) = Unit {0}
SteppedFine p (bad_reply call r c) = Unit {0}
SteppedFine p stuck = ⊥

-- what validation gives (Core 3.4)
pub record Typed (p : Program) : Type 0 where
  pub bodies : (g : ℕ) (body : Body) (tree : Tree) (type : FuncType) → function_at p g ≡ Some (defined body tree type) → Types (body_context p.module_ type body) tree.nodes [] (reverse type.results)
  pub functions : (g : ℕ) (type : FuncType) → type_at p.module_ g ≡ Some type → (fn : Function) × (function_at p g ≡ Some fn) × (function_type fn ≡ type)
  pub few : (g : ℕ) (fn : Function) → function_at p g ≡ Some fn → length (function_type fn).results ≤ 1
  pub few_types : (t : ℕ) (type : FuncType) → slice_get p.module_.types t ≡ Some type → length type.results ≤ 1

-- at most one result
pub one_result : (ts : List ValType) → length ts ≤ 1 → reverse ts ≡ option_to_list (first ts)
one_result [] h = refl
one_result (t ∷ []) h = refl
one_result (t ∷ u ∷ ts) h = absurd (omega (arith, h))

-- ---- results

record Tops (t : Option ValType) (vs : List Value) : Type 0 where
  pub taken : List Value
  pub top_is : top t vs ≡ Some taken
  pub taken_types : types taken ≡ option_to_list t

tops : (t : Option ValType) (vs : List Value) (below : List ValType) → types vs ≡ option_to_list t ++ below → Tops t vs
tops None vs below e = record { taken = []; top_is = refl; taken_types = refl }
tops (Some t) [] below e = absurd (subst IsNil e tt)
tops (Some t) (v ∷ vs) below e = record { taken = v ∷ []; top_is = rw (same_of (type_of v) t (ap head e)) refl; taken_types = ap (λ z. head z ∷ []) e }

pub exact : (t : Option ValType) (vs : List Value) → types vs ≡ option_to_list t → exactly t vs ≡ Some vs
exact None [] e = refl
exact None (v ∷ vs) e = absurd (subst IsNil (sym e) tt)
exact (Some t) [] e = absurd (subst IsNil e tt)
exact (Some t) (v ∷ []) e = rw (same_of (type_of v) t (ap head e)) refl
exact (Some t) (v ∷ w ∷ vs) e = absurd (subst IsNil (sym (ap tail e)) tt)

-- ---- moves inside a frame

abbrev WentFine : Context → Went → Type 0
WentFine c (inside ls) = OpenFine c [] ls
WentFine c (outside vs) = types vs ≡ c.returns
WentFine c nowhere = ⊥

pub arrive_fine : (c : Context) (vs : List Value) (ls : List Label) (ts : List ValType) → types vs ≡ ts → OpenFine c ts ls → WentFine c (arrive vs ls)
arrive_fine c vs [] ts e h = absurd h
arrive_fine c vs (l ∷ ls) ts e h = (subst (λ z. Types (at_labels c (l ∷ ls)) l.nodes z (option_to_list (end_type l.kind))) (ap (λ z. z ++ types l.operands) (sym e) ∙ sym (types_append vs l.operands)) h.0, h.1, h.2)

open_of : (c : Context) (t : Option ValType) (at : ℕ) (kd : Kind) (ls : List Label) → (kd ≡ leaves t → ⊥) → Unit {0}
open_of c t at kd ls h = tt

land_fine : (c : Context) (kd : Kind) (vs : List Value) (ls : List Label) (below : List ValType) → KindFine c kd ls → LabelsFine c (option_to_list (end_type kd)) ls → types vs ≡ option_to_list (carried_by kd) ++ below → WentFine c (land kd vs ls)
land_fine c (leaves t) vs [] below k h e = absurd k
land_fine c (leaves t) vs (l ∷ ls) below k h e = let x = tops t vs below e in rw x.top_is (arrive_fine c x.taken (l ∷ ls) (option_to_list t) x.taken_types h)
land_fine c (again at t body end) vs [] below k h e = absurd k
land_fine c (again at t body end) vs (l ∷ ls) below k h e = ((k, h.0), h.1, h.2)
land_fine c (returns t) vs [] below k h e = let x = tops t vs below e in rw x.top_is (x.taken_types ∙ k)
land_fine c (returns t) vs (l ∷ ls) below k h e = absurd k

branch_fine : (c : Context) (n : ℕ) (vs : List Value) (ls : List Label) (ts below awaited : List ValType) → slice_get (label_types ls) n ≡ Some ts → types vs ≡ ts ++ below → LabelsFine c awaited ls → WentFine c (branch n vs ls)
branch_fine c n vs [] ts below awaited s e h = absurd (cc)
branch_fine c zero vs (l ∷ ls) ts below awaited s e h = land_fine c l.kind vs ls below h.1 h.2 (e ∙ ap (λ z. z ++ below) (sym (some_is s)))
branch_fine c (suc n) vs (l ∷ ls) ts below awaited s e h = branch_fine c n vs ls ts below (option_to_list (end_type l.kind)) s e h.2

leave_fine : (c : Context) (kd : Kind) (vs : List Value) (ls : List Label) → KindFine c kd ls → LabelsFine c (option_to_list (end_type kd)) ls → types vs ≡ option_to_list (end_type kd) → WentFine c (leave kd vs ls)
leave_fine c (leaves t) vs [] k h e = absurd k
leave_fine c (leaves t) vs (l ∷ ls) k h e = rw (exact t vs e) (arrive_fine c vs (l ∷ ls) (option_to_list t) e h)
leave_fine c (again at t body end) vs [] k h e = absurd k
leave_fine c (again at t body end) vs (l ∷ ls) k h e = rw (exact t vs e) (arrive_fine c vs (l ∷ ls) (option_to_list t) e h)
leave_fine c (returns t) vs [] k h e = rw (exact t vs e) (e ∙ k)
leave_fine c (returns t) vs (l ∷ ls) k h e = absurd k

-- what a label carries
carry_of : (n : ℕ) (ls : List Label) (ts : List ValType) → slice_get (label_types ls) n ≡ Some ts → (a : Option ValType) × (carry n ls ≡ Some a) × (option_to_list a ≡ ts)
carry_of n [] ts e = absurd (cc)
carry_of zero (l ∷ ls) ts e = (carried_by l.kind, refl, some_is e)
carry_of (suc n) (l ∷ ls) ts e = carry_of n ls ts e

pub same_lists : (a b : Option ValType) → option_to_list a ≡ option_to_list b → same_result a b ≡ true
same_lists None None e = refl
same_lists None (Some t) e = absurd (subst IsNil e tt)
same_lists (Some t) None e = absurd (subst IsNil (sym e) tt)
same_lists (Some t) (Some u) e = same_of t u (ap head e)

-- ---- the host

writes_stay : (l : List Limits) (k : Option Memory) (ws : List Write) (k' : Option Memory) → after_writes k ws ≡ Some k' → HasMemory l k → HasMemory l k'
writes_stay l k [] k' e h = subst (HasMemory l) (some_is e) h
writes_stay l None (w ∷ ws) k' e h = absurd (cc)
writes_stay l (Some m) (w ∷ ws) k' e h = by_put (put m w.at w.bytes) e (λ m' e'. writes_stay l (Some m') ws k' e' (memory_stays l (Some m) m m' refl h))
  where
    by_put : (o : Option Memory) → option_then o (λ m'. after_writes (Some m') ws) ≡ Some k' → ((m' : Memory) → after_writes (Some m') ws ≡ Some k' → HasMemory l k') → HasMemory l k'
    by_put None e ih = absurd (cc)
    by_put (Some m') e ih = ih m' e

abbrev pub AnswerFine : Module → Option ValType → Answer → Type 0
AnswerFine m r (replied w v) = WorldFine m w × (types (option_to_list v) ≡ option_to_list r)
AnswerFine m r (told k) = r ≡ None
AnswerFine m r silent = Unit {0}
AnswerFine m r (misfit reply) = Unit {0}

fits_types : (r : Option ValType) (v : Option Value) → fits_type r v ≡ true → types (option_to_list v) ≡ option_to_list r
fits_types None None e = refl
fits_types None (Some v) e = absurd (cc)
fits_types (Some t) None e = absurd (cc)
fits_types (Some t) (Some v) e = ap (λ z. z ∷ []) (same t (type_of v) e)
  where
    same : (t u : ValType) → same_type t u ≡ true → u ≡ t
    same I32 I32 e = refl
    same I32 I64 e = absurd (cc)
    same I64 I32 e = absurd (cc)
    same I64 I64 e = refl

module _ (m : Module) (call : HostCall) (w : World) (wf : WorldFine m w) where
  written_fine : (reply : Reply) (left : List Reply) (o : Option (Option Memory)) → fits_type call.result reply.value ≡ true → after_writes w.memory reply.writes ≡ o → AnswerFine m call.result (if_written call reply left w o)
  written_fine reply left None ft e = tt
  written_fine reply left (Some k) ft e = (record { globals = wf.globals; memory = writes_stay m.memories w.memory reply.writes k e wf.memory; table = wf.table }, fits_types call.result reply.value ft)

  fit_fine : (reply : Reply) (left : List Reply) (q : Bool) → fits_type call.result reply.value ≡ q → AnswerFine m call.result (if_fits call reply left w q)
  fit_fine reply left false e = tt
  fit_fine reply left true e = written_fine reply left (after_writes w.memory reply.writes) e refl

  served_fine : (rs : List Reply) → AnswerFine m call.result (served_by call w rs)
  served_fine [] = tt
  served_fine (reply ∷ left) = fit_fine reply left (fits_type call.result reply.value) refl

  told_fine : (o q : Option CollectorCall) → if_none call.result q ≡ o → AnswerFine m call.result (told_or o call w)
  told_fine None q e = served_fine w.replies
  told_fine (Some k) q e = none_of call.result q k e
    where
      none_of : (r : Option ValType) (q : Option CollectorCall) (k : CollectorCall) → if_none r q ≡ Some k → r ≡ None
      none_of None q k e = refl
      none_of (Some t) q k e = absurd (cc)

  pub answer_fine : (collects : Bool) → AnswerFine m call.result (answer collects m call w)
  answer_fine true = told_fine (collector_of m call) _ refl
  answer_fine false = served_fine w.replies

-- ---- steps of a fine frame

module _ (M : Engine) (typed : Typed M.program) where
  abbrev p : Program
  p = M.program

  goes_fine : (x : Went) (f : Frame) (fs : List Frame) (w : World) (co : List CollectorCall) (k : FrameFine p f.function f.result f.locals) → WentFine (context_of p f.function f.result f.locals k) x → (vs : List Value) → x ≡ arrive vs f.labels → WorldFine p.module_ w → CallersFine p f.result fs → SteppedFine p (goes_to M x f fs w co)
  goes_fine (inside ls) f fs w co k h vs e wf cf = (wf, (k, h, cf))
  goes_fine (outside us) f fs w co k h vs e wf cf = absurd (not_out vs f.labels us e)
    where
      abbrev_out : Went → Type 0
      abbrev_out (inside ls) = ⊥
      abbrev_out (outside vs) = Unit {0}
      abbrev_out nowhere = ⊥

      not_out : (vs : List Value) (ls : List Label) (us : List Value) → outside us ≡ arrive vs ls → ⊥
      not_out vs [] us e = cc
      not_out vs (l ∷ ls) us e = cc
  goes_fine nowhere f fs w co k h vs e wf cf = h

  deliver_fine : (vs : List Value) (fs : List Frame) (w : World) (co : List CollectorCall) (r : Option ValType) → types vs ≡ option_to_list r → WorldFine p.module_ w → CallersFine p r fs → SteppedFine p (deliver M vs fs w co)
  deliver_fine vs [] w co r e wf cf = wf
  deliver_fine vs (f ∷ fs) w co r e wf cf =
      goes_fine (arrive vs f.labels) f fs w co cf.0 (arrive_fine (context_of p f.function f.result f.locals cf.0) vs f.labels (option_to_list r) e cf.1) vs refl wf cf.2

  module _ (f : ℕ) (r : Option ValType) (cl : ℕ) (locals : List Value) (k : FrameFine p f r locals) (fs : List Frame) (w : World) (co : List CollectorCall) (wf : WorldFine p.module_ w) (cf : CallersFine p r fs) where
    abbrev ctx : Context
    ctx = context_of p f r locals k

    abbrev fr : List Label → Frame
    fr ls = frame f r cl locals ls

    returns_are : ctx.returns ≡ option_to_list r
    returns_are = one_result k.type.results (typed.few f (defined k.body k.tree k.type) k.function_is) ∙ ap option_to_list k.result

    moved_fine : (x : Went) (ls : List Label) → WentFine ctx x → SteppedFine p (moved M x (fr ls) fs w co)
    moved_fine (inside us) ls h = (wf, (k, h, cf))
    moved_fine (outside vs) ls h = deliver_fine vs fs w co r (h ∙ returns_are) wf cf
    moved_fine nowhere ls h = h

    moved_if_fine : (q : Bool) (x : Went) (ls : List Label) → q ≡ true → WentFine ctx x → SteppedFine p (moved_if M q x (fr ls) fs w co)
    moved_if_fine true x ls e h = moved_fine x ls h
    moved_if_fine false x ls e h = absurd (cc)

    module _ (l : Label) (ls : List Label) (kf : KindFine ctx l.kind ls) (lf : LabelsFine ctx (option_to_list (end_type l.kind)) ls) where
      -- the label goes on with these nodes, on operands of these types
      abbrev GoesOn : Nodes → List ValType → Type 0
      GoesOn rest before = Types (at_labels ctx (l ∷ ls)) rest before (option_to_list (end_type l.kind))

      host_fine : (A : Answer) (call : HostCall) (below : List Value) (rest : Nodes) → AnswerFine p.module_ call.result A → GoesOn rest (option_to_list call.result ++ types below) → SteppedFine p (host M A call below rest (fr (l ∷ ls)) l ls fs w co)
      host_fine (replied w' v) call below rest h g = (h.0, (k, (subst (λ z. GoesOn rest z) (ap (λ z. z ++ types below) (sym h.1) ∙ sym (types_append (option_to_list v) below)) g, kf, lf), cf))
      host_fine (told c) call below rest h g = (wf, (k, (subst (λ z. GoesOn rest z) (ap (λ z. option_to_list z ++ types below) h) g, kf, lf), cf))
      host_fine silent call below rest h g = tt
      host_fine (misfit reply) call below rest h g = tt

      enters_fine : (q : Bool) (g : ℕ) (b : Body) (tree : Tree) (type : FuncType) (args below : List Value) (o : ℕ) (rest : Nodes) → function_at p g ≡ Some (defined b tree type) → types args ≡ type.params → GoesOn rest (option_to_list (result_of type) ++ types below) → SteppedFine p (enters M q (entered g b tree type args) below o rest (fr (l ∷ ls)) l ls fs w co)
      enters_fine false g b tree type args below o rest at ty h = wf
      enters_fine true g b tree type args below o rest at ty h =
          let one = one_result type.results (typed.few g (defined b tree type) at) in
          let ls' : types (args ++ zeros (declared_locals b.groups)) ≡ type.params ++ declared_locals b.groups = types_append args (zeros (declared_locals b.groups)) ∙ ap₂ (λ a c. a ++ c) ty (zero_types (declared_locals b.groups)) in
          let body_ : Types (record (body_context p.module_ type b) { labels = option_to_list (result_of type) ∷ [] }) tree.nodes [] (option_to_list (result_of type)) = subst (λ z. Types (record (body_context p.module_ type b) { labels = z ∷ [] }) tree.nodes [] z) one (typed.bodies g b tree type at) in
          (wf, (record { type = type; body = b; tree = tree; function_is = at; result = refl; locals_are = ls' }, (body_, sym one, tt), (k, (h, kf, lf), cf)))

      applied_fine : (fn : Function) (g : ℕ) (args below : List Value) (o : ℕ) (rest : Nodes) → function_at p g ≡ Some fn → types args ≡ (function_type fn).params → GoesOn rest (option_to_list (result_of (function_type fn)) ++ types below) → SteppedFine p (applied M fn g args below o rest (fr (l ∷ ls)) l ls fs w co)
      applied_fine (imported i type) g args below o rest at ty h = host_fine (answer M.collects p.module_ (host_call g i type args) w) (host_call g i type args) below rest (answer_fine p.module_ (host_call g i type args) w wf M.collects) h
      applied_fine (defined b tree type) g args below o rest at ty h = enters_fine (nat_lt (suc (length fs)) M.depth) g b tree type args below o rest at ty h

      -- a call of a function of a type, with its arguments on top
      calls_fine : (g : ℕ) (type : FuncType) (vs : List Value) (o : ℕ) (rest : Nodes) (below : List ValType) → type_at p.module_ g ≡ Some type → types vs ≡ reverse type.params ++ below → GoesOn rest (reverse type.results ++ below) → SteppedFine p (calls M (function_at p g) g vs o rest (fr (l ∷ ls)) l ls fs w co)
      calls_fine g type vs o rest below tg e h =
          let fn = typed.functions g type tg in
          let x = cuts (reverse type.params) below vs e in
          let n : length (reverse type.params) ≡ length (function_type fn.0).params = length-reverse type.params ∙ ap (λ t. length t.params) (sym fn.2) in
          let cut_ : cut (length (function_type fn.0).params) vs ≡ parts x.taken x.rest = ap (λ n. cut n vs) (sym n) ∙ x.cut_is in
          let args : types (reverse x.taken) ≡ (function_type fn.0).params = types_reverse x.taken ∙ ap reverse x.taken_types ∙ reverse-reverse type.params ∙ ap (λ t. t.params) (sym fn.2) in
          let one = one_result (function_type fn.0).results (typed.few g fn.0 fn.1) in
          let h' : GoesOn rest (option_to_list (result_of (function_type fn.0)) ++ types x.rest) = subst₂ (λ a b. GoesOn rest (a ++ b)) (ap (λ t. reverse t.results) (sym fn.2) ∙ one) (sym x.rest_types) h in
          rw (fn.1, cut_, types_of (types (reverse x.taken)) (function_type fn.0).params args) (applied_fine fn.0 g (reverse x.taken) x.rest o rest fn.1 args h')

      entry_fine : (q : Option (Option ℕ)) (n : ℕ) (type : FuncType) (vs : List Value) (o : ℕ) (rest : Nodes) (below : List ValType) → slice_get w.table n ≡ q → types vs ≡ reverse type.params ++ below → GoesOn rest (reverse type.results ++ below) → SteppedFine p (calls_entry M q type vs o rest (fr (l ∷ ls)) l ls fs w co)
      entry_fine None n type vs o rest below q e h = wf
      entry_fine (Some None) n type vs o rest below q e h = wf
      entry_fine (Some (Some g)) n type vs o rest below q e h = by_type (wf.table n g q)
        where
          typed_ : (u : FuncType) (b : Bool) → type_at p.module_ g ≡ Some u → same_functype u type ≡ b → SteppedFine p (calls_if M (Some b) g vs o rest (fr (l ∷ ls)) l ls fs w co)
          typed_ u false tu sb = wf
          typed_ u true tu sb = calls_fine g type vs o rest below (tu ∙ ap Some (alike u type sb)) e h
            where
              and_is : (a b : Bool) → (a && b) ≡ true → (a ≡ true) × (b ≡ true)
              and_is true b e = (refl, e)
              and_is false b e = absurd (cc)

              lists : (a b : List ValType) → same_types a b ≡ true → a ≡ b
              lists [] [] e = refl
              lists [] (_ ∷ _) e = absurd (cc)
              lists (_ ∷ _) [] e = absurd (cc)
              lists (I32 ∷ a) (I32 ∷ b) e = ap (λ z. I32 ∷ z) (lists a b e)
              lists (I32 ∷ a) (I64 ∷ b) e = absurd (cc)
              lists (I64 ∷ a) (I32 ∷ b) e = absurd (cc)
              lists (I64 ∷ a) (I64 ∷ b) e = ap (λ z. I64 ∷ z) (lists a b e)

              alike : (a b : FuncType) → same_functype a b ≡ true → a ≡ b
              alike a b e = let x = and_is (same_types a.params b.params) (same_types a.results b.results) e in let ps = lists a.params b.params x.0 in let rs = lists a.results b.results x.1 in λ i. record { params = ps i; results = rs i }

          by_type : ((u : FuncType) × (type_at p.module_ g ≡ Some u)) → SteppedFine p (calls_if M (fits_entry M type g) g vs o rest (fr (l ∷ ls)) l ls fs w co)
          by_type u = rw u.1 (typed_ u.0 (same_functype u.0 type) u.1 refl)

    -- the first node of the innermost label
    module _ (ops : List Value) (en : ℕ) (kd : Kind) (ls : List Label) (kf : KindFine ctx kd ls) (lf : LabelsFine ctx (option_to_list (end_type kd)) ls) where
      abbrev lab : Nodes → Label
      lab nodes = label ops nodes en kd

      abbrev all_types : List (List ValType)
      all_types = option_to_list (carried_by kd) ∷ label_types ls

      abbrev here : Context
      here = record ctx { labels = all_types }

      abbrev Goes : Nodes → List ValType → Type 0
      Goes rest before = Types here rest before (option_to_list (end_type kd))

      resumed : (vs : List Value) (rest : Nodes) → Goes rest (types vs) → SteppedFine p (next (config (frame f r cl locals (label vs rest en kd ∷ ls) ∷ fs) w co))
      resumed vs rest g = (wf, (k, (g, kf, lf), cf))

      branch_if_fine : (vs : List Value) (n : ℕ) (rest nodes : Nodes) (ts below between : List ValType) → IsLabel here n ts → types vs ≡ I32 ∷ (ts ++ below) → between ≡ ts ++ below → Goes rest between → LabelsFine ctx [] (lab nodes ∷ ls) → SteppedFine p (branch_if M n vs rest (fr (lab nodes ∷ ls)) (lab nodes) ls fs w co)
      branch_if_fine [] n rest nodes ts below between il e b g hl = absurd (subst IsNil e tt)
      branch_if_fine (values.I64 c ∷ vs) n rest nodes ts below between il e b g hl = absurd (let z : I64 ≡ I32 = ap head e in cc)
      branch_if_fine (values.I32 zero ∷ vs) n rest nodes ts below between il e b g hl = resumed vs rest (subst (λ z. Goes rest z) (b ∙ sym (ap tail e)) g)
      branch_if_fine (values.I32 (suc c) ∷ vs) n rest nodes ts below between il e b g hl = moved_fine (branch n vs (lab nodes ∷ ls)) (lab nodes ∷ ls) (branch_fine ctx n vs (lab nodes ∷ ls) ts below [] il (ap tail e) hl)

      all_labels : (c : Context) (ns : List ℕ) (d n : ℕ) (ts : List ValType) → AreLabels c ns ts → IsLabel c d ts → IsLabel c (pick ns d n) ts
      all_labels c [] d n ts h hd = hd
      all_labels c (m ∷ ns) d zero ts h hd = h.0
      all_labels c (m ∷ ns) d (suc n) ts h hd = all_labels c ns d n ts h.1 hd

      table_fine : (vs : List Value) (ns : List ℕ) (d : ℕ) (nodes : Nodes) (ts below : List ValType) → IsLabel here d ts → AreLabels here ns ts → types vs ≡ I32 ∷ (ts ++ below) → LabelsFine ctx [] (lab nodes ∷ ls) → SteppedFine p (branch_table M ns d vs (fr (lab nodes ∷ ls)) (lab nodes) ls fs w co)
      table_fine [] ns d nodes ts below il al e hl = absurd (subst IsNil e tt)
      table_fine (values.I64 n ∷ vs) ns d nodes ts below il al e hl = absurd (let z : I64 ≡ I32 = ap head e in cc)
      table_fine (values.I32 n ∷ vs) ns d nodes ts below il al e hl =
          let x = all_labels here ns d n ts al il in
          let a = carry_of (pick ns d n) (lab nodes ∷ ls) ts x in
          let b = carry_of d (lab nodes ∷ ls) ts il in
          let q : same_carry (carry (pick ns d n) (lab nodes ∷ ls)) (carry d (lab nodes ∷ ls)) ≡ true = ap₂ same_carry a.1 b.1 ∙ same_lists a.0 b.0 (a.2 ∙ sym b.2) in
          moved_if_fine _ (branch (pick ns d n) vs (lab nodes ∷ ls)) (lab nodes ∷ ls) q (branch_fine ctx (pick ns d n) vs (lab nodes ∷ ls) ts below [] x (ap tail e) hl)

      indirect_fine : (vs : List Value) (t : ℕ) (type : FuncType) (o : ℕ) (rest nodes : Nodes) (below : List ValType) → slice_get p.module_.types t ≡ Some type → types vs ≡ I32 ∷ (reverse type.params ++ below) → Goes rest (reverse type.results ++ below) → SteppedFine p (calls_indirect M t vs o rest (fr (lab nodes ∷ ls)) (lab nodes) ls fs w co)
      indirect_fine [] t type o rest nodes below ty e g = absurd (subst IsNil e tt)
      indirect_fine (values.I64 n ∷ vs) t type o rest nodes below ty e g = absurd (let z : I64 ≡ I32 = ap head e in cc)
      indirect_fine (values.I32 n ∷ vs) t type o rest nodes below ty e g = rw ty (entry_fine (lab nodes) ls kf lf (slice_get w.table n) n type vs o rest below refl (ap tail e) g)

      return_top : (vs : List Value) (below : List ValType) → types vs ≡ ctx.returns ++ below → WentFine ctx (out_some (top r vs))
      return_top vs below e = let x = tops r vs below (e ∙ ap (λ z. z ++ below) returns_are) in rw x.top_is (x.taken_types ∙ sym returns_are)

      jumps_fine : (j : Jump) (o : ℕ) (rest : Nodes) (between : List ValType) → JumpTypes here j (types ops) between → Goes rest between → SteppedFine p (jumps M j o rest (fr (lab (jump o j rest) ∷ ls)) (lab (jump o j rest)) ls fs w co)
      jumps_fine Unreachable o rest between h g = wf
      jumps_fine (Br n) o rest between h g = moved_fine (branch n ops (lab (jump o (Br n) rest) ∷ ls)) (lab (jump o (Br n) rest) ∷ ls) (branch_fine ctx n ops (lab (jump o (Br n) rest) ∷ ls) h.0 h.2.below [] h.1 h.2.takes ((between, h, g), kf, lf))
      jumps_fine (BrIf n) o rest between h g = branch_if_fine ops n rest (jump o (BrIf n) rest) h.0 h.2.below between h.1 h.2.takes h.2.gives g ((between, h, g), kf, lf)
      jumps_fine (BrTable ns d) o rest between h g = table_fine ops ns d (jump o (BrTable ns d) rest) h.0 h.3.below h.1 h.2 h.3.takes ((between, h, g), kf, lf)
      jumps_fine Return o rest between h g = moved_fine (out_some (top r ops)) (lab (jump o Return rest) ∷ ls) (return_top ops h.below h.takes)
      jumps_fine (Call n) o rest between h g = calls_fine (lab (jump o (Call n) rest)) ls kf lf n h.0 ops o rest h.2.below h.1 h.2.takes (subst (λ z. Goes rest z) h.2.gives g)
      jumps_fine (CallIndirect t) o rest between h g = indirect_fine ops t h.0 o rest (jump o (CallIndirect t) rest) h.3.below h.2 h.3.takes (subst (λ z. Goes rest z) h.3.gives g)

      affects_fine : (x : Effect) (below : List Value) (rest nodes : Nodes) (gs : List ValType) → EffectFine here gs x → Goes rest (gs ++ types below) → SteppedFine p (affects M x below rest (fr (lab nodes ∷ ls)) (lab nodes) ls fs w co)
      affects_fine (gives w' ls' vs) below rest nodes gs h g =
          (h.0, (record { type = k.type; body = k.body; tree = k.tree; function_is = k.function_is; result = k.result; locals_are = h.1 }, (subst (λ z. Goes rest z) (ap (λ z. z ++ types below) (sym h.2) ∙ sym (types_append vs below)) g, kf, lf), cf))
      affects_fine (fails kind) below rest nodes gs h g = wf
      affects_fine unfit below rest nodes gs h g = h

      basic_fine : (o : ℕ) (i : Basic) (rest : Nodes) (between : List ValType) → BasicTypes here i (types ops) between → Goes rest between → SteppedFine p (does M i (cut (takes i) ops) rest (fr (lab (basic o i rest) ∷ ls)) (lab (basic o i rest)) ls fs w co)
      basic_fine o i rest between h g =
          let x = cuts h.arrow_is.takes h.above.below ops h.above.takes in
          let c : cut (takes i) ops ≡ parts x.taken x.rest = ap (λ n. cut n ops) (sym (takes_len here i h.any h.arrow_is h.has)) ∙ x.cut_is in
          let g' : Goes rest (h.arrow_is.gives ++ types x.rest) = subst (λ z. Goes rest z) (h.above.gives ∙ ap (λ z. h.arrow_is.gives ++ z) (sym x.rest_types)) g in
          rw c (affects_fine (effect i w locals x.taken) x.rest rest (basic o i rest) h.arrow_is.gives (effect_fine here w locals x.taken wf k.locals_are i h.any h.arrow_is h.has x.taken_types) g')

      choose_fine : (vs : List Value) (t : Option ValType) (a : Nodes) (ea : Option ℕ) (b : Nodes) (en' : ℕ) (rest nodes : Nodes) (below : List ValType) → types vs ≡ I32 ∷ below → Types (within here (option_to_list t)) a [] (option_to_list t) → Types (within here (option_to_list t)) b [] (option_to_list t) → Goes rest (option_to_list t ++ below) → SteppedFine p (chooses M vs t a ea b en' rest (fr (lab nodes ∷ ls)) (lab nodes) ls fs w co)
      choose_fine [] t a ea b en' rest nodes below e ha hb g = absurd (subst IsNil e tt)
      choose_fine (values.I64 c ∷ vs) t a ea b en' rest nodes below e ha hb g = absurd (let z : I64 ≡ I32 = ap head e in cc)
      choose_fine (values.I32 zero ∷ vs) t a ea b en' rest nodes below e ha hb g = (wf, (k, (hb, tt, (subst (λ z. Goes rest (option_to_list t ++ z)) (sym (ap tail e)) g, kf, lf)), cf))
      choose_fine (values.I32 (suc c) ∷ vs) t a ea b en' rest nodes below e ha hb g = (wf, (k, (ha, tt, (subst (λ z. Goes rest (option_to_list t ++ z)) (sym (ap tail e)) g, kf, lf)), cf))

      runs_fine : (nodes : Nodes) → Goes nodes (types ops) → SteppedFine p (runs M nodes (fr (lab nodes ∷ ls)) (lab nodes) ls fs w co)
      runs_fine stop h = moved_fine (leave kd ops ls) (lab stop ∷ ls) (leave_fine ctx kd ops ls kf lf h)
      runs_fine (basic o i rest) h = basic_fine o i rest h.0 h.1 h.2
      runs_fine (jump o j rest) h = jumps_fine j o rest h.0 h.1 h.2
      runs_fine (block o t body e rest) h = (wf, (k, (h.0, tt, (h.1, kf, lf)), cf))
      runs_fine (loop o t body e rest) h = (wf, (k, (h.0, h.0, (h.1, kf, lf)), cf))
      runs_fine (choose o t a ea b e rest) h = choose_fine ops t a ea b e rest (choose o t a ea b e rest) h.2 h.3 h.0 h.1 h.4

  in_frame_fine : (f : ℕ) (r : Option ValType) (cl : ℕ) (locals : List Value) (k : FrameFine p f r locals) (ls : List Label) (fs : List Frame) (w : World) (co : List CollectorCall) → WorldFine p.module_ w → CallersFine p r fs → OpenFine (context_of p f r locals k) [] ls → SteppedFine p (in_frame M ls (frame f r cl locals ls) fs w co)
  in_frame_fine f r cl locals k [] fs w co wf cf h = absurd h
  in_frame_fine f r cl locals k (l ∷ ls) fs w co wf cf h = runs_fine f r cl locals k fs w co wf cf l.operands l.end l.kind ls h.1 h.2 l.nodes h.0

  steps_fine : (fs : List Frame) (w : World) (co : List CollectorCall) → WorldFine p.module_ w → FramesFine p fs → SteppedFine p (steps M fs w co)
  steps_fine [] w co wf h = absurd h
  steps_fine (f ∷ fs) w co wf h = in_frame_fine f.function f.result f.call f.locals h.0 f.labels fs w co wf h.2 h.1

  -- a step from a fine configuration is not stuck, and leads to a fine one
  pub step_fine : (c : Config) → WorldFine p.module_ c.world → FramesFine p c.frames → SteppedFine p (step M c)
  step_fine c wf h = steps_fine c.frames c.world c.collected wf h
