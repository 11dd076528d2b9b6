-- Each step of a well-typed program leaves its frames in live code, with the operands that stand there.
use Rattle.std.proofs.Common.{◌≡◌, ℕ, zero, suc, ◌==◌, Bool, true, false, ◌&&◌, nat_lt, List, [], ◌∷◌, ◌++◌, reverse, length, slice_get, Option, Some, None, refl, sym, ap, ap₂, ◌∙◌, subst, subst₂, inl, inr, eq-eqb}
use Rattle.std.specs.Prelude.{option_to_list}
use Rattle.std.proofs.lemmas.List.{reverse-reverse, length-reverse}
use Rattle.wasm_syntax.specs.declared.value.ValType.{ValType}
use Rattle.wasm_syntax.specs.declared.value.ValType.TheVariants.{I32, I64}
use Rattle.wasm_syntax.specs.declared.value.Value.{Value}
use Rattle.wasm_syntax.specs.declared.value.Value.TheVariants as values
use Rattle.wasm_syntax.specs.declared.instruction.Basic.{Basic}
use Rattle.wasm_syntax.specs.declared.parts.FuncType.{FuncType}
use Rattle.wasm_syntax.specs.declared.parts.Body.{Body}
use Rattle.wasm_syntax.specs.declared.module.ModuleParts.{ModuleParts as Module}
use Rattle.wasm_syntax.specs.declared.host.HostCall.{HostCall}
use Rattle.wasm_syntax.specs.declared.host.CollectorCall.{CollectorCall}
use Rattle.wasm_syntax.specs.Numbers.{type_of, types}
use Rattle.wasm_syntax.specs.Tree.{Jump, Unreachable, Br, BrIf, BrTable, Return, Call, CallIndirect, Nodes, stop, basic, jump, block, loop, choose, Tree}
use Rattle.wasm_syntax.specs.Module.{Program, Function, imported, defined, function_at, type_at, declared_locals, same_types, same_functype}
use Rattle.wasm_syntax.specs.Sizes.{parameter_count}
use Rattle.wasm_syntax.specs.Host.{World, Answer, replied, told, silent, misfit, answer}
use Rattle.wasm_syntax.specs.Effect.{Effect, gives, fails, unfit, effect, takes}
use Rattle.wasm_syntax.specs.Machine.{Kind, leaves, again, returns, Label, Frame, Config, label, frame, config, Engine, Stepped, next, ends, traps, no_reply, bad_reply, stuck, parts, cut, top, Went, inside, outside, nowhere, arrive, out_some, leave, land, branch, carried_by, carry, same_carry, pick, zeros, result_of, function_type, entered, host_call, goes_to, deliver, moved, host, enters, applied, calls, calls_if, fits_entry, calls_entry, calls_indirect, branch_if, moved_if, branch_table, jumps, affects, does, chooses, runs, in_frame, steps, step, trapped}
use Rattle.wasm_syntax.specs.Typing.{Context, BasicTypes, IsLabel, AreLabels, Types, body_context}
use Rattle.wasm_syntax.specs.Static.{Spot, spot, Live, IsNode}
use Rattle.wasm_laws.proofs.Progress.{IsNil, tail, head, same_of, types_of, types_append, zero_types, types_reverse, cuts, WorldFine, EffectFine, effect_fine, takes_len}
use Rattle.wasm_laws.proofs.Safe.{end_type, label_types, at_labels, FrameFine, context_of, Typed, one_result, exact, AnswerFine, answer_fine, same_lists}
use Rattle.dump_match.specs.Frames.{same_signature}
use Rattle.match_laws.proofs.Placed.{outs, Runs, KindAt, LabelsAt, OpenAt, CallAt, live_in, CallersAt, FramesAt, AtNode}
use Rattle.match_laws.proofs.Kept.{WorldKept, EffectKept, effect_kept, AnswerKept, answer_kept}
use Rattle.pm_text.proofs.Lists.{some_is}
use Rattle.wasm_syntax.proofs.Types.{same_functype_refl}

-- what is outside the frames
abbrev pub WorldAt : Module → World → Type 0
WorldAt m w = WorldFine m w × WorldKept m w

abbrev pub SteppedAt : Program → Stepped → Type 0
SteppedAt p (next c) = WorldAt p.module_ c.world × FramesAt p c.frames
SteppedAt p (ends w vs co) = WorldAt p.module_ w
SteppedAt p (traps kind c) = WorldAt p.module_ c.world × FramesAt p c.frames × AtNode c.frames
SteppedAt p (no_reply call c) = WorldAt p.module_ c.world × FramesAt p c.frames
SteppedAt p (bad_reply call r c) = WorldAt p.module_ c.world × FramesAt p c.frames
SteppedAt p stuck = ⊥

-- ---- results

record Tops (t : Option ValType) (vs : List Value) : Type 0 where
  pub taken_ : List Value
  pub top_is : top t vs ≡ Some taken_
  pub taken_types : types taken_ ≡ option_to_list t

tops : (t : Option ValType) (vs : List Value) (below : List ValType) → types vs ≡ option_to_list t ++ below → Tops t vs
tops None vs below e = record { taken_ = []; top_is = refl; taken_types = refl }
tops (Some t) [] below e = absurd (subst IsNil e tt)
tops (Some t) (v ∷ vs) below e = record { taken_ = v ∷ []; top_is = rw (same_of (type_of v) t (ap head e)) refl; taken_types = ap (λ z. head z ∷ []) e }

-- ---- moves inside a frame

abbrev WentAt : Context → (Spot → Type 0) → Went → Type 0
WentAt c T (inside ls) = OpenAt c T [] ls
WentAt c T (outside vs) = types vs ≡ c.returns
WentAt c T nowhere = ⊥

module _ (c : Context) (T : Spot → Type 0) where
  arrive_at : (vs : List Value) (ls : List Label) (ts : List ValType) → types vs ≡ ts → OpenAt c T ts ls → WentAt c T (arrive vs ls)
  arrive_at vs [] ts e h = absurd h
  arrive_at vs (l ∷ ls) ts e h =
      (subst (λ z. Runs (at_labels c (l ∷ ls)) T l.nodes z (outs ls) (option_to_list (end_type l.kind))) (ap (λ z. z ++ types l.operands) (sym e) ∙ sym (types_append vs l.operands)) h.0, h.1, h.2)

  land_at : (kd : Kind) (vs : List Value) (ls : List Label) (below : List ValType) → KindAt c T kd ls → LabelsAt c T (option_to_list (end_type kd)) ls → types vs ≡ option_to_list (carried_by kd) ++ below → WentAt c T (land kd vs ls)
  land_at (leaves t) vs [] below k h e = absurd k
  land_at (leaves t) vs (l ∷ ls) below k h e = let x = tops t vs below e in rw x.top_is (arrive_at x.taken_ (l ∷ ls) (option_to_list t) x.taken_types h)
  land_at (again at t body end) vs [] below k h e = absurd k
  land_at (again at t body end) vs (l ∷ ls) below k h e = (((k.0, h.0.0), k.1), h.1, h.2)
  land_at (returns t) vs [] below k h e = let x = tops t vs below e in rw x.top_is (x.taken_types ∙ k)
  land_at (returns t) vs (l ∷ ls) below k h e = absurd k

  branch_at : (n : ℕ) (vs : List Value) (ls : List Label) (ts below awaited : List ValType) → slice_get (label_types ls) n ≡ Some ts → types vs ≡ ts ++ below → LabelsAt c T awaited ls → WentAt c T (branch n vs ls)
  branch_at n vs [] ts below awaited s e h = absurd (cc)
  branch_at zero vs (l ∷ ls) ts below awaited s e h = land_at l.kind vs ls below h.1 h.2 (e ∙ ap (λ z. z ++ below) (sym (some_is s)))
  branch_at (suc n) vs (l ∷ ls) ts below awaited s e h = branch_at n vs ls ts below (option_to_list (end_type l.kind)) s e h.2

  leave_at : (kd : Kind) (vs : List Value) (ls : List Label) → KindAt c T kd ls → LabelsAt c T (option_to_list (end_type kd)) ls → types vs ≡ option_to_list (end_type kd) → WentAt c T (leave kd vs ls)
  leave_at (leaves t) vs [] k h e = absurd k
  leave_at (leaves t) vs (l ∷ ls) k h e = rw (exact t vs e) (arrive_at vs (l ∷ ls) (option_to_list t) e h)
  leave_at (again at t body end) vs [] k h e = absurd k
  leave_at (again at t body end) vs (l ∷ ls) k h e = rw (exact t vs e) (arrive_at vs (l ∷ ls) (option_to_list t) e h)
  leave_at (returns t) vs [] k h e = rw (exact t vs e) (e ∙ k)
  leave_at (returns t) vs (l ∷ ls) k h e = absurd k

-- what a label carries
carry_of : (n : ℕ) (ls : List Label) (ts : List ValType) → slice_get (label_types ls) n ≡ Some ts → (a : Option ValType) × (carry n ls ≡ Some a) × (option_to_list a ≡ ts)
carry_of n [] ts e = absurd (cc)
carry_of zero (l ∷ ls) ts e = (carried_by l.kind, refl, some_is e)
carry_of (suc n) (l ∷ ls) ts e = carry_of n ls ts e

-- ---- calls

same_number : (n : ℕ) → (n == n) ≡ true
same_number n = eq-eqb n n refl

signatures : (a b : Option FuncType) (type : FuncType) → a ≡ Some type → b ≡ Some type → same_signature a b ≡ true
signatures a b type e f = subst₂ (λ x y. same_signature x y ≡ true) (sym e) (sym f) (same_functype_refl type)

-- ---- steps of a frame

module _ (M : Engine) (typed : Typed M.program) where
  abbrev p : Program
  p = M.program

  abbrev Ctx : (f : ℕ) (r : Option ValType) (locals : List Value) → FrameFine p f r locals → Context
  Ctx f r locals k = context_of p f r locals k

  goes_at : (x : Went) (f : Frame) (fs : List Frame) (w : World) (co : List CollectorCall) (k : FrameFine p f.function f.result f.locals) → WentAt (Ctx f.function f.result f.locals k) (live_in p f.function f.result f.locals k) x → (vs : List Value) → x ≡ arrive vs f.labels → WorldAt p.module_ w → CallersAt p f.function f.result fs → SteppedAt p (goes_to M x f fs w co)
  goes_at (inside ls) f fs w co k h vs e wf cf = (wf, (k, h, cf))
  goes_at (outside us) f fs w co k h vs e wf cf = absurd (not_out vs f.labels us e)
    where
      not_out : (vs : List Value) (ls : List Label) (us : List Value) → outside us ≡ arrive vs ls → ⊥
      not_out vs [] us e = cc
      not_out vs (l ∷ ls) us e = cc
  goes_at nowhere f fs w co k h vs e wf cf = h

  deliver_at : (vs : List Value) (fs : List Frame) (w : World) (co : List CollectorCall) (g : ℕ) (r : Option ValType) → types vs ≡ option_to_list r → WorldAt p.module_ w → CallersAt p g r fs → SteppedAt p (deliver M vs fs w co)
  deliver_at vs [] w co g r e wf cf = wf
  deliver_at vs (f ∷ fs) w co g r e wf cf =
      goes_at (arrive vs f.labels) f fs w co cf.0 (arrive_at (Ctx f.function f.result f.locals cf.0) (live_in p f.function f.result f.locals cf.0) vs f.labels (option_to_list r) e cf.1) vs refl wf cf.3

  module _ (f : ℕ) (r : Option ValType) (cl : ℕ) (locals : List Value) (k : FrameFine p f r locals) (fs : List Frame) (w : World) (co : List CollectorCall) (wf : WorldAt p.module_ w) (cf : CallersAt p f r fs) where
    abbrev ctx : Context
    ctx = context_of p f r locals k

    abbrev T : Spot → Type 0
    T = live_in p f r locals k

    abbrev fr : List Label → Frame
    fr ls = frame f r cl locals ls

    returns_are : ctx.returns ≡ option_to_list r
    returns_are = one_result k.type.results (typed.few f (defined k.body k.tree k.type) k.function_is) ∙ ap option_to_list k.result

    moved_at : (x : Went) (ls : List Label) → WentAt ctx T x → SteppedAt p (moved M x (fr ls) fs w co)
    moved_at (inside us) ls h = (wf, (k, h, cf))
    moved_at (outside vs) ls h = deliver_at vs fs w co f r (h ∙ returns_are) wf cf
    moved_at nowhere ls h = h

    moved_if_at : (q : Bool) (x : Went) (ls : List Label) → q ≡ true → WentAt ctx T x → SteppedAt p (moved_if M q x (fr ls) fs w co)
    moved_if_at true x ls e h = moved_at x ls h
    moved_if_at false x ls e h = absurd (cc)

    module _ (l : Label) (ls : List Label) (kf : KindAt ctx T l.kind ls) (lf : LabelsAt ctx T (option_to_list (end_type l.kind)) ls) (tr : (kind : ℕ) → SteppedAt p (trapped M kind (fr (l ∷ ls)) l ls fs w co)) where
      -- the label goes on with these nodes, on operands of these types
      abbrev GoesOn : Nodes → List ValType → Type 0
      GoesOn rest before = Runs (at_labels ctx (l ∷ ls)) T rest before (outs ls) (option_to_list (end_type l.kind))

      host_at : (A : Answer) (call : HostCall) (below : List Value) (rest : Nodes) → AnswerFine p.module_ call.result A → AnswerKept p.module_ A → GoesOn rest (option_to_list call.result ++ types below) → SteppedAt p (host M A call below rest (fr (l ∷ ls)) l ls fs w co)
      host_at (replied w' v) call below rest h a g = ((h.0, a), (k, (subst (λ z. GoesOn rest z) (ap (λ z. z ++ types below) (sym h.1) ∙ sym (types_append (option_to_list v) below)) g, kf, lf), cf))
      host_at (told c) call below rest h a g = (wf, (k, (subst (λ z. GoesOn rest z) (ap (λ z. option_to_list z ++ types below) h) g, kf, lf), cf))
      host_at silent call below rest h a g = let t = tr 0 in (t.0, t.1)
      host_at (misfit reply) call below rest h a g = let t = tr 0 in (t.0, t.1)

      -- behind the call
      abbrev Behind : ℕ → ℕ → Nodes → List Value → Type 0
      Behind o g rest below = CallAt p.module_ T o g (label below rest l.end l.kind) ls

      enters_at : (q : Bool) (g : ℕ) (b : Body) (tree : Tree) (type : FuncType) (args below : List Value) (o : ℕ) (rest : Nodes) → function_at p g ≡ Some (defined b tree type) → types args ≡ type.params → GoesOn rest (option_to_list (result_of type) ++ types below) → Behind o g rest below → SteppedAt p (enters M q (entered g b tree type args) below o rest (fr (l ∷ ls)) l ls fs w co)
      enters_at false g b tree type args below o rest at ty h ca = tr 8
      enters_at true g b tree type args below o rest at ty h ca =
          let one = one_result type.results (typed.few g (defined b tree type) at) in
          let ls' : types (args ++ zeros (declared_locals b.groups)) ≡ type.params ++ declared_locals b.groups = types_append args (zeros (declared_locals b.groups)) ∙ ap₂ (λ a c. a ++ c) ty (zero_types (declared_locals b.groups)) in
          (wf, (record { type = type; body = b; tree = tree; function_is = at; result = refl; locals_are = ls' }, (begins g b tree type at, sym one, tt), (k, (h, kf, lf), ca, cf)))
        where
          begins : (g : ℕ) (b : Body) (tree : Tree) (type : FuncType) → function_at p g ≡ Some (defined b tree type) → Runs (record (body_context p.module_ type b) { labels = option_to_list (result_of type) ∷ [] }) (λ s. Live (body_context p.module_ type b) tree.nodes [] [] s) tree.nodes [] [] (option_to_list (result_of type))
          begins g b tree type at =
              let one = one_result type.results (typed.few g (defined b tree type) at) in (
                subst (λ z. Types (record (body_context p.module_ type b) { labels = z ∷ [] }) tree.nodes [] z) one (typed.bodies g b tree type at),
                λ s live. subst (λ z. Live (record (body_context p.module_ type b) { labels = z ∷ [] }) tree.nodes [] [] s) (sym one) live,
              )

      applied_at : (fn : Function) (g : ℕ) (args below : List Value) (o : ℕ) (rest : Nodes) → function_at p g ≡ Some fn → types args ≡ (function_type fn).params → GoesOn rest (option_to_list (result_of (function_type fn)) ++ types below) → Behind o g rest below → SteppedAt p (applied M fn g args below o rest (fr (l ∷ ls)) l ls fs w co)
      applied_at (imported i type) g args below o rest at ty h ca =
          host_at (answer M.collects p.module_ (host_call g i type args) w) (host_call g i type args) below rest (answer_fine p.module_ (host_call g i type args) w wf.0 M.collects) (answer_kept p.module_ (host_call g i type args) w wf.1 M.collects) h
      applied_at (defined b tree type) g args below o rest at ty h ca = enters_at (nat_lt (suc (length fs)) M.depth) g b tree type args below o rest at ty h ca

      -- a call of a function of a type, with its arguments on top
      calls_at : (g : ℕ) (type : FuncType) (vs : List Value) (o : ℕ) (rest : Nodes) (below : List ValType) → type_at p.module_ g ≡ Some type → types vs ≡ reverse type.params ++ below → GoesOn rest (reverse type.results ++ below) → ((bs : List Value) → types vs ≡ reverse type.params ++ types bs → Behind o g rest bs) → SteppedAt p (calls M (function_at p g) g vs o rest (fr (l ∷ ls)) l ls fs w co)
      calls_at g type vs o rest below tg e h ca =
          let fn = typed.functions g type tg in
          let x = cuts (reverse type.params) below vs e in
          let n : length (reverse type.params) ≡ length (function_type fn.0).params = length-reverse type.params ∙ ap (λ t. length t.params) (sym fn.2) in
          let cut_ : cut (length (function_type fn.0).params) vs ≡ parts x.taken x.rest = ap (λ n. cut n vs) (sym n) ∙ x.cut_is in
          let args : types (reverse x.taken) ≡ (function_type fn.0).params = types_reverse x.taken ∙ ap reverse x.taken_types ∙ reverse-reverse type.params ∙ ap (λ t. t.params) (sym fn.2) in
          let one = one_result (function_type fn.0).results (typed.few g fn.0 fn.1) in
          let h' : GoesOn rest (option_to_list (result_of (function_type fn.0)) ++ types x.rest) = subst₂ (λ a b. GoesOn rest (a ++ b)) (ap (λ t. reverse t.results) (sym fn.2) ∙ one) (sym x.rest_types) h in
          let behind : Behind o g rest x.rest = ca x.rest (e ∙ ap (λ z. reverse type.params ++ z) (sym x.rest_types)) in
          rw (fn.1, cut_, types_of (types (reverse x.taken)) (function_type fn.0).params args) (applied_at fn.0 g (reverse x.taken) x.rest o rest fn.1 args h' behind)

      entry_at : (q : Option (Option ℕ)) (n : ℕ) (type : FuncType) (vs : List Value) (o : ℕ) (rest : Nodes) (below : List ValType) → slice_get w.table n ≡ q → types vs ≡ reverse type.params ++ below → GoesOn rest (reverse type.results ++ below) → ((g : ℕ) → type_at p.module_ g ≡ Some type → (bs : List Value) → types vs ≡ reverse type.params ++ types bs → Behind o g rest bs) → SteppedAt p (calls_entry M q type vs o rest (fr (l ∷ ls)) l ls fs w co)
      entry_at None n type vs o rest below q e h ca = tr 5
      entry_at (Some None) n type vs o rest below q e h ca = tr 6
      entry_at (Some (Some g)) n type vs o rest below q e h ca = by_type (wf.0.table n g q)
        where
          typed_ : (u : FuncType) (b : Bool) → type_at p.module_ g ≡ Some u → same_functype u type ≡ b → SteppedAt p (calls_if M (Some b) g vs o rest (fr (l ∷ ls)) l ls fs w co)
          typed_ u false tu sb = tr 7
          typed_ u true tu sb = let is = tu ∙ ap Some (alike u type sb) in calls_at g type vs o rest below is e h (ca g is)
            where
              and_is : (a b : Bool) → (a && b) ≡ true → (a ≡ true) × (b ≡ true)
              and_is true b e = (refl, e)
              and_is false b e = absurd (cc)

              lists : (a b : List ValType) → same_types a b ≡ true → a ≡ b
              lists [] [] e = refl
              lists [] (_ ∷ _) e = absurd (cc)
              lists (_ ∷ _) [] e = absurd (cc)
              lists (I32 ∷ a) (I32 ∷ b) e = ap (λ z. I32 ∷ z) (lists a b e)
              lists (I32 ∷ a) (I64 ∷ b) e = absurd (cc)
              lists (I64 ∷ a) (I32 ∷ b) e = absurd (cc)
              lists (I64 ∷ a) (I64 ∷ b) e = ap (λ z. I64 ∷ z) (lists a b e)

              alike : (a b : FuncType) → same_functype a b ≡ true → a ≡ b
              alike a b e = let x = and_is (same_types a.params b.params) (same_types a.results b.results) e in let ps = lists a.params b.params x.0 in let rs = lists a.results b.results x.1 in λ i. record { params = ps i; results = rs i }

          by_type : ((u : FuncType) × (type_at p.module_ g ≡ Some u)) → SteppedAt p (calls_if M (fits_entry M type g) g vs o rest (fr (l ∷ ls)) l ls fs w co)
          by_type u = rw u.1 (typed_ u.0 (same_functype u.0 type) u.1 refl)

    -- the first node of the innermost label
    module _ (ops : List Value) (en : ℕ) (kd : Kind) (ls : List Label) (kf : KindAt ctx T kd ls) (lf : LabelsAt ctx T (option_to_list (end_type kd)) ls) where
      abbrev lab : Nodes → Label
      lab nodes = label ops nodes en kd

      abbrev all_types : List (List ValType)
      all_types = option_to_list (carried_by kd) ∷ label_types ls

      abbrev here : Context
      here = record ctx { labels = all_types }

      abbrev Goes_ : Nodes → List ValType → Type 0
      Goes_ rest before = Runs here T rest before (outs ls) (option_to_list (end_type kd))

      traps_at : (nodes : Nodes) → IsNode nodes → Goes_ nodes (types ops) → (kind : ℕ) → SteppedAt p (trapped M kind (fr (lab nodes ∷ ls)) (lab nodes) ls fs w co)
      traps_at nodes n g kind = (wf, (k, (g, kf, lf), cf), n)

      resumed : (vs : List Value) (rest : Nodes) → Goes_ rest (types vs) → SteppedAt p (next (config (frame f r cl locals (label vs rest en kd ∷ ls) ∷ fs) w co))
      resumed vs rest g = (wf, (k, (g, kf, lf), cf))

      branch_if_at : (vs : List Value) (n : ℕ) (rest nodes : Nodes) (ts below between : List ValType) → IsLabel here n ts → types vs ≡ I32 ∷ (ts ++ below) → between ≡ ts ++ below → Goes_ rest between → LabelsAt ctx T [] (lab nodes ∷ ls) → SteppedAt p (branch_if M n vs rest (fr (lab nodes ∷ ls)) (lab nodes) ls fs w co)
      branch_if_at [] n rest nodes ts below between il e b g hl = absurd (subst IsNil e tt)
      branch_if_at (values.I64 c ∷ vs) n rest nodes ts below between il e b g hl = absurd (let z : I64 ≡ I32 = ap head e in cc)
      branch_if_at (values.I32 zero ∷ vs) n rest nodes ts below between il e b g hl = resumed vs rest (subst (λ z. Goes_ rest z) (b ∙ sym (ap tail e)) g)
      branch_if_at (values.I32 (suc c) ∷ vs) n rest nodes ts below between il e b g hl = moved_at (branch n vs (lab nodes ∷ ls)) (lab nodes ∷ ls) (branch_at ctx T n vs (lab nodes ∷ ls) ts below [] il (ap tail e) hl)

      all_labels : (c : Context) (ns : List ℕ) (d n : ℕ) (ts : List ValType) → AreLabels c ns ts → IsLabel c d ts → IsLabel c (pick ns d n) ts
      all_labels c [] d n ts h hd = hd
      all_labels c (m ∷ ns) d zero ts h hd = h.0
      all_labels c (m ∷ ns) d (suc n) ts h hd = all_labels c ns d n ts h.1 hd

      table_at : (vs : List Value) (ns : List ℕ) (d : ℕ) (nodes : Nodes) (ts below : List ValType) → IsLabel here d ts → AreLabels here ns ts → types vs ≡ I32 ∷ (ts ++ below) → LabelsAt ctx T [] (lab nodes ∷ ls) → SteppedAt p (branch_table M ns d vs (fr (lab nodes ∷ ls)) (lab nodes) ls fs w co)
      table_at [] ns d nodes ts below il al e hl = absurd (subst IsNil e tt)
      table_at (values.I64 n ∷ vs) ns d nodes ts below il al e hl = absurd (let z : I64 ≡ I32 = ap head e in cc)
      table_at (values.I32 n ∷ vs) ns d nodes ts below il al e hl =
          let x = all_labels here ns d n ts al il in
          let a = carry_of (pick ns d n) (lab nodes ∷ ls) ts x in
          let b = carry_of d (lab nodes ∷ ls) ts il in
          let q : same_carry (carry (pick ns d n) (lab nodes ∷ ls)) (carry d (lab nodes ∷ ls)) ≡ true = ap₂ same_carry a.1 b.1 ∙ same_lists a.0 b.0 (a.2 ∙ sym b.2) in
          moved_if_at _ (branch (pick ns d n) vs (lab nodes ∷ ls)) (lab nodes ∷ ls) q (branch_at ctx T (pick ns d n) vs (lab nodes ∷ ls) ts below [] x (ap tail e) hl)

      -- a direct call
      direct : (o n : ℕ) (rest : Nodes) (type : FuncType) → type_at p.module_ n ≡ Some type → T (spot (jump o (Call n) rest) (types ops) (outs ls)) → (bs : List Value) → types ops ≡ reverse type.params ++ types bs → CallAt p.module_ T o n (label bs rest en kd) ls
      direct o n rest type is there bs e = record {
        call = Call n;
        takes = reverse type.params;
        calls = same_number n;
        count = ap parameter_count is ∙ sym (length-reverse type.params);
        there = subst (λ z. T (spot (jump o (Call n) rest) z (outs ls))) e there;
      }

      -- a call through the table
      indirect : (o t g : ℕ) (rest : Nodes) (type : FuncType) (vs : List Value) → slice_get p.module_.types t ≡ Some type → type_at p.module_ g ≡ Some type → T (spot (jump o (CallIndirect t) rest) (I32 ∷ types vs) (outs ls)) → (bs : List Value) → types vs ≡ reverse type.params ++ types bs → CallAt p.module_ T o g (label bs rest en kd) ls
      indirect o t g rest type vs is has there bs e = record {
        call = CallIndirect t;
        takes = I32 ∷ reverse type.params;
        calls = signatures (slice_get p.module_.types t) (type_at p.module_ g) type is has;
        count = ap (λ z. suc (parameter_count z)) is ∙ ap suc (sym (length-reverse type.params));
        there = subst (λ z. T (spot (jump o (CallIndirect t) rest) (I32 ∷ z) (outs ls))) e there;
      }

      indirect_at : (vs : List Value) (t : ℕ) (type : FuncType) (o : ℕ) (rest : Nodes) (below : List ValType) → ops ≡ vs → slice_get p.module_.types t ≡ Some type → types vs ≡ I32 ∷ (reverse type.params ++ below) → Goes_ rest (reverse type.results ++ below) → Goes_ (jump o (CallIndirect t) rest) (types ops) → SteppedAt p (calls_indirect M t vs o rest (fr (lab (jump o (CallIndirect t) rest) ∷ ls)) (lab (jump o (CallIndirect t) rest)) ls fs w co)
      indirect_at [] t type o rest below same ty e g h = absurd (subst IsNil e tt)
      indirect_at (values.I64 n ∷ vs) t type o rest below same ty e g h = absurd (let z : I64 ≡ I32 = ap head e in cc)
      indirect_at (values.I32 n ∷ vs) t type o rest below same ty e g h =
          let there : T (spot (jump o (CallIndirect t) rest) (I32 ∷ types vs) (outs ls)) = subst (λ z. T (spot (jump o (CallIndirect t) rest) (types z) (outs ls))) same (h.1 (spot (jump o (CallIndirect t) rest) (types ops) (outs ls)) (inl refl)) in
          rw ty (entry_at (lab (jump o (CallIndirect t) rest)) ls kf lf (traps_at (jump o (CallIndirect t) rest) tt h) (slice_get w.table n) n type vs o rest below refl (ap tail e) g (λ callee has bs q. indirect o t callee rest type vs ty has there bs q))

      return_top : (vs : List Value) (below : List ValType) → types vs ≡ ctx.returns ++ below → WentAt ctx T (out_some (top r vs))
      return_top vs below e = let x = tops r vs below (e ∙ ap (λ z. z ++ below) returns_are) in rw x.top_is (x.taken_types ∙ sym returns_are)

      jumps_at : (j : Jump) (o : ℕ) (rest : Nodes) → Goes_ (jump o j rest) (types ops) → SteppedAt p (jumps M j o rest (fr (lab (jump o j rest) ∷ ls)) (lab (jump o j rest)) ls fs w co)
      jumps_at Unreachable o rest h = traps_at (jump o Unreachable rest) tt h 1
      jumps_at (Br n) o rest h =
          let j = h.0.1 in
          moved_at (branch n ops (lab (jump o (Br n) rest) ∷ ls)) (lab (jump o (Br n) rest) ∷ ls) (branch_at ctx T n ops (lab (jump o (Br n) rest) ∷ ls) j.0 j.2.below [] j.1 j.2.takes (h, kf, lf))
      jumps_at (BrIf n) o rest h =
          let j = h.0.1 in
          let g : Goes_ rest h.0.0 = (h.0.2, λ s l. h.1 s (inr (h.0.0, tt, j, l))) in
          branch_if_at ops n rest (jump o (BrIf n) rest) j.0 j.2.below h.0.0 j.1 j.2.takes j.2.gives g (h, kf, lf)
      jumps_at (BrTable ns d) o rest h =
          let j = h.0.1 in
          table_at ops ns d (jump o (BrTable ns d) rest) j.0 j.3.below j.1 j.2 j.3.takes (h, kf, lf)
      jumps_at Return o rest h = let j = h.0.1 in moved_at (out_some (top r ops)) (lab (jump o Return rest) ∷ ls) (return_top ops j.below j.takes)
      jumps_at (Call n) o rest h =
          let j = h.0.1 in
          let g : Goes_ rest h.0.0 = (h.0.2, λ s l. h.1 s (inr (h.0.0, tt, j, l))) in
          calls_at (lab (jump o (Call n) rest)) ls kf lf (traps_at (jump o (Call n) rest) tt h) n j.0 ops o rest j.2.below j.1 j.2.takes (subst (λ z. Goes_ rest z) j.2.gives g)
          (direct o n rest j.0 j.1 (h.1 (spot (jump o (Call n) rest) (types ops) (outs ls)) (inl refl)))
      jumps_at (CallIndirect t) o rest h =
          let j = h.0.1 in
          let g : Goes_ rest h.0.0 = (h.0.2, λ s l. h.1 s (inr (h.0.0, tt, j, l))) in
          indirect_at ops t j.0 o rest j.3.below refl j.2 j.3.takes (subst (λ z. Goes_ rest z) j.3.gives g) h

      affects_at : (x : Effect) (below : List Value) (rest nodes : Nodes) (gs : List ValType) → EffectFine here gs x → EffectKept p.module_ x → Goes_ rest (gs ++ types below) → ((kind : ℕ) → SteppedAt p (trapped M kind (fr (lab nodes ∷ ls)) (lab nodes) ls fs w co)) → SteppedAt p (affects M x below rest (fr (lab nodes ∷ ls)) (lab nodes) ls fs w co)
      affects_at (gives w' ls' vs) below rest nodes gs h a g tr =
          ((h.0, a), (record { type = k.type; body = k.body; tree = k.tree; function_is = k.function_is; result = k.result; locals_are = h.1 }, (subst (λ z. Goes_ rest z) (ap (λ z. z ++ types below) (sym h.2) ∙ sym (types_append vs below)) g, kf, lf), cf))
      affects_at (fails kind) below rest nodes gs h a g tr = tr kind
      affects_at unfit below rest nodes gs h a g tr = h

      basic_at : (o : ℕ) (i : Basic) (rest : Nodes) → Goes_ (basic o i rest) (types ops) → SteppedAt p (does M i (cut (takes i) ops) rest (fr (lab (basic o i rest) ∷ ls)) (lab (basic o i rest)) ls fs w co)
      basic_at o i rest h =
          let b : BasicTypes here i (types ops) h.0.0 = h.0.1 in
          let g : Goes_ rest h.0.0 = (h.0.2, λ s l. h.1 s (inr (h.0.0, b, l))) in
          let x = cuts b.arrow_is.takes b.above.below ops b.above.takes in
          let c : cut (takes i) ops ≡ parts x.taken x.rest = ap (λ n. cut n ops) (sym (takes_len here i b.any b.arrow_is b.has)) ∙ x.cut_is in
          let g' : Goes_ rest (b.arrow_is.gives ++ types x.rest) = subst (λ z. Goes_ rest z) (b.above.gives ∙ ap (λ z. b.arrow_is.gives ++ z) (sym x.rest_types)) g in
          rw c (affects_at (effect i w locals x.taken) x.rest rest (basic o i rest) b.arrow_is.gives (effect_fine here w locals x.taken wf.0 k.locals_are i b.any b.arrow_is b.has x.taken_types) (effect_kept p.module_ w locals wf.1 here i b.any b.arrow_is x.taken refl b.has) g' (traps_at (basic o i rest) tt h))

      choose_at : (vs : List Value) (o : ℕ) (t : Option ValType) (a : Nodes) (ea : Option ℕ) (b : Nodes) (en' : ℕ) (rest : Nodes) → ops ≡ vs → Goes_ (choose o t a ea b en' rest) (types ops) → SteppedAt p (chooses M vs t a ea b en' rest (fr (lab (choose o t a ea b en' rest) ∷ ls)) (lab (choose o t a ea b en' rest)) ls fs w co)
      choose_at [] o t a ea b en' rest same h = absurd (subst IsNil (sym (ap types same) ∙ h.0.3) tt)
      choose_at (values.I64 c ∷ vs) o t a ea b en' rest same h = absurd (let z : I64 ≡ I32 = ap head (sym (ap types same) ∙ h.0.3) in cc)
      choose_at (values.I32 zero ∷ vs) o t a ea b en' rest same h =
          let e : types ops ≡ I32 ∷ types vs = ap types same in
          let below : h.0.2 ≡ types vs = ap tail (sym h.0.3 ∙ e) in
          let g : Goes_ rest (option_to_list t ++ types vs) = (subst (λ z. Types here rest (option_to_list t ++ z) (option_to_list (end_type kd))) below h.0.4, λ s l. h.1 s (inr (types vs, e, inr (inr l)))) in
          (wf, (k, ((h.0.1, λ s l. h.1 s (inr (types vs, e, inr (inl l)))), tt, (g, kf, lf)), cf))
      choose_at (values.I32 (suc c) ∷ vs) o t a ea b en' rest same h =
          let e : types ops ≡ I32 ∷ types vs = ap types same in
          let below : h.0.2 ≡ types vs = ap tail (sym h.0.3 ∙ e) in
          let g : Goes_ rest (option_to_list t ++ types vs) = (subst (λ z. Types here rest (option_to_list t ++ z) (option_to_list (end_type kd))) below h.0.4, λ s l. h.1 s (inr (types vs, e, inr (inr l)))) in
          (wf, (k, ((h.0.0, λ s l. h.1 s (inr (types vs, e, inl l))), tt, (g, kf, lf)), cf))

      runs_at : (nodes : Nodes) → Goes_ nodes (types ops) → SteppedAt p (runs M nodes (fr (lab nodes ∷ ls)) (lab nodes) ls fs w co)
      runs_at stop h = moved_at (leave kd ops ls) (lab stop ∷ ls) (leave_at ctx T kd ops ls kf lf h.0)
      runs_at (basic o i rest) h = basic_at o i rest h
      runs_at (jump o j rest) h = jumps_at j o rest h
      runs_at (block o t body e rest) h = (wf, (k, ((h.0.0, λ s l. h.1 s (inr (inl l))), tt, ((h.0.1, λ s l. h.1 s (inr (inr l))), kf, lf)), cf))
      runs_at (loop o t body e rest) h = (wf, (k, ((h.0.0, λ s l. h.1 s (inr (inl l))), (h.0.0, h.1), ((h.0.1, λ s l. h.1 s (inr (inr l))), kf, lf)), cf))
      runs_at (choose o t a ea b e rest) h = choose_at ops o t a ea b e rest refl h

  in_frame_at : (f : ℕ) (r : Option ValType) (cl : ℕ) (locals : List Value) (k : FrameFine p f r locals) (ls : List Label) (fs : List Frame) (w : World) (co : List CollectorCall) → WorldAt p.module_ w → CallersAt p f r fs → OpenAt (context_of p f r locals k) (live_in p f r locals k) [] ls → SteppedAt p (in_frame M ls (frame f r cl locals ls) fs w co)
  in_frame_at f r cl locals k [] fs w co wf cf h = absurd h
  in_frame_at f r cl locals k (l ∷ ls) fs w co wf cf h = runs_at f r cl locals k fs w co wf cf l.operands l.end l.kind ls h.1 h.2 l.nodes h.0

  steps_at : (fs : List Frame) (w : World) (co : List CollectorCall) → WorldAt p.module_ w → FramesAt p fs → SteppedAt p (steps M fs w co)
  steps_at [] w co wf h = absurd h
  steps_at (f ∷ fs) w co wf h = in_frame_at f.function f.result f.call f.locals h.0 f.labels fs w co wf h.2 h.1

  -- a step from frames in live code leads to such, or traps at an instruction there
  pub step_at : (c : Config) → WorldAt p.module_ c.world → FramesAt p c.frames → SteppedAt p (step M c)
  step_at c wf h = steps_at c.frames c.world c.collected wf h
