-- The whole step.
use Rattle.wasm_syntax.specs.Numbers.{type_of}
use Rattle.std.proofs.Common.{◌≡◌, ℕ, suc, ◌≤◌, List, [], ◌∷◌, ◌++◌, length, Option, Some, None, Bool, true, false, refl, sym, ap, ◌∙◌, subst, arith, inl, inr, slice_get, option_map, unwrap_or, slice_set, ◌+◌, ap₂, ◌≢◌}
use Rattle.wasm_syntax.specs.declared.value.ValType.{ValType}
use Rattle.wasm_syntax.specs.declared.value.Value.{Value}
use Rattle.wasm_syntax.specs.declared.value.Value.TheVariants as values
use Rattle.wasm_syntax.specs.declared.instruction.Basic.{Basic}
use Rattle.wasm_syntax.specs.declared.parts.FuncType.{FuncType}
use Rattle.wasm_syntax.specs.Tree.{Jump, Unreachable, Br, BrIf, BrTable, Return, Call, CallIndirect, Nodes, stop, basic, jump, block, loop, choose}
use Rattle.wasm_syntax.specs.Module.{Function, function_at, type_at, same_functype}
use Rattle.wasm_syntax.specs.Host.{World}
use Rattle.wasm_syntax.specs.declared.host.CollectorCall.{CollectorCall}
use Rattle.wasm_syntax.specs.Effect.{Effect, gives, fails, unfit, effect, takes}
use Rattle.wasm_syntax.specs.Machine.{Kind, Label, Frame, Config, label, frame, config, Engine, traps, Cut, short, parts, cut, result_of, function_type, calls, calls_if, calls_entry, calls_typed, calls_indirect, jumps, affects, does, runs, in_frame, steps, step, top, Stepped, next, ends, no_reply, bad_reply, stuck}
use Rattle.rewrite_bodies.specs.calls.Slots.{Place, Spilled, Ctx, less, grown, result_type, Landing, place_type, offset_at, pushed, local_written, freed_at, result_place, after_plain, length_at, measured}
use Rattle.rewrite_bodies.specs.calls.Rewrite.{spare, passes, unwind_kind, tested, guarded, indirect_code, rewrite, checked, free_at, grows, lengthened}
use Rattle.rewrite_bodies.specs.calls.Pieces.{const, keep, set}
use Rattle.rewrite_bodies.specs.calls.Guards.{can_trap, kind, entry_label, type_label, first_table, guard}
use Rattle.rewrite_bodies.specs.calls.Steps.{To, Shell, st}
use Rattle.rewrite_bodies.proofs.Run.{seq, weaken, push_to, slice_get-put_other}
use Rattle.rewrite_bodies.specs.calls.Agreement.{joined, Wit, FitsIn, Has, Room_call, Room, told_length, WorldFits, FitsFrame, FitsFrames, FitsConfig, Wrap, flagged, image, running}
use Rattle.rewrite_bodies.specs.inner.Promises.{kind_of, verdict, Comes}
use Rattle.rewrite_bodies.proofs.Parts.{Rel, framed, place_of, fits_offset}
use Rattle.rewrite_bodies.proofs.Passing.{needs_all, kept_all, match_but, needs_measured}
use Rattle.rewrite_bodies.specs.calls.Standing.{Stands, After}
use Rattle.rewrite_bodies.proofs.Sim.{refit, len_of, shell, tgt, wit, armed, if_up_to, verdict_to, kind_to, usual_gives, push_sim, get_sim, set_sim, tee_sim, block_sim, loop_sim, if_sim, room_height}
use Rattle.rewrite_bodies.proofs.Stays.{Stays, Usual, stays}
use Rattle.rewrite_bodies.proofs.Control.{end_sim, br_node, br_if_node, return_node, table_node}
use Rattle.rewrite_bodies.specs.calls.Landings.{number_of, number_in, landing_of, one_kind, carrying, part_of}
use Rattle.rewrite_bodies.proofs.Landed.{mark_to}
use Rattle.rewrite_bodies.proofs.OneKind.{only_kind, takes_one}
use Rattle.rewrite_bodies.proofs.Unwind.{all_ops, all_in, tell-all}
use Rattle.rewrite_bodies.proofs.Calls.{trap_landed, trap_from, call_node, same_functype-same, entry_trap, entry_call}
use Rattle.rewrite_bodies.specs.calls.Offsets.{SmallOffset}
use Rattle.wasm_syntax.proofs.Types.{same_functype_refl, same_type_refl}
use Rattle.rewrite_bodies.proofs.Risks.{Treated, gets, sets, tees, constant, spills, treated}
use Rattle.rewrite_bodies.specs.calls.Facts.{needs, exposed_in, frail}
use Rattle.rewrite_bodies.specs.calls.Known.{KnownLabels, nodes_in}
use Rattle.rewrite_bodies.proofs.FactLaws.{Safe, safe_here}
use Rattle.rewrite_bodies.proofs.KnownSteps.{KnownStepped, step_known}
use Rattle.rewrite_bodies.specs.calls.Derived.{DerivedLabels, DerivedCallers, derived_of, offsets_of}
use Rattle.rewrite_bodies.proofs.DerivedSteps.{DerivedStepped, derived_step}
use Rattle.rewrite_bodies.proofs.WorkedOut.{Ready, frame_ready, LeftHere, left_here, offsets_is}

module _ (M M' : Engine) (E : ℕ) (gl : List ValType) (W : Wrap) (S : Stands M M' E gl) where
  -- ---- an indirect call

  module _ (C : Ctx) (ex : List Value) (e1 : Place) (e : List Place) (ss : List (List Place)) (ws : List Wit) (ix cl : ℕ) (r : Option ValType) (l : List Value) (n : ℕ) (ops : List Value) (en : ℕ) (kd : Kind) (Ls : List Label) (Fs : List Frame) (g : World) (co : List CollectorCall) (at t : ℕ) (rest : Nodes) (f : FitsFrame M E gl (running g) (frame ix r cl l (label (values.I32 n ∷ ops) (jump at (CallIndirect t) rest) en kd ∷ Ls)) (wit C ex ((e1 ∷ e) ∷ ss))) (fs : FitsFrames M E gl W.result r Fs ws) (wf : WorldFits M gl g) (shallow : suc (length Fs) ≤ M.depth) (rd : Ready C l) (ds : DerivedCallers M.program Fs) where
    abbrev FI : Frame
    FI = frame ix r cl l (label (values.I32 n ∷ ops) (jump at (CallIndirect t) rest) en kd ∷ Ls)

    abbrev LI : Label
    LI = label (values.I32 n ∷ ops) (jump at (CallIndirect t) rest) en kd

    abbrev esi : List Place
    esi = e ++ joined ss

    abbrev lsi : ℕ
    lsi = suc (length Ls)

    abbrev TI : Option FuncType → Config
    TI ty = st (shell W C r kd Ls ss Fs ws) (l ++ ex) (values.I32 n ∷ ops) (indirect_code C lsi (e1 ∷ esi) at t ty (λ es'. rewrite C lsi es' rest)) (flagged M g (values.I32 0)) co

    abbrev RoomI : FuncType → Type 0
    RoomI type = FitsIn C (result_of type) (less (length type.params) esi) × Room C (grown (result_of type) (less (length type.params) esi)) rest

    tab : (q : Option (Option ℕ)) → slice_get g.table n ≡ q → slice_get (first_table M.program.module_) n ≡ q
    tab q e = ap (λ z. slice_get z n) (sym wf.table) ∙ e

    module _ (type : FuncType) (ty : slice_get M.program.module_.types t ≡ Some type) (has : Has t C.helpers) (rm : RoomI type) where
      label_is : (g' : ℕ) (u : FuncType) (b : Bool) → type_at M.program.module_ g' ≡ Some u → same_functype u type ≡ b → unwrap_or (option_map (entry_label M.program.module_ t) (Some (Some g'))) 1 ≡ type_label b
      label_is g' u b tu sb = rw (ty, tu, sb) refl

      by_function : (g' : ℕ) (o : Option Function) → slice_get g.table n ≡ Some (Some g') → type_at M.program.module_ g' ≡ Some type → function_at M.program g' ≡ o → Comes M M' E gl W (TI (Some type)) (calls M o g' ops at rest FI LI Ls Fs g co)
      by_function g' None tq tu at_ = tt
      by_function g' (Some fn) tq tu at_ =
          let ft = S.type_is g' fn at_ in
          let same : function_type fn ≡ type = some_same (sym ft ∙ tu) in
          entry_call M M' E gl W S C ex e1 e ss ws ix cl r l n ops en kd Ls Fs g co at t rest f fs wf shallow type g' fn (cut (length (function_type fn).params) ops) has rm ty tq at_ same (label_is g' type true tu (same_functype_refl type)) refl
        where
          some_same : {a b : FuncType} → Some a ≡ Some b → a ≡ b
          some_same {a} e = ap (λ o. unwrap_or o a) e

      by_type : (g' : ℕ) (u : FuncType) (b : Bool) → slice_get g.table n ≡ Some (Some g') → type_at M.program.module_ g' ≡ Some u → same_functype u type ≡ b → Comes M M' E gl W (TI (Some type)) (calls_if M (Some b) g' ops at rest FI LI Ls Fs g co)
      by_type g' u false tq tu sb = entry_trap M M' E gl W S C ex e1 e ss ws ix cl r l n ops en kd Ls Fs g co at t rest f fs wf shallow rd ds type (Some (Some g')) 3 6 has (tab (Some (Some g')) tq) (label_is g' u false tu sb) (inr (inr (inr (refl, refl))))
      by_type g' u true tq tu sb = by_function g' (function_at M.program g') tq (tu ∙ ap Some (same_functype-same u type sb)) refl

      by_typed : (g' : ℕ) (o : Option FuncType) → slice_get g.table n ≡ Some (Some g') → type_at M.program.module_ g' ≡ o → Comes M M' E gl W (TI (Some type)) (calls_if M (option_map (λ u. same_functype u type) o) g' ops at rest FI LI Ls Fs g co)
      by_typed g' None tq tu = tt
      by_typed g' (Some u) tq tu = by_type g' u (same_functype u type) tq tu refl

      by_entry : (q : Option (Option ℕ)) → slice_get g.table n ≡ q → Comes M M' E gl W (TI (Some type)) (calls_entry M q type ops at rest FI LI Ls Fs g co)
      by_entry None tq = entry_trap M M' E gl W S C ex e1 e ss ws ix cl r l n ops en kd Ls Fs g co at t rest f fs wf shallow rd ds type None 1 4 has (tab None tq) refl (inr (inl (refl, refl)))
      by_entry (Some None) tq = entry_trap M M' E gl W S C ex e1 e ss ws ix cl r l n ops en kd Ls Fs g co at t rest f fs wf shallow rd ds type (Some None) 2 5 has (tab (Some None) tq) refl (inr (inr (inl (refl, refl))))
      by_entry (Some (Some g')) tq = by_typed g' (type_at M.program.module_ g') tq refl

    indirect_in : (ty : Option FuncType) → slice_get M.program.module_.types t ≡ ty → Has t C.helpers × Room_call C ty esi (λ es'. Room C es' rest) → Comes M M' E gl W (TI ty) (calls_typed M ty (slice_get g.table n) ops at rest FI LI Ls Fs g co)
    indirect_in None ty rm = tt
    indirect_in (Some type) ty rm = by_entry type ty rm.0 rm.1 (slice_get g.table n) refl

    indirect_here : Comes M M' E gl W (tgt M W C ex (e1 ∷ e) ss ws r l (values.I32 n ∷ ops) kd Ls Fs g co (jump at (CallIndirect t) rest)) (calls_typed M (slice_get M.program.module_.types t) (slice_get g.table n) ops at rest FI LI Ls Fs g co)
    indirect_here =
        let same : slice_get C.source.types t ≡ slice_get M.program.module_.types t = ap (λ z. slice_get z.types t) f.funcs in
        subst (λ z. Comes M M' E gl W (TI z) (calls_typed M (slice_get M.program.module_.types t) (slice_get g.table n) ops at rest FI LI Ls Fs g co)) (sym same)
        (indirect_in (slice_get M.program.module_.types t) refl (subst (λ z. Has t C.helpers × Room_call C z esi (λ es'. Room C es' rest)) same f.labels.2.1))

  indirect_node : (C : Ctx) (ex : List Value) (e : List Place) (ss : List (List Place)) (ws : List Wit) (ix cl : ℕ) (r : Option ValType) (l ops : List Value) (en : ℕ) (kd : Kind) (Ls : List Label) (Fs : List Frame) (g : World) (co : List CollectorCall) (at t : ℕ) (rest : Nodes) → FitsFrame M E gl (running g) (frame ix r cl l (label ops (jump at (CallIndirect t) rest) en kd ∷ Ls)) (wit C ex (e ∷ ss)) → FitsFrames M E gl W.result r Fs ws → WorldFits M gl g → suc (length Fs) ≤ M.depth → Ready C l → DerivedCallers M.program Fs → Comes M M' E gl W (tgt M W C ex e ss ws r l ops kd Ls Fs g co (jump at (CallIndirect t) rest)) (calls_indirect M t ops at rest (frame ix r cl l (label ops (jump at (CallIndirect t) rest) en kd ∷ Ls)) (label ops (jump at (CallIndirect t) rest) en kd) Ls Fs g co)
  indirect_node C ex e ss ws ix cl r l [] en kd Ls Fs g co at t rest f fs wf sh rd ds = tt
  indirect_node C ex e ss ws ix cl r l (values.I64 n ∷ ops) en kd Ls Fs g co at t rest f fs wf sh rd ds = tt
  indirect_node C ex [] ss ws ix cl r l (values.I32 n ∷ ops) en kd Ls Fs g co at t rest f fs wf sh rd ds = absurd f.labels.0
  indirect_node C ex (e1 ∷ e) ss ws ix cl r l (values.I32 n ∷ ops) en kd Ls Fs g co at t rest f fs wf sh rd ds = indirect_here C ex e1 e ss ws ix cl r l n ops en kd Ls Fs g co at t rest f fs wf sh rd ds

  -- ---- a trap at a landing

  module _ (C : Ctx) (ex : List Value) (e1 : Place) (e : List Place) (ss : List (List Place)) (ws : List Wit) (ix cl : ℕ) (r : Option ValType) (l : List Value) (v : Value) (ops : List Value) (en : ℕ) (kd : Kind) (Ls : List Label) (Fs : List Frame) (g : World) (co : List CollectorCall) (o : ℕ) (i : Basic) (rest : Nodes) (f : FitsFrame M E gl (running g) (frame ix r cl l (label (v ∷ ops) (basic o i rest) en kd ∷ Ls)) (wit C ex ((e1 ∷ e) ∷ ss))) (fs : FitsFrames M E gl W.result r Fs ws) (wf : WorldFits M gl g) (rd : Ready C l) (ds : DerivedCallers M.program Fs) (t : Config) (k : Nodes) (j n : ℕ) where
    abbrev LC : Label
    LC = label (v ∷ ops) (basic o i rest) en kd

    abbrev Found : Landing
    Found = record { carried = Some (place_type e1); places = e ++ joined ss; kind = suc j; part = part_of C.locals o }

    abbrev Before : Config
    Before = st (shell W C r kd Ls ss Fs ws) (l ++ slice_set ex (offset_at C) (values.I32 o)) (values.I32 1 ∷ (v ∷ ops)) (jump 0 (BrIf (suc (length Ls) + n)) k) (flagged M g (values.I32 0)) co

    carried_trap : spare C (basic o i rest) ≡ 0 → number_of Found C.landings ≡ Some n → To M' 1 30 t Before → Comes M M' E gl W t (traps (suc j) (config (frame ix r cl l (LC ∷ Ls) ∷ Fs) g co))
    carried_trap p is pre =
        let h = kept_all C l ex (told_length g.memory) LC Ls (e1 ∷ e) ss p f.labels in
        let low : length (e1 ∷ (e ++ joined ss)) ≤ C.slots = room_height C (e1 ∷ (e ++ joined ss)) (basic o i rest) h.2 in
        let ty : type_of v ≡ place_type e1 = place_of C l ex (length (e ++ joined ss)) e1 v h.0.0 in
        let top_is : top (Some (place_type e1)) (v ∷ ops) ≡ Some (v ∷ []) = rw (ty, same_type_refl (place_type e1)) refl in
        trap_landed M M' E gl W S C ex (e1 ∷ e) ss ws ix cl r l (v ∷ ops) en kd Ls Fs g co (basic o i rest) f fs wf p rd ds t j k Found n (v ∷ []) (ops ++ all_ops Ls) is refl top_is
        (λ ex2 hk. (all_in C l ex2 None (LC ∷ Ls) ((e1 ∷ e) ∷ ss) hk).1) (omega (arith, low)) (tell-all (LC ∷ Ls) co) pre

  landed_trap : (C : Ctx) (ex : List Value) (e : List Place) (ss : List (List Place)) (ws : List Wit) (ix cl : ℕ) (r : Option ValType) (l ops : List Value) (en : ℕ) (kd : Kind) (Ls : List Label) (Fs : List Frame) (g : World) (co : List CollectorCall) (o : ℕ) (i : Basic) (rest : Nodes) → FitsFrame M E gl (running g) (frame ix r cl l (label ops (basic o i rest) en kd ∷ Ls)) (wit C ex (e ∷ ss)) → FitsFrames M E gl W.result r Fs ws → WorldFits M gl g → Ready C l → DerivedCallers M.program Fs → spare C (basic o i rest) ≡ 0
      → (t : Config) (k : Nodes) (vs below : List Value) (j n : ℕ) → cut (takes i) ops ≡ parts vs below → effect i g l vs ≡ fails (suc j) → number_in C.landings (landing_of (part_of C.locals o) i (e ++ joined ss)) ≡ Some n → To M' 1 30 t (st (shell W C r kd Ls ss Fs ws) (l ++ slice_set ex (offset_at C) (values.I32 o)) (values.I32 1 ∷ ops) (jump 0 (BrIf (suc (length Ls) + n)) k) (flagged M g (values.I32 0)) co) → Comes M M' E gl W t (traps (suc j) (config (frame ix r cl l (label ops (basic o i rest) en kd ∷ Ls) ∷ Fs) g co))
  landed_trap C ex e ss ws ix cl r l ops en kd Ls Fs g co o i rest f fs wf rd ds all_kept t k vs below j n c p is pre = by_kind (one_kind i) refl is
    where
      by_places : (e : List Place) (ops : List Value) (k1 : ℕ) → FitsFrame M E gl (running g) (frame ix r cl l (label ops (basic o i rest) en kd ∷ Ls)) (wit C ex (e ∷ ss)) → one_kind i ≡ Some k1 → cut (takes i) ops ≡ parts vs below → number_in C.landings (carrying (part_of C.locals o) (Some k1) (e ++ joined ss)) ≡ Some n → To M' 1 30 t (st (shell W C r kd Ls ss Fs ws) (l ++ slice_set ex (offset_at C) (values.I32 o)) (values.I32 1 ∷ ops) (jump 0 (BrIf (suc (length Ls) + n)) k) (flagged M g (values.I32 0)) co) → Comes M M' E gl W t (traps (suc j) (config (frame ix r cl l (label ops (basic o i rest) en kd ∷ Ls) ∷ Fs) g co))
      by_places [] [] k1 f one c is pre =
          let m = takes_one i k1 one in
          let z : cut (takes i) [] ≡ short = ap (λ m. cut m []) m.1 in
          absurd (cc)
      by_places [] (v ∷ ops) k1 f one c is pre = absurd (kept_all C l ex (told_length g.memory) (label (v ∷ ops) (basic o i rest) en kd) Ls [] ss all_kept f.labels).0
      by_places (e1 ∷ e) [] k1 f one c is pre = absurd (kept_all C l ex (told_length g.memory) (label [] (basic o i rest) en kd) Ls (e1 ∷ e) ss all_kept f.labels).0
      by_places (e1 ∷ e) (v ∷ ops) k1 f one c is pre =
          let same : suc j ≡ k1 = only_kind i g l vs k1 (suc j) one p in
          let is' : number_of (Found C ex e1 e ss ws ix cl r l v ops en kd Ls Fs g co o i rest f fs wf rd ds t k j n) C.landings ≡ Some n = subst (λ z. number_in C.landings (carrying (part_of C.locals o) (Some z) ((e1 ∷ e) ++ joined ss)) ≡ Some n) (sym same) is in
          carried_trap C ex e1 e ss ws ix cl r l v ops en kd Ls Fs g co o i rest f fs wf rd ds t k j n all_kept is' pre

      by_kind : (q : Option ℕ) → one_kind i ≡ q → number_in C.landings (carrying (part_of C.locals o) q (e ++ joined ss)) ≡ Some n → Comes M M' E gl W t (traps (suc j) (config (frame ix r cl l (label ops (basic o i rest) en kd ∷ Ls) ∷ Fs) g co))
      by_kind None one is = absurd (cc)
      by_kind (Some k1) one is = by_places e ops k1 f one c is pre

  -- ---- a basic instruction, whatever comes of it

  module _ (C : Ctx) (ex : List Value) (e : List Place) (ss : List (List Place)) (ws : List Wit) (ix cl : ℕ) (r : Option ValType) (l ops : List Value) (en : ℕ) (kd : Kind) (Ls : List Label) (Fs : List Frame) (g : World) (co : List CollectorCall) (o : ℕ) (i : Basic) (rest : Nodes) (f : FitsFrame M E gl (running g) (frame ix r cl l (label ops (basic o i rest) en kd ∷ Ls)) (wit C ex (e ∷ ss))) (fs : FitsFrames M E gl W.result r Fs ws) (wf : WorldFits M gl g) (rm : SmallOffset i × FitsIn C (result_type C (e ++ joined ss) i) (less (takes i) (e ++ joined ss)) × Room C (grown (result_type C (e ++ joined ss) i) (less (takes i) (e ++ joined ss))) rest) (usual_ : Usual i) (safe : Safe C g l ops (basic o i rest)) (ready : LeftHere C l (basic o i rest)) (ds : DerivedCallers M.program Fs) where
    abbrev FB : Frame
    FB = frame ix r cl l (label ops (basic o i rest) en kd ∷ Ls)

    abbrev LB : Label
    LB = label ops (basic o i rest) en kd

    abbrev esb : List Place
    esb = e ++ joined ss

    abbrev lsb : ℕ
    lsb = suc (length Ls)

    abbrev XB : Shell
    XB = shell W C r kd Ls ss Fs ws

    abbrev gb : World
    gb = flagged M g (values.I32 0)

    abbrev kb : Nodes
    kb = basic 0 i (lengthened (grows i) C (keep (passes C rest) C (option_map Spilled (result_type C esb i)) (less (takes i) esb) (rewrite C lsb (grown (result_type C esb i) (less (takes i) esb)) rest)))

    abbrev TB : Bool → Config
    TB b = st XB (l ++ ex) ops (guarded b C lsb esb o i kb) gb co

    basic_trap : (vs below : List Value) (k : ℕ) → cut (takes i) ops ≡ parts vs below → effect i g l vs ≡ fails k → Comes M M' E gl W (TB (needs C o i)) (traps k (config (FB ∷ Fs) g co))
    basic_trap vs below k c p =
        let h = f.labels in
        let bs = values.I32 0 ∷ values.I64 (told_length g.memory) ∷ [] in
        let tr = subst (λ z. Rel M gl (result_type C esb i) (can_trap i) l ex bs z (effect i gb (l ++ ex) vs)) p (framed M gl C esb l g ex bs f.size wf (sym f.flag) i vs (match_but C (spare C (basic o i rest)) l ex (takes i) (joined ss) e ops vs below h.0 c)) in
        let j = tr.1 in
        let is : kind_of (effect i g l vs) ≡ suc j = ap kind_of p ∙ tr.2 in
        by_need (needs C o i) refl tr.0 (λ n. subst (λ z. Comes M M' E gl W (TB true) (traps z (config (FB ∷ Fs) g co))) (sym tr.2) (by_number (ready n) (needs_all C o i rest n) (needs_measured C o i n) (number_in C.landings (landing_of (part_of C.locals o) i esb)) j refl tr.0 is (p ∙ ap fails tr.2)))
      where
        by_need : (b : Bool) → needs C o i ≡ b → can_trap i ≡ true → (needs C o i ≡ true → Comes M M' E gl W (TB true) (traps k (config (FB ∷ Fs) g co))) → Comes M M' E gl W (TB b) (traps k (config (FB ∷ Fs) g co))
        by_need true n t h = h n
        by_need false n t h = absurd (safe n t vs below k c p)

        by_number : Ready C l → spare C (basic o i rest) ≡ 0 → measured C ≡ true → (q : Option ℕ) (j : ℕ) → number_in C.landings (landing_of (part_of C.locals o) i esb) ≡ q → can_trap i ≡ true → kind_of (effect i g l vs) ≡ suc j → effect i g l vs ≡ fails (suc j) → Comes M M' E gl W (st XB (l ++ ex) ops (checked q C lsb esb o (guard C i esb) (kind C i esb) kb) gb co) (traps (suc j) (config (FB ∷ Fs) g co))
        by_number rd all_kept keeps None j num ct is p =
            let h = kept_all C l ex (told_length g.memory) LB Ls e ss all_kept f.labels in
            let T0 = st XB (l ++ ex) ops (guard C i esb (tested C lsb esb o (kind C i esb) kb)) gb co in
            let v1 = verdict_to M M' E gl W C ex e ss ws ix cl r l ops en kd Ls Fs g co ex i (tested C lsb esb o (kind C i esb) kb) vs below ct (len_of l C.locals f.size) (wf.memory, f.labels.1 keeps) rm.0 h.0 c (λ n. cc) in
            let arm = unwind_kind C lsb esb o in
            let YB = armed XB kb ops in
            let v2 : To M' 1 21 T0 (st XB (l ++ ex) (values.I32 1 ∷ ops) (tested C lsb esb o (kind C i esb) kb) gb co) = subst (λ z. To M' 1 21 T0 (st XB (l ++ ex) (values.I32 (verdict z) ∷ ops) (tested C lsb esb o (kind C i esb) kb) gb co)) is v1 in
            let v3 : To M' 1 1 (st XB (l ++ ex) (values.I32 1 ∷ ops) (tested C lsb esb o (kind C i esb) kb) gb co) (st YB (l ++ ex) [] (kind C i esb arm) gb co) = if_up_to M' 0 in
            let v4 = kind_to M M' E gl W C ex e ss ws ix cl r l ops en kd Ls Fs g co YB i j arm vs below ct (len_of l C.locals f.size) (wf.memory, f.labels.1 keeps) rm.0 h.0 c (λ n. cc) is in
            trap_from M M' E gl W S C ex e ss ws ix cl r l ops en kd Ls Fs g co (basic o i rest) f fs wf all_kept rd ds T0 j kb (weaken M' (seq M' v2 (seq M' v3 v4)) (omega arith) (omega arith))
        by_number rd all_kept keeps (Some n) j num ct is p =
            let low : length esb ≤ C.slots = room_height C esb (basic o i rest) f.labels.2 in
            let exm = slice_set ex (offset_at C) (values.I32 o) in
            let ne : length_at C ≢ offset_at C = omega arith in
            let go = jump 0 (BrIf (lsb + n)) kb in
            let hm = fits_offset C l ex None (LB ∷ Ls) (e ∷ ss) (values.I32 o) (omega (arith, low)) (kept_all C l ex (told_length g.memory) LB Ls e ss all_kept f.labels) in
            let T0 = st XB (l ++ ex) ops (const (values.I32 o) (set C (offset_at C) (guard C i esb go))) gb co in
            let v0 : To M' 2 2 T0 (st XB (l ++ exm) ops (guard C i esb go) gb co) = mark_to M' C l (len_of l C.locals f.size) o ex f.room in
            let v1 = verdict_to M M' E gl W C ex e ss ws ix cl r l ops en kd Ls Fs g co exm i go vs below ct (len_of l C.locals f.size) (wf.memory, slice_get-put_other ex (length_at C) (offset_at C) (values.I32 o) ne ∙ f.labels.1 keeps) rm.0 hm.0 c (λ n. cc) in
            let v2 : To M' 1 21 (st XB (l ++ exm) ops (guard C i esb go) gb co) (st XB (l ++ exm) (values.I32 1 ∷ ops) go gb co) = subst (λ z. To M' 1 21 (st XB (l ++ exm) ops (guard C i esb go) gb co) (st XB (l ++ exm) (values.I32 (verdict z) ∷ ops) go gb co)) is v1 in
            landed_trap C ex e ss ws ix cl r l ops en kd Ls Fs g co o i rest f fs wf rd ds all_kept T0 kb vs below j n c p num (weaken M' (seq M' v0 v2) (omega arith) (omega arith))

    stayed : (g' : World) (l' ws' : List Value) (x : Effect) → Stays l x → x ≡ gives g' l' ws' → l' ≡ l
    stayed g' l' ws' x h p = subst (Stays l) p h

    performed : (vs below : List Value) (x : Effect) → cut (takes i) ops ≡ parts vs below → effect i g l vs ≡ x → Comes M M' E gl W (TB (needs C o i)) (affects M x below rest FB LB Ls Fs g co)
    performed vs below (gives g' l' ws') c p = usual_gives M M' E gl W C ex e ss ws ix cl r l ops en kd Ls Fs g co i o rest vs below l' g' ws' f fs wf rm (stayed g' l' ws' (effect i g l vs) (stays l i g vs usual_) p) c p
    performed vs below (fails k) c p = basic_trap vs below k c p
    performed vs below unfit c p = tt

    acts : (u : Cut) → cut (takes i) ops ≡ u → Comes M M' E gl W (TB (needs C o i)) (does M i u rest FB LB Ls Fs g co)
    acts short c = tt
    acts (parts vs below) c = performed vs below (effect i g l vs) c refl

    plain_sim : Comes M M' E gl W (TB (needs C o i)) (does M i (cut (takes i) ops) rest FB LB Ls Fs g co)
    plain_sim = acts (cut (takes i) ops) refl

  unreachable_sim : (C : Ctx) (ex : List Value) (e : List Place) (ss : List (List Place)) (ws : List Wit) (ix cl : ℕ) (r : Option ValType) (l ops : List Value) (en : ℕ) (kd : Kind) (Ls : List Label) (Fs : List Frame) (g : World) (co : List CollectorCall) (o : ℕ) (rest : Nodes) → FitsFrame M E gl (running g) (frame ix r cl l (label ops (jump o Unreachable rest) en kd ∷ Ls)) (wit C ex (e ∷ ss)) → FitsFrames M E gl W.result r Fs ws → WorldFits M gl g → Ready C l → DerivedCallers M.program Fs → Comes M M' E gl W (tgt M W C ex e ss ws r l ops kd Ls Fs g co (jump o Unreachable rest)) (traps 1 (config (frame ix r cl l (label ops (jump o Unreachable rest) en kd ∷ Ls) ∷ Fs) g co))
  unreachable_sim C ex e ss ws ix cl r l ops en kd Ls Fs g co o rest f fs wf rd ds = trap_from M M' E gl W S C ex e ss ws ix cl r l ops en kd Ls Fs g co (jump o Unreachable rest) f fs wf refl rd ds _ 0 (jump 0 Unreachable stop)
      (let X = shell W C r kd Ls ss Fs ws in
      let k = jump 0 Unreachable stop in
      let ls = suc (length Ls) in
      let arm = unwind_kind C ls (e ++ joined ss) o in
      let g0 = flagged M g (values.I32 0) in
      let s1 : To M' 1 1 (st X (l ++ ex) ops (const (values.I32 1) (tested C ls (e ++ joined ss) o (const (values.I32 1)) k)) g0 co) (st X (l ++ ex) (values.I32 1 ∷ ops) (tested C ls (e ++ joined ss) o (const (values.I32 1)) k) g0 co) = push_to M' (values.I32 1) in
      let s2 : To M' 1 1 (st X (l ++ ex) (values.I32 1 ∷ ops) (tested C ls (e ++ joined ss) o (const (values.I32 1)) k) g0 co) (st (armed X k ops) (l ++ ex) [] (const (values.I32 1) arm) g0 co) = if_up_to M' 0 in
      let s3 : To M' 1 1 (st (armed X k ops) (l ++ ex) [] (const (values.I32 1) arm) g0 co) (st (armed X k ops) (l ++ ex) (values.I32 1 ∷ []) arm g0 co) = push_to M' (values.I32 1) in
      weaken M' (seq M' s1 (seq M' s2 s3)) (omega arith) (omega arith))

  -- ---- each step

  basic_as : (C : Ctx) (ex : List Value) (e : List Place) (ss : List (List Place)) (ws : List Wit) (ix cl : ℕ) (r : Option ValType) (l ops : List Value) (en : ℕ) (kd : Kind) (Ls : List Label) (Fs : List Frame) (g : World) (co : List CollectorCall) (o : ℕ) (i : Basic) → Treated i → (rest : Nodes) → FitsFrame M E gl (running g) (frame ix r cl l (label ops (basic o i rest) en kd ∷ Ls)) (wit C ex (e ∷ ss)) → FitsFrames M E gl W.result r Fs ws → WorldFits M gl g → Safe C g l ops (basic o i rest) → LeftHere C l (basic o i rest) → DerivedCallers M.program Fs → Comes M M' E gl W (tgt M W C ex e ss ws r l ops kd Ls Fs g co (basic o i rest)) (does M i (cut (takes i) ops) rest (frame ix r cl l (label ops (basic o i rest) en kd ∷ Ls)) (label ops (basic o i rest) en kd) Ls Fs g co)
  basic_as C ex e ss ws ix cl r l ops en kd Ls Fs g co o i (gets x) rest f fs wf safe ready ds = get_sim M M' E gl W C ex e ss ws ix cl r l ops en kd Ls Fs g co o x rest f fs wf
  basic_as C ex e ss ws ix cl r l ops en kd Ls Fs g co o i (sets x) rest f fs wf safe ready ds = set_sim M M' E gl W C ex e ss ws ix cl r l ops en kd Ls Fs g co o x rest f fs wf
  basic_as C ex e ss ws ix cl r l ops en kd Ls Fs g co o i (tees x) rest f fs wf safe ready ds = tee_sim M M' E gl W C ex e ss ws ix cl r l ops en kd Ls Fs g co o x rest f fs wf
  basic_as C ex e ss ws ix cl r l ops en kd Ls Fs g co o i (constant v) rest f fs wf safe ready ds = push_sim M M' E gl W C ex e ss ws ix cl r l ops en kd Ls Fs g co o v rest f fs wf
  basic_as C ex e ss ws ix cl r l ops en kd Ls Fs g co o i (spills none no_local given) rest f fs wf safe ready ds =
      let es = e ++ joined ss in
      let left = less (takes i) es in
      let d = suc (length Ls) in
      let X = shell W C r kd Ls ss Fs ws in
      let code : Option ℕ → Option Place → Nodes = λ x p. free_at C x left (basic 0 i (lengthened (grows i) C (keep (passes C rest) C p left (rewrite C d (pushed p (freed_at x left)) rest)))) in
      let behind : after_plain C es i ≡ grown (result_type C es i) left = ap₂ (λ (x : Option ℕ) (p : Option Place). pushed p (freed_at x left)) none (given C es) in
      let same : code (local_written i) (result_place C es i) ≡ code None (option_map Spilled (result_type C es i)) = ap₂ code none (given C es) in
      let rm : SmallOffset i × FitsIn C (result_type C es i) left × Room C (grown (result_type C es i) left) rest = (f.labels.2.1, f.labels.2.2, subst (λ (z : List Place). Room C z rest) behind f.labels.2.3) in
      subst
      (λ (k : Nodes).
      Comes M M' E gl W (st X (l ++ ex) ops (guarded (needs C o i) C d es o i k) (flagged M g (values.I32 0)) co)
      (does M i (cut (takes i) ops) rest (frame ix r cl l (label ops (basic o i rest) en kd ∷ Ls)) (label ops (basic o i rest) en kd) Ls Fs g co))
      (sym same) (plain_sim C ex e ss ws ix cl r l ops en kd Ls Fs g co o i rest f fs wf rm no_local safe ready ds)

  basic_sim : (C : Ctx) (ex : List Value) (e : List Place) (ss : List (List Place)) (ws : List Wit) (ix cl : ℕ) (r : Option ValType) (l ops : List Value) (en : ℕ) (kd : Kind) (Ls : List Label) (Fs : List Frame) (g : World) (co : List CollectorCall) (o : ℕ) (i : Basic) (rest : Nodes) → FitsFrame M E gl (running g) (frame ix r cl l (label ops (basic o i rest) en kd ∷ Ls)) (wit C ex (e ∷ ss)) → FitsFrames M E gl W.result r Fs ws → WorldFits M gl g → Safe C g l ops (basic o i rest) → LeftHere C l (basic o i rest) → DerivedCallers M.program Fs → Comes M M' E gl W (tgt M W C ex e ss ws r l ops kd Ls Fs g co (basic o i rest)) (does M i (cut (takes i) ops) rest (frame ix r cl l (label ops (basic o i rest) en kd ∷ Ls)) (label ops (basic o i rest) en kd) Ls Fs g co)
  basic_sim C ex e ss ws ix cl r l ops en kd Ls Fs g co o i rest f fs wf safe ready ds = basic_as C ex e ss ws ix cl r l ops en kd Ls Fs g co o i (treated i) rest f fs wf safe ready ds

  jump_sim : (C : Ctx) (ex : List Value) (e : List Place) (ss : List (List Place)) (ws : List Wit) (ix cl : ℕ) (r : Option ValType) (l ops : List Value) (en : ℕ) (kd : Kind) (Ls : List Label) (Fs : List Frame) (g : World) (co : List CollectorCall) (o : ℕ) (j : Jump) (rest : Nodes) → FitsFrame M E gl (running g) (frame ix r cl l (label ops (jump o j rest) en kd ∷ Ls)) (wit C ex (e ∷ ss)) → FitsFrames M E gl W.result r Fs ws → WorldFits M gl g → suc (length Fs) ≤ M.depth → Ready C l → DerivedCallers M.program Fs → Comes M M' E gl W (tgt M W C ex e ss ws r l ops kd Ls Fs g co (jump o j rest)) (jumps M j o rest (frame ix r cl l (label ops (jump o j rest) en kd ∷ Ls)) (label ops (jump o j rest) en kd) Ls Fs g co)
  jump_sim C ex e ss ws ix cl r l ops en kd Ls Fs g co o Unreachable rest f fs wf sh rd ds = unreachable_sim C ex e ss ws ix cl r l ops en kd Ls Fs g co o rest f fs wf rd ds
  jump_sim C ex e ss ws ix cl r l ops en kd Ls Fs g co o (Br n) rest f fs wf sh rd ds = br_node M M' E gl W C ex e ss ws ix cl r l ops en kd Ls Fs g co o n rest f fs wf
  jump_sim C ex e ss ws ix cl r l ops en kd Ls Fs g co o (BrIf n) rest f fs wf sh rd ds = br_if_node M M' E gl W C ex e ss ws ix cl r l ops en kd Ls Fs g co o n rest f fs wf
  jump_sim C ex e ss ws ix cl r l ops en kd Ls Fs g co o (BrTable ts d) rest f fs wf sh rd ds = table_node M M' E gl W C ex e ss ws ix cl r l ops en kd Ls Fs g co o d ts rest f fs wf
  jump_sim C ex e ss ws ix cl r l ops en kd Ls Fs g co o Return rest f fs wf sh rd ds = return_node M M' E gl W C ex e ss ws ix cl r l ops en kd Ls Fs g co o rest f fs wf
  jump_sim C ex e ss ws ix cl r l ops en kd Ls Fs g co o (Call g') rest f fs wf sh rd ds = call_node M M' E gl W S C ex e ss ws ix cl r l ops en kd Ls Fs g co o g' rest f fs wf (function_at M.program g') refl
  jump_sim C ex e ss ws ix cl r l ops en kd Ls Fs g co o (CallIndirect t) rest f fs wf sh rd ds = indirect_node C ex e ss ws ix cl r l ops en kd Ls Fs g co o t rest f fs wf sh rd ds

  node_sim : (C : Ctx) (ex : List Value) (e : List Place) (ss : List (List Place)) (ws : List Wit) (ix cl : ℕ) (r : Option ValType) (l ops : List Value) (en : ℕ) (kd : Kind) (Ls : List Label) (Fs : List Frame) (g : World) (co : List CollectorCall) (N : Nodes) → FitsFrame M E gl (running g) (frame ix r cl l (label ops N en kd ∷ Ls)) (wit C ex (e ∷ ss)) → FitsFrames M E gl W.result r Fs ws → WorldFits M gl g → suc (length Fs) ≤ M.depth → Safe C g l ops N → LeftHere C l N → DerivedCallers M.program Fs → Comes M M' E gl W (tgt M W C ex e ss ws r l ops kd Ls Fs g co N) (runs M N (frame ix r cl l (label ops N en kd ∷ Ls)) (label ops N en kd) Ls Fs g co)
  node_sim C ex e ss ws ix cl r l ops en kd Ls Fs g co stop f fs wf sh safe ready ds = end_sim M M' E gl W C ex e ss ws ix cl r l ops en kd Ls Fs g co f fs wf
  node_sim C ex e ss ws ix cl r l ops en kd Ls Fs g co (basic o i rest) f fs wf sh safe ready ds = basic_sim C ex e ss ws ix cl r l ops en kd Ls Fs g co o i rest f fs wf safe ready ds
  node_sim C ex e ss ws ix cl r l ops en kd Ls Fs g co (jump o j rest) f fs wf sh safe ready ds = jump_sim C ex e ss ws ix cl r l ops en kd Ls Fs g co o j rest f fs wf sh ready ds
  node_sim C ex e ss ws ix cl r l ops en kd Ls Fs g co (block o a inner en' rest) f fs wf sh safe ready ds = block_sim M M' E gl W C ex e ss ws ix cl r l ops en kd Ls Fs g co o a inner en' rest f fs wf
  node_sim C ex e ss ws ix cl r l ops en kd Ls Fs g co (loop o a inner en' rest) f fs wf sh safe ready ds = loop_sim M M' E gl W C ex e ss ws ix cl r l ops en kd Ls Fs g co o a inner en' rest f fs wf
  node_sim C ex e ss ws ix cl r l ops en kd Ls Fs g co (choose o a x ea y en' rest) f fs wf sh safe ready ds = if_sim M M' E gl W C ex e ss ws ix cl r l ops en kd Ls Fs g co o a x ea y en' rest f fs wf

  labels_sim : (C : Ctx) (ex : List Value) (ss : List (List Place)) (ws : List Wit) (ix cl : ℕ) (r : Option ValType) (l : List Value) (Ls : List Label) (Fs : List Frame) (g : World) (co : List CollectorCall) → FitsFrame M E gl (running g) (frame ix r cl l Ls) (wit C ex ss) → FitsFrames M E gl W.result r Fs ws → WorldFits M gl g → suc (length Fs) ≤ M.depth → KnownLabels (exposed_in M.program.module_.memories (nodes_in M.program ix)) (frail (nodes_in M.program ix)) l g.memory Ls → DerivedLabels (offsets_of M.program ix) (derived_of M.program ix) l Ls → DerivedCallers M.program Fs → Comes M M' E gl W (image M W (config (frame ix r cl l Ls ∷ Fs) g co) (wit C ex ss ∷ ws)) (in_frame M Ls (frame ix r cl l Ls) Fs g co)
  labels_sim C ex ss ws ix cl r l [] Fs g co f fs wf sh k at ds = tt
  labels_sim C ex [] ws ix cl r l (L ∷ Ls) Fs g co f fs wf sh k at ds = absurd f.labels
  labels_sim C ex (e ∷ ss) ws ix cl r l (L ∷ Ls) Fs g co f fs wf sh k at ds =
      node_sim C ex e ss ws ix cl r l L.operands L.end L.kind Ls Fs g co L.nodes f fs wf sh
      (safe_here C (exposed_in M.program.module_.memories (nodes_in M.program ix)) (frail (nodes_in M.program ix)) k.0 g l L.operands L.nodes L.kind Ls f.exposed k.1)
      (left_here C (offsets_of M.program ix) (derived_of M.program ix) l L.operands L.nodes L.kind Ls (f.exposed ∙ offsets_is M.program ix) (λ q. frame_ready f q) at) ds

  frames_sim : (Fs : List Frame) (g : World) (co : List CollectorCall) (ws : List Wit) → FitsConfig M E gl W.result (config Fs g co) ws → length Fs ≤ M.depth → Comes M M' E gl W (image M W (config Fs g co) ws) (steps M Fs g co)
  frames_sim [] g co ws h sh = absurd h.1
  frames_sim (F ∷ Fs) g co [] h sh = absurd h.1
  frames_sim (F ∷ Fs) g co (w ∷ ws) h sh =
      let f : FitsFrame M E gl (running g) F w = h.1.0 in
      labels_sim w.ctx w.ex w.ss ws F.function F.call F.result F.locals F.labels Fs g co (refit F.locals F.labels w.ex w.ss (running g) F.call f refl refl f.labels) h.1.1 h.0 sh h.2.0 h.3.0 h.3.1

  -- with what is known
  known_after : (t : Config) (r : Stepped) → Comes M M' E gl W t r → KnownStepped M r → DerivedStepped M r → After M M' E gl W t r
  known_after t (next c) h k d = (h.0, (h.1.0, h.1.1, k, d), h.2)
  known_after t (ends w vs co) h k d = h
  known_after t (traps j c) h k d = h
  known_after t (no_reply call c) h k d = h
  known_after t (bad_reply call reply c) h k d = h
  known_after t stuck h k d = tt

  -- each step of the source is some steps of the target
  pub step_sim : (c : Config) (ws : List Wit) → FitsConfig M E gl W.result c ws → length c.frames ≤ M.depth → After M M' E gl W (image M W c ws) (step M c)
  step_sim c ws h sh = known_after (image M W c ws) (step M c) (frames_sim c.frames c.world c.collected ws h sh) (step_known M c h.0.least h.2) (derived_step M c h.3)
