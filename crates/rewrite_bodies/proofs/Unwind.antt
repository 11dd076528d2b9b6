-- Unwinding: frames hand over their values, the innermost first.
use Rattle.std.proofs.Common.{◌≡◌, ℕ, zero, suc, ◌+◌, ◌*◌, ◌≤◌, List, [], ◌∷◌, ◌++◌, length, Option, Some, None, refl, sym, ap, ◌∙◌, subst, arith, append_assoc, append-nil, length-append, ◌≢◌, ◌-◌, take, drop, slice_get, slice_set, option_map}
use Rattle.wasm_syntax.specs.declared.value.ValType.{ValType}
use Rattle.wasm_syntax.specs.declared.value.ValType.TheVariants.{I32, I64}
use Rattle.wasm_syntax.specs.declared.value.Value.{Value}
use Rattle.wasm_syntax.specs.declared.value.Value.TheVariants as values
use Rattle.wasm_syntax.specs.declared.instruction.Basic.TheVariants.{GlobalSet}
use Rattle.wasm_syntax.specs.Numbers.{type_of, types, same_type}
use Rattle.int_ops.specs.Integers.{binary as int_binary}
use Rattle.wasm_syntax.specs.Tree.{Br, BrIf, Return, Nodes, stop, basic, jump}
use Rattle.wasm_syntax.specs.declared.module.ModuleParts.{ModuleParts as Module}
use Rattle.wasm_syntax.specs.Host.{World}
use Rattle.wasm_syntax.specs.declared.host.CollectorCall.{CollectorCall}
use Rattle.wasm_syntax.specs.declared.host.CollectorCall.TheVariants as collector_calls
use Rattle.wasm_syntax.specs.Machine.{Kind, returns, Label, Frame, Config, label, frame, config, Engine, next, exactly, top, inside, branch, deliver}
use Rattle.rewrite_bodies.specs.calls.Slots.{Place, Spilled, place_type, Landing, Ctx, slot, kind_at, offset_at, added, less, grown, measured}
use Rattle.rewrite_bodies.specs.Numbering.{mapped, value_import, frame_import, flag_of, global_types}
use Rattle.rewrite_bodies.specs.calls.Pieces.{get, set, const, call, if_any, fetch, keep, store, reload, drops}
use Rattle.rewrite_bodies.specs.calls.Rewrite.{hand_value, hand, hand_top, to_exit, unwind, hand_left, test_flag, test_both, passes, rewrite, hand_locals, zero_result, raise_flag, exit_code, worked_out, checked, get_flag, hand_carried, landing_code}
use Rattle.rewrite_bodies.specs.calls.Agreement.{One, Holds, awaits, pending, joined, t_kind, t_labels, Wit, UnderWay, FitsLabels, WorldFits, FitsFrame, FitsFrames, Wrap, w_frame, zero_vs, last_result, t_frames, flagged, told_length, Waits}
use Rattle.rewrite_bodies.specs.calls.Steps.{Gets, To, Shell, st}
use Rattle.rewrite_bodies.proofs.Run.{if_same, stored, stored_other, kind_no_slot, clear_slot, types-stored, slice_get-put_same, slice_get-put_other, types-slice_set, added_kind, added_offset, still, one_step, seq, weaken, push_to, get_to, added_get, added_set, fetch_to, store_to}
use Rattle.rewrite_bodies.proofs.Passing.{stored_unless, types_unless, fits_unless, kept_unless}
use Rattle.rewrite_bodies.proofs.Parts.{place_of, fits_kind, fits_offset, fits_stored, step_plain}
use Rattle.rewrite_bodies.proofs.Copies.{fits_any}
use Rattle.dump_write.specs.Collected.{value_call}
use Rattle.rewrite_bodies.specs.calls.Telling.{tell_ops, tell_labels, tell_locals, tell_frame, tell_outer}
use Rattle.rewrite_bodies.proofs.Sim.{room_height, grown_fits, len_of, flag_len, shell, wit, wit_under, armed, if_zero_to, if_up_to, grown_longer}
use Rattle.rewrite_bodies.proofs.Control.{top_exact, flag_to, both_to}
use Rattle.rewrite_bodies.proofs.Measures.{get_first, put_first}
use Rattle.rewrite_bodies.proofs.Landed.{exit_branch, land_branch, mark_to}
use Rattle.rewrite_bodies.specs.calls.Landings.{number_of, landing_behind, part_of}
use Rattle.rewrite_bodies.specs.calls.Derived.{DerivedCaller, DerivedCallers}
use Rattle.rewrite_bodies.proofs.WorkedOut.{Ready, frame_ready, worked_to}
use Rattle.rewrite_bodies.specs.calls.Guards.{measure, renew_both}
use Rattle.wasm_syntax.proofs.Types.{same_type_is}
use Rattle.rewrite_bodies.specs.calls.Standing.{Speaks}
use Rattle.wasm_laws.proofs.Progress.{same_of}

-- all operands of a frame are in their places
abbrev pub AllIn : Ctx → List Value → List Value → List Value → List Place → Type 0
AllIn C l ex [] [] = Unit {0}
AllIn C l ex [] (e ∷ es) = ⊥
AllIn C l ex (v ∷ ops) [] = ⊥
AllIn C l ex (v ∷ ops) (e ∷ es) = One C l ex (length es) e v × AllIn C l ex ops es

abbrev pub all_ops : List Label → List Value
all_ops [] = []
all_ops (L ∷ Ls) = L.operands ++ all_ops Ls

all_in-append : (C : Ctx) (l ex ops below : List Value) (es js : List Place) → Holds C l ex js ops es → AllIn C l ex below js → AllIn C l ex (ops ++ below) (es ++ js)
all_in-append C l ex [] below [] js h a = a
all_in-append C l ex [] below (e ∷ es) js h a = absurd h
all_in-append C l ex (v ∷ ops) below [] js h a = absurd h
all_in-append C l ex (v ∷ ops) below (e ∷ es) js h a = (h.0, all_in-append C l ex ops below es js h.1 a)

pub all_in : (C : Ctx) (l ex : List Value) (a : Option ValType) (Ls : List Label) (ss : List (List Place)) → FitsLabels C l ex a Ls ss → AllIn C l ex (all_ops Ls) (joined ss)
all_in C l ex a [] [] h = tt
all_in C l ex a [] (_ ∷ _) h = absurd h
all_in C l ex a (L ∷ Ls) [] h = absurd h
all_in C l ex a (L ∷ Ls) (e ∷ ss) h =
    all_in-append C l ex L.operands (all_ops Ls) e (joined ss) h.0 (all_in C l ex (awaits (pending L.kind)) Ls ss (fits_any C l ex (awaits (pending L.kind)) Ls ss h.4))

all_less : (C : Ctx) (l ex : List Value) (m : ℕ) (ops : List Value) (es : List Place) → AllIn C l ex ops es → AllIn C l ex (drop m ops) (less m es)
all_less C l ex zero ops es a = a
all_less C l ex (suc m) [] [] a = tt
all_less C l ex (suc m) [] (e ∷ es) a = absurd a
all_less C l ex (suc m) (v ∷ ops) [] a = absurd a
all_less C l ex (suc m) (v ∷ ops) (e ∷ es) a = all_less C l ex m ops es a.1

pub less_shorter : (m : ℕ) (es : List Place) → length (less m es) ≤ length es
less_shorter zero es = omega arith
less_shorter (suc m) [] = omega arith
less_shorter (suc m) (e ∷ es) = omega (arith, less_shorter m es)

tell-append : (a b : List Value) (co : List CollectorCall) → tell_ops (a ++ b) co ≡ tell_ops a (tell_ops b co)
tell-append [] b co = refl
tell-append (v ∷ a) b co = ap (λ z. value_call v ∷ z) (tell-append a b co)

pub tell-all : (Ls : List Label) (co : List CollectorCall) → tell_ops (all_ops Ls) co ≡ tell_labels Ls co
tell-all [] co = refl
tell-all (L ∷ Ls) co = tell-append L.operands (all_ops Ls) co ∙ ap (tell_ops L.operands) (tell-all Ls co)

-- the topmost operands and then those below
tell-parts : (m : ℕ) (ops : List Value) (co : List CollectorCall) → tell_ops (take m ops) (tell_ops (drop m ops) co) ≡ tell_ops ops co
tell-parts zero ops co = refl
tell-parts (suc m) [] co = refl
tell-parts (suc m) (v ∷ ops) co = ap (λ z. value_call v ∷ z) (tell-parts m ops co)

pub get_middle : (done todo ex : List Value) (v : Value) → slice_get ((done ++ v ∷ todo) ++ ex) (length done) ≡ Some v
get_middle [] todo ex v = refl
get_middle (u ∷ done) todo ex v = get_middle done todo ex v

module _ (M' : Engine) (m : Module) (sp : Speaks M' m) where
  value_at : {X : Shell} {tl s : List Value} {k : Nodes} {g : World} {co : List CollectorCall} (v : Value) → To M' 1 1 (st X tl (v ∷ s) (call (value_import m (type_of v)) k) g co) (st X tl s k g (value_call v ∷ co))
  value_at {g = g} v = one_step M' _ _ (rw (sp.values_ (type_of v), same_of (type_of v) (type_of v) refl, sp.collects, sp.tells v g) refl)

  pub value_to : {X : Shell} {tl s : List Value} {k : Nodes} {g : World} {co : List CollectorCall} (t : ValType) (v : Value) → type_of v ≡ t → To M' 1 1 (st X tl (v ∷ s) (call (value_import m t) k) g co) (st X tl s k g (value_call v ∷ co))
  value_to {X = X} {tl = tl} {s = s} {k = k} {g = g} {co = co} t v d = subst (λ t. To M' 1 1 (st X tl (v ∷ s) (call (value_import m t) k) g co) (st X tl s k g (value_call v ∷ co))) d (value_at v)

  pub entry_to : {X : Shell} {tl s : List Value} {kk : Nodes} {g : World} {co : List CollectorCall} (k f o n : ℕ) → To M' 1 1 (st X tl (values.I32 n ∷ values.I32 o ∷ values.I32 f ∷ values.I32 k ∷ s) (call (frame_import m) kk) g co) (st X tl s kk g (collector_calls.Frame k f o n ∷ co))
  entry_to {g = g} k f o n = one_step M' _ _ (rw (sp.frames_, sp.collects, sp.closes k f o n g) refl)

module _ (M' : Engine) (C : Ctx) (sp : Speaks M' C.source) where
  value_out : {X : Shell} {tl s : List Value} {k : Nodes} {g : World} {co : List CollectorCall} (t : ValType) (v : Value) → type_of v ≡ t → To M' 1 1 (st X tl (v ∷ s) (hand_value C t k) g co) (st X tl s k g (value_call v ∷ co))
  value_out t v d = value_to M' C.source sp t v d

  module _ (l : List Value) (size : length C.locals ≡ length l) where
    -- the operands in these places
    hand_all_to : {X : Shell} {s : List Value} {g : World} {co : List CollectorCall} (ex ops : List Value) (es : List Place) (k : Nodes) → AllIn C l ex ops es → To M' 0 (2 * length es) (st X (l ++ ex) s (hand C es k) g co) (st X (l ++ ex) s k g (tell_ops ops co))
    hand_all_to ex [] [] k h = weaken M' (still M' _) (omega arith) (omega arith)
    hand_all_to ex [] (e ∷ es) k h = absurd h
    hand_all_to ex (v ∷ ops) [] k h = absurd h
    hand_all_to ex (v ∷ ops) (e ∷ es) k h =
        weaken M' (seq M' (hand_all_to ex ops es (fetch C e (length es) (hand_value C (place_type e) k)) h.1) (seq M' (fetch_to M' C l size ex (length es) e v h.0) (value_out (place_type e) v (place_of C l ex (length es) e v h.0)))) (omega arith) (omega arith)

    -- the topmost ones
    hand_top_to : {X : Shell} {g : World} {co : List CollectorCall} (ex : List Value) (m : ℕ) (ops : List Value) (es : List Place) (k : Nodes) → AllIn C l ex ops es → To M' 0 (2 * (length es - length (less m es))) (st X (l ++ ex) [] (hand_top C m es k) g co) (st X (l ++ ex) [] k g (tell_ops (take m ops) co))
    hand_top_to ex zero ops es k h = weaken M' (still M' _) (omega arith) (omega arith)
    hand_top_to ex (suc m) [] [] k h = weaken M' (still M' _) (omega arith) (omega arith)
    hand_top_to ex (suc m) [] (e ∷ es) k h = absurd h
    hand_top_to ex (suc m) (v ∷ ops) [] k h = absurd h
    hand_top_to ex (suc m) (v ∷ ops) (e ∷ es) k h =
        weaken M' (seq M' (hand_top_to ex m ops es (fetch C e (length es) (hand_value C (place_type e) k)) h.1) (seq M' (fetch_to M' C l size ex (length es) e v h.0) (value_out (place_type e) v (place_of C l ex (length es) e v h.0)))) (omega arith) (omega (arith, less_shorter m es))

    -- all operands of the frame
    pub hand_to : {X : Shell} {g : World} {co : List CollectorCall} (ex : List Value) (a : Option ValType) (Ls : List Label) (ss : List (List Place)) (k : Nodes) → FitsLabels C l ex a Ls ss → To M' 0 (2 * length (joined ss)) (st X (l ++ ex) [] (hand C (joined ss) k) g co) (st X (l ++ ex) [] k g (tell_labels Ls co))
    hand_to {co = co} ex a Ls ss k h = rw (← tell-all Ls co) (hand_all_to ex (all_ops Ls) (joined ss) k (all_in C l ex a Ls ss h))

    -- those below the topmost ones, and then, behind a verdict, these
    pub hand_left_to : {X : Shell} {g : World} {co : List CollectorCall} (ex : List Value) (a : Option ValType) (Ls : List Label) (ss : List (List Place)) (ls : ℕ) (m j : ℕ) → FitsLabels C l ex a Ls ss → slice_get ex (kind_at C) ≡ Some (values.I32 (suc j)) → To M' 0 (2 * length (joined ss) + 3) (st X (l ++ ex) [] (hand_left C ls (less m (joined ss)) (hand_top C m (joined ss) stop)) g co) (st X (l ++ ex) [] (to_exit C ls) g (tell_labels Ls co))
    hand_left_to {X = X} {g = g} {co = co} ex a Ls ss ls m j h kd =
        let es = joined ss in
        let ops = all_ops Ls in
        let at = all_in C l ex a Ls ss h in
        let others = hand_top C m es stop in
        let test = if_any others (to_exit C ls) in
        let co1 = tell_ops (drop m ops) co in
        let co2 = tell_ops (take m ops) co1 in
        let A = armed X (to_exit C ls) [] in
        let s1 : To M' 0 (2 * length (less m es)) (st X (l ++ ex) [] (hand C (less m es) (get C (kind_at C) test)) g co) (st X (l ++ ex) [] (get C (kind_at C) test) g co1) = hand_all_to ex (drop m ops) (less m es) (get C (kind_at C) test) (all_less C l ex m ops es at) in
        let s2 : To M' 1 1 (st X (l ++ ex) [] (get C (kind_at C) test) g co1) (st X (l ++ ex) (values.I32 (suc j) ∷ []) test g co1) = added_get M' C l size ex (kind_at C) (values.I32 (suc j)) kd in
        let s3 : To M' 1 1 (st X (l ++ ex) (values.I32 (suc j) ∷ []) test g co1) (st A (l ++ ex) [] others g co1) = if_up_to M' j in
        let s4 : To M' 0 (2 * (length es - length (less m es))) (st A (l ++ ex) [] others g co1) (st A (l ++ ex) [] stop g co2) = hand_top_to ex m ops es stop at in
        let s5 : To M' 1 1 (st A (l ++ ex) [] stop g co2) (st X (l ++ ex) [] (to_exit C ls) g co2) = one_step M' _ _ refl in
        rw (← tell-all Ls co, ← tell-parts m ops co) (weaken M' (seq M' s1 (seq M' s2 (seq M' s3 (seq M' s4 s5)))) (omega arith) (omega (arith, less_shorter m es)))

  -- the locals
  locals_to : {X : Shell} {g : World} {co : List CollectorCall} (ex todo done : List Value) (k : Nodes) → To M' 0 (2 * length todo) (st X ((done ++ todo) ++ ex) [] (hand_locals C (length done) (types todo) k) g co) (st X ((done ++ todo) ++ ex) [] k g (tell_locals todo co))
  locals_to ex [] done k = weaken M' (still M' _) (omega arith) (omega arith)
  locals_to {X = X} {g = g} {co = co} ex (v ∷ todo) done k =
      let n : length (done ++ v ∷ []) ≡ suc (length done) = omega (arith, length-append done (v ∷ [])) in
      let rest : To M' 0 (2 * length todo) (st X ((done ++ v ∷ todo) ++ ex) [] (hand_locals C (suc (length done)) (types todo) k) g (value_call v ∷ co)) (st X ((done ++ v ∷ todo) ++ ex) [] k g (tell_locals todo (value_call v ∷ co))) =
      rw (append_assoc done (v ∷ []) todo, n) at (locals_to {X = X} {g = g} {co = value_call v ∷ co} ex todo (done ++ v ∷ []) k) in
      weaken M' (seq M' (get_to M' (length done) v (get_middle done todo ex v)) (seq M' (value_out (type_of v) v refl) rest)) (omega arith) (omega arith)

  zero_out : {X : Shell} {tl : List Value} {g : World} {co : List CollectorCall} (r : Option ValType) → X.result ≡ r → Gets M' 1 2 (st X tl [] (zero_result r (jump 0 Return stop)) g co) (deliver M' (zero_vs r) X.frames g co)
  zero_out None e = weaken M' (one_step M' _ _ (rw e refl)) (omega arith) (omega arith)
  zero_out (Some I32) e = weaken M' (seq M' (push_to M' (values.I32 0)) (one_step M' _ _ (rw e refl))) (omega arith) (omega arith)
  zero_out (Some I64) e = weaken M' (seq M' (push_to M' (values.I64 0)) (one_step M' _ _ (rw e refl))) (omega arith) (omega arith)

  -- this code hands over the operands of a frame
  abbrev pub Hands : Engine → List Value → Kind → List Label → List Frame → World → ℕ → List CollectorCall → ℕ → Nodes → List Label → List Value → Type 0
  Hands M l K B FR g b co n H Ls ex =
      To M' 0 (2 * C.slots + 10) (st (record { idx = mapped C.source C.index; result = C.result; kind = K; below = B; frames = FR }) (l ++ ex) [] H (flagged M g (values.I32 b)) co) (st (record { idx = mapped C.source C.index; result = C.result; kind = K; below = B; frames = FR }) (l ++ ex) [] (jump 0 (Br (suc n)) stop) (flagged M g (values.I32 b)) (tell_labels Ls co))

  -- behind the exit block a frame hands over its locals and returns with the flag up
  exit_out : (M : Engine) (l : List Value) (lt : types l ≡ C.locals) → Ready C l → (ex : List Value) (FR : List Frame) (g : World) (b : ℕ) (co : List CollectorCall) (o k : ℕ) → slice_get ex (kind_at C) ≡ Some (values.I32 k) → slice_get ex (offset_at C) ≡ Some (values.I32 o) → types g.globals ≡ global_types C.source → Gets M' 1 (4 * length C.locals + 10) (st (record { idx = mapped C.source C.index; result = C.result; kind = returns C.result; below = []; frames = FR }) (l ++ ex) [] (exit_code C) (flagged M g (values.I32 b)) co) (deliver M' (zero_vs C.result) FR (flagged M g (values.I32 1)) (collector_calls.Frame k C.index o (length C.locals) ∷ tell_locals l co))
  exit_out M l lt rd ex FR g b co o k kd off gt =
      let size = len_of l C.locals lt in
      let nl = values.I32 (length C.locals) in
      let fl = flag_len C g gt in
      let X2 : Shell = record { idx = mapped C.source C.index; result = C.result; kind = returns C.result; below = []; frames = FR } in
      let co2 = tell_locals l co in
      let co3 = collector_calls.Frame k C.index o (length C.locals) ∷ co2 in
      let g0 = flagged M g (values.I32 b) in
      let g1 = flagged M g (values.I32 1) in
      let k9 = zero_result C.result (jump 0 Return stop) in
      let k7 = call (frame_import C.source) (raise_flag C k9) in
      let k3 = get C (kind_at C) (const (values.I32 C.index) (get C (offset_at C) (const nl k7))) in
      let a3 : To M' 0 (4 * length C.derivations) (st X2 (l ++ ex) [] (exit_code C) g0 co) (st X2 (l ++ ex) [] (hand_locals C 0 C.locals k3) g0 co) = worked_to M' l ex C.derivations (hand_locals C 0 C.locals k3) rd.derived in
      let a4 : To M' 0 (2 * length l) (st X2 (l ++ ex) [] (hand_locals C 0 C.locals k3) g0 co) (st X2 (l ++ ex) [] k3 g0 co2) =
      subst (λ m. To M' 0 (2 * length l) (st X2 (l ++ ex) [] (hand_locals C 0 m k3) g0 co) (st X2 (l ++ ex) [] k3 g0 co2)) lt (locals_to ex l [] k3) in
      let a5 : To M' 1 1 (st X2 (l ++ ex) [] k3 g0 co2) (st X2 (l ++ ex) (values.I32 k ∷ []) (const (values.I32 C.index) (get C (offset_at C) (const nl k7))) g0 co2) = added_get M' C l size ex (kind_at C) (values.I32 k) kd in
      let a6 : To M' 1 1 (st X2 (l ++ ex) (values.I32 C.index ∷ values.I32 k ∷ []) (get C (offset_at C) (const nl k7)) g0 co2) (st X2 (l ++ ex) (values.I32 o ∷ values.I32 C.index ∷ values.I32 k ∷ []) (const nl k7) g0 co2) = added_get M' C l size ex (offset_at C) (values.I32 o) off in
      let bytes = values.I64 (told_length g.memory) ∷ [] in
      let put_ : slice_set g0.globals (flag_of C.source) (values.I32 1) ≡ g.globals ++ values.I32 1 ∷ bytes = put_first g.globals (flag_of C.source) (values.I32 b) (values.I32 1) bytes fl in
      let a7 : To M' 1 1 (st X2 (l ++ ex) (values.I32 1 ∷ []) (basic 0 (GlobalSet (flag_of C.source)) k9) g0 co3) (st X2 (l ++ ex) [] k9 g1 co3) = step_plain M' (GlobalSet (flag_of C.source)) (values.I32 1 ∷ []) [] (l ++ ex) g1 [] [] refl (rw (get_first g.globals (flag_of C.source) (values.I32 b) bytes fl, put_) refl) refl in
      weaken M' (seq M' a3 (seq M' a4 (seq M' a5 (seq M' (push_to M' (values.I32 C.index)) (seq M' a6 (seq M' (push_to M' nl) (seq M' (entry_to M' C.source sp k C.index o (length C.locals)) (seq M' (push_to M' (values.I32 1)) (seq M' a7 (zero_out {X = X2} C.result refl)))))))))) (omega arith) (omega (arith, size, rd.few))

  -- a frame hands over its values and returns with the flag up
  pub frame_out : (M : Engine) (l : List Value) (lt : types l ≡ C.locals) → Ready C l → (ex : List Value) (Ls : List Label) (n : ℕ) (K : Kind) (B : List Label) (FR : List Frame) (g : World) (b : ℕ) (co : List CollectorCall) (o k : ℕ) (H : Nodes) → types ex ≡ added C.slots → slice_get ex (kind_at C) ≡ Some (values.I32 k) → types g.globals ≡ global_types C.source → branch (suc n) [] (label [] (jump 0 (Br (suc n)) stop) 0 K ∷ B) ≡ inside (label [] (exit_code C) 0 (returns C.result) ∷ []) → Hands M l K B FR g b co n H Ls (slice_set ex (offset_at C) (values.I32 o)) → Gets M' 1 (2 * C.slots + 4 * length C.locals + 25) (st (record { idx = mapped C.source C.index; result = C.result; kind = K; below = B; frames = FR }) (l ++ ex) [] (const (values.I32 o) (set C (offset_at C) H)) (flagged M g (values.I32 b)) co) (deliver M' (zero_vs C.result) FR (flagged M g (values.I32 1)) (collector_calls.Frame k C.index o (length C.locals) ∷ tell_locals l (tell_labels Ls co)))
  frame_out M l lt rd ex Ls n K B FR g b co o k H room kd gt br a2 =
      let size = len_of l C.locals lt in
      let X1 : Shell = record { idx = mapped C.source C.index; result = C.result; kind = K; below = B; frames = FR } in
      let X2 : Shell = record { idx = mapped C.source C.index; result = C.result; kind = returns C.result; below = []; frames = FR } in
      let at : slice_get (types ex) (offset_at C) ≡ Some I32 = rw room (added_offset C.slots) in
      let ex2 = slice_set ex (offset_at C) (values.I32 o) in
      let g0 = flagged M g (values.I32 b) in
      let co1 = tell_labels Ls co in
      let ne : kind_at C ≢ offset_at C = omega arith in
      let kd2 = slice_get-put_other ex (kind_at C) (offset_at C) (values.I32 o) ne ∙ kd in
      let off2 = slice_get-put_same ex (offset_at C) I32 (values.I32 o) at in
      let a1 : To M' 2 2 (st X1 (l ++ ex) [] (const (values.I32 o) (set C (offset_at C) H)) g0 co) (st X1 (l ++ ex2) [] H g0 co) = seq M' (push_to M' (values.I32 o)) (added_set M' C l size ex (offset_at C) I32 (values.I32 o) at refl) in
      let a3 : To M' 1 1 (st X1 (l ++ ex2) [] (jump 0 (Br (suc n)) stop) g0 co1) (st X2 (l ++ ex2) [] (exit_code C) g0 co1) = one_step M' _ _ (rw br refl) in
      weaken M' (seq M' a1 (seq M' a2 (seq M' a3 (exit_out M l lt rd ex2 FR g b co1 o k kd2 off2 gt)))) (omega arith) (omega arith)

  -- the operand that came along
  carried_to : {X : Shell} {tl : List Value} {g : World} {co : List CollectorCall} (r : Option ValType) (vs : List Value) (k : Nodes) → exactly r vs ≡ Some vs → To M' 0 1 (st X tl vs (hand_carried C r k) g co) (st X tl [] k g (tell_ops vs co))
  carried_to None [] k e = weaken M' (still M' _) (omega arith) (omega arith)
  carried_to None (v ∷ vs) k e = absurd (cc)
  carried_to (Some t) [] k e = absurd (cc)
  carried_to (Some t) (v ∷ []) k e = weaken M' (value_out t v (same_type_is (type_of v) t (if_same (same_type (type_of v) t) (v ∷ []) (v ∷ []) e).0)) (omega arith) (omega arith)
  carried_to (Some t) (v ∷ w ∷ vs) k e = absurd (cc)

  -- at a landing a frame hands over its operands, and then its locals
  pub landing_out : (M : Engine) (l : List Value) (lt : types l ≡ C.locals) → Ready C l → (ex : List Value) (x : Landing) (outer : ℕ) (K : Kind) (B : List Label) (FR : List Frame) (g : World) (b : ℕ) (co : List CollectorCall) (o : ℕ) (vs ops : List Value) → types ex ≡ added C.slots → slice_get ex (offset_at C) ≡ Some (values.I32 o) → types g.globals ≡ global_types C.source → ((o : List Value) (c : Nodes) → branch outer [] (label o c 0 K ∷ B) ≡ inside (label [] (exit_code C) 0 (returns C.result) ∷ [])) → AllIn C l (slice_set ex (kind_at C) (values.I32 x.kind)) ops x.places → exactly x.carried vs ≡ Some vs → length x.places ≤ C.slots → Gets M' 1 (2 * C.slots + 4 * length C.locals + 20) (st (record { idx = mapped C.source C.index; result = C.result; kind = K; below = B; frames = FR }) (l ++ ex) vs (landing_code C outer x) (flagged M g (values.I32 b)) co) (deliver M' (zero_vs C.result) FR (flagged M g (values.I32 1)) (collector_calls.Frame x.kind C.index o (length C.locals) ∷ tell_locals l (tell_ops (vs ++ ops) co)))
  landing_out M l lt rd ex x outer K B FR g b co o vs ops room off gt br all e low =
      let size = len_of l C.locals lt in
      let X1 : Shell = record { idx = mapped C.source C.index; result = C.result; kind = K; below = B; frames = FR } in
      let X2 : Shell = record { idx = mapped C.source C.index; result = C.result; kind = returns C.result; below = []; frames = FR } in
      let at : slice_get (types ex) (kind_at C) ≡ Some I32 = rw room (added_kind C.slots) in
      let v = values.I32 x.kind in
      let ex2 = slice_set ex (kind_at C) v in
      let g0 = flagged M g (values.I32 b) in
      let go = jump 0 (Br outer) stop in
      let k2 = hand_carried C x.carried go in
      let k1 = hand C x.places k2 in
      let ne : offset_at C ≢ kind_at C = omega arith in
      let kd2 = slice_get-put_same ex (kind_at C) I32 v at in
      let off2 = slice_get-put_other ex (offset_at C) (kind_at C) v ne ∙ off in
      let co1 = tell_ops ops co in
      let co2 = tell_ops vs co1 in
      let a1 : To M' 2 2 (st X1 (l ++ ex) vs (const v (set C (kind_at C) k1)) g0 co) (st X1 (l ++ ex2) vs k1 g0 co) = seq M' (push_to M' v) (added_set M' C l size ex (kind_at C) I32 v at refl) in
      let a2 : To M' 0 (2 * length x.places) (st X1 (l ++ ex2) vs k1 g0 co) (st X1 (l ++ ex2) vs k2 g0 co1) = hand_all_to l size ex2 ops x.places k2 all in
      let a3 : To M' 0 1 (st X1 (l ++ ex2) vs k2 g0 co1) (st X1 (l ++ ex2) [] go g0 co2) = carried_to x.carried vs go e in
      let a4 : To M' 1 1 (st X1 (l ++ ex2) [] go g0 co2) (st X2 (l ++ ex2) [] (exit_code C) g0 co2) = one_step M' _ _ (rw (br [] go) refl) in
      rw (tell-append vs ops co) (weaken M' (seq M' a1 (seq M' a2 (seq M' a3 (seq M' a4 (exit_out M l lt rd ex2 FR g b co2 o x.kind kd2 off2 gt))))) (omega arith) (omega (arith, low)))

  -- a frame is left for a landing
  pub landed_out : (M : Engine) (l : List Value) (lt : types l ≡ C.locals) → Ready C l → (ex : List Value) (L : Label) (Ls : List Label) (e : List Place) (ss : List (List Place)) (x : Landing) (n : ℕ) (FR : List Frame) (g : World) (b : ℕ) (co : List CollectorCall) (o j : ℕ) (s vs ops : List Value) (k : Nodes) (a : Option ValType) → FitsLabels C l ex a (L ∷ Ls) (e ∷ ss) → types ex ≡ added C.slots → slice_get ex (offset_at C) ≡ Some (values.I32 o) → types g.globals ≡ global_types C.source → number_of x C.landings ≡ Some n → top x.carried s ≡ Some vs → AllIn C l (slice_set ex (kind_at C) (values.I32 x.kind)) ops x.places → length x.places ≤ C.slots → Gets M' 1 (2 * C.slots + 4 * length C.locals + 21) (st (record { idx = mapped C.source C.index; result = C.result; kind = t_kind C (length Ls) (joined ss) L.kind; below = t_labels C (pending L.kind) Ls ss; frames = FR }) (l ++ ex) (values.I32 (suc j) ∷ s) (jump 0 (BrIf (suc (length Ls) + n)) k) (flagged M g (values.I32 b)) co) (deliver M' (zero_vs C.result) FR (flagged M g (values.I32 1)) (collector_calls.Frame x.kind C.index o (length C.locals) ∷ tell_locals l (tell_ops (vs ++ ops) co)))
  landed_out M l lt rd ex L Ls e ss x n FR g b co o j s vs ops k a h room off gt is t all low =
      let N = jump 0 (BrIf (suc (length Ls) + n)) k in
      let K = t_kind C (length Ls) (joined ss) L.kind in
      let X : Shell = record { idx = mapped C.source C.index; result = C.result; kind = K; below = t_labels C (pending L.kind) Ls ss; frames = FR } in
      let g0 = flagged M g (values.I32 b) in
      let to = land_branch C l ex a (values.I32 (suc j) ∷ s) s vs N L Ls e ss x n h is t in
      let X1 : Shell = record { idx = mapped C.source C.index; result = C.result; kind = to.kind; below = to.below; frames = FR } in
      let s1 : To M' 1 1 (st X (l ++ ex) (values.I32 (suc j) ∷ s) N g0 co) (st X1 (l ++ ex) (vs ++ []) (landing_code C to.outer x) g0 co) = one_step M' _ _ (rw to.comes refl) in
      let s2 : To M' 1 1 (st X (l ++ ex) (values.I32 (suc j) ∷ s) N g0 co) (st X1 (l ++ ex) vs (landing_code C to.outer x) g0 co) = rw append-nil at s1 in
      weaken M' (seq M' s2 (landing_out M l lt rd ex x to.outer to.kind to.below FR g b co o vs ops room off gt to.exits all (top_exact x.carried s vs t) low)) (omega arith) (omega arith)

module _ (M M' : Engine) (E : ℕ) (gl : List ValType) (W : Wrap) (sp : Speaks M' M.program.module_) where
  -- a frame is left behind, the flag up: it hands over its own
  abbrev pub Up : Config → ℕ → ℕ → Option ValType → List Frame → List Wit → World → List CollectorCall → Type 0
  Up t p q r Fs ws g co = Gets M' p q t (deliver M' (zero_vs r) (t_frames W r Fs ws) (flagged M g (values.I32 1)) co)

  pub renamed : (t : Config) (p q : ℕ) (a r : Option ValType) (i i' n m : ℕ) (o k : ℕ) (FR : List Frame) (g : World) (co : List CollectorCall) → a ≡ r → i ≡ i' → n ≡ m → Gets M' p q t (deliver M' (zero_vs a) FR (flagged M g (values.I32 1)) (collector_calls.Frame k i o n ∷ co)) → Gets M' p q t (deliver M' (zero_vs r) FR (flagged M g (values.I32 1)) (collector_calls.Frame k i' o m ∷ co))
  renamed t p q a r i i' n m o k FR g co ea ei en h = rw (ea, ei, en) at h

  exact_zero : (r : Option ValType) → exactly r (zero_vs r) ≡ Some (zero_vs r)
  exact_zero None = refl
  exact_zero (Some I32) = refl
  exact_zero (Some I64) = refl

  -- the flag is up behind a call: the frame is left, by way of a landing or in place
  tested_out : (C : Ctx) (l : List Value) (lt : types l ≡ C.locals) → Ready C l → (ex : List Value) (L : Label) (Ls : List Label) (e : List Place) (ss : List (List Place)) (FR : List Frame) (g : World) (co : List CollectorCall) (o : ℕ) (s : List Value) (k : Nodes) (a : Option ValType) (sp_ : Speaks M' C.source) → FitsLabels C l ex a (L ∷ Ls) (e ∷ ss) → types ex ≡ added C.slots → types g.globals ≡ global_types C.source → length (e ++ joined ss) ≤ C.slots → Gets M' 1 (2 * C.slots + 4 * length C.locals + 40) (st (record { idx = mapped C.source C.index; result = C.result; kind = t_kind C (length Ls) (joined ss) L.kind; below = t_labels C (pending L.kind) Ls ss; frames = FR }) (l ++ ex) s (test_flag C (suc (length Ls)) (e ++ joined ss) o k) (flagged M g (values.I32 1)) co) (deliver M' (zero_vs C.result) FR (flagged M g (values.I32 1)) (collector_calls.Frame 0 C.index o (length C.locals) ∷ tell_locals l (tell_labels (L ∷ Ls) co)))
  tested_out C l lt rd ex L Ls e ss FR g co o s k a sp_ h room gt low = by_number (number_of (landing_behind (part_of C.locals o) (e ++ joined ss)) C.landings) refl
    where
      es : List Place
      es = e ++ joined ss

      ls : ℕ
      ls = suc (length Ls)

      by_number : (q : Option ℕ) → number_of (landing_behind (part_of C.locals o) (e ++ joined ss)) C.landings ≡ q → Gets M' 1 (2 * C.slots + 4 * length C.locals + 40) (st (record { idx = mapped C.source C.index; result = C.result; kind = t_kind C (length Ls) (joined ss) L.kind; below = t_labels C (pending L.kind) Ls ss; frames = FR }) (l ++ ex) s (checked q C (suc (length Ls)) (e ++ joined ss) o (get_flag C) (const (values.I32 0)) k) (flagged M g (values.I32 1)) co) (deliver M' (zero_vs C.result) FR (flagged M g (values.I32 1)) (collector_calls.Frame 0 C.index o (length C.locals) ∷ tell_locals l (tell_labels (L ∷ Ls) co)))
      by_number None is =
          let size = len_of l C.locals lt in
          let X : Shell = record { idx = mapped C.source C.index; result = C.result; kind = t_kind C (length Ls) (joined ss) L.kind; below = t_labels C (pending L.kind) Ls ss; frames = FR } in
          let X1 = armed X k s in
          let at : slice_get (types ex) (kind_at C) ≡ Some I32 = rw room (added_kind C.slots) in
          let fl = flag_len C g gt in
          let n = suc (length Ls) + length C.landings in
          let arm = const (values.I32 0) (set C (kind_at C) (unwind C (suc (length Ls)) (e ++ joined ss) o)) in
          let g1 = flagged M g (values.I32 1) in
          let ex2 = slice_set ex (kind_at C) (values.I32 0) in
          let ex3 = slice_set ex2 (offset_at C) (values.I32 o) in
          let h2 = fits_kind C l ex a (L ∷ Ls) (e ∷ ss) (values.I32 0) (omega (arith, low)) h in
          let h3 = fits_offset C l ex2 a (L ∷ Ls) (e ∷ ss) (values.I32 o) (omega (arith, low)) h2 in
          let H = hand C (e ++ joined ss) (to_exit C (suc (length Ls))) in
          let s2 : To M' 1 1 (st X (l ++ ex) s (get_flag C (if_any arm k)) g1 co) (st X (l ++ ex) (values.I32 1 ∷ s) (if_any arm k) g1 co) = flag_to M M' E gl W C g 1 fl in
          let s3 : To M' 1 1 (st X (l ++ ex) (values.I32 1 ∷ s) (if_any arm k) g1 co) (st X1 (l ++ ex) [] arm g1 co) = one_step M' _ _ refl in
          let s4 : To M' 2 2 (st X1 (l ++ ex) [] arm g1 co) (st X1 (l ++ ex2) [] (unwind C (suc (length Ls)) (e ++ joined ss) o) g1 co) = seq M' (push_to M' (values.I32 0)) (added_set M' C l size ex (kind_at C) I32 (values.I32 0) at refl) in
          let br = exit_branch C l ex a s k L Ls e ss h in
          let hands : Hands M' C sp_ M l X1.kind X1.below X1.frames g 1 co n H (L ∷ Ls) ex3 = weaken M' (hand_to M' C sp_ l size ex3 a (L ∷ Ls) (e ∷ ss) (to_exit C (suc (length Ls))) h3) (omega arith) (omega (arith, low)) in
          let s5 = frame_out M' C sp_ M l lt rd ex2 (L ∷ Ls) n X1.kind X1.below X1.frames g 1 co o 0 H (types-slice_set ex (kind_at C) I32 (values.I32 0) at refl ∙ room) (slice_get-put_same ex (kind_at C) I32 (values.I32 0) at) gt br hands in
          weaken M' (seq M' s2 (seq M' s3 (seq M' s4 s5))) (omega arith) (omega arith)
      by_number (Some m) is =
          let size = len_of l C.locals lt in
          let X : Shell = record { idx = mapped C.source C.index; result = C.result; kind = t_kind C (length Ls) (joined ss) L.kind; below = t_labels C (pending L.kind) Ls ss; frames = FR } in
          let fl = flag_len C g gt in
          let g1 = flagged M g (values.I32 1) in
          let x = landing_behind (part_of C.locals o) (e ++ joined ss) in
          let exm = slice_set ex (offset_at C) (values.I32 o) in
          let at : slice_get (types ex) (offset_at C) ≡ Some I32 = rw room (added_offset C.slots) in
          let roomm : types exm ≡ added C.slots = types-slice_set ex (offset_at C) I32 (values.I32 o) at refl ∙ room in
          let hm = fits_offset C l ex a (L ∷ Ls) (e ∷ ss) (values.I32 o) (omega (arith, low)) h in
          let hk = fits_kind C l exm a (L ∷ Ls) (e ∷ ss) (values.I32 0) (omega (arith, low)) hm in
          let go = jump 0 (BrIf (suc (length Ls) + m)) k in
          let s1 : To M' 2 2 (st X (l ++ ex) s (const (values.I32 o) (set C (offset_at C) (get_flag C go))) g1 co) (st X (l ++ exm) s (get_flag C go) g1 co) = mark_to M' C l size o ex room in
          let s2 : To M' 1 1 (st X (l ++ exm) s (get_flag C go) g1 co) (st X (l ++ exm) (values.I32 1 ∷ s) go g1 co) = flag_to M M' E gl W C g 1 fl in
          let s3 = landed_out M' C sp_ M l lt rd exm L Ls e ss x m FR g 1 co o 0 s [] (all_ops (L ∷ Ls)) k a hm roomm (slice_get-put_same ex (offset_at C) I32 (values.I32 o) at) gt is refl (all_in C l (slice_set exm (kind_at C) (values.I32 0)) a (L ∷ Ls) (e ∷ ss) hk) low in
          rw (← tell-all (L ∷ Ls) co) (weaken M' (seq M' s1 (seq M' s2 s3)) (omega arith) (omega arith))

  up_in : (Fs : List Frame) (ws : List Wit) (g : World) (co : List CollectorCall) (t : Config) (p q : ℕ) (r : Option ValType) (C : Ctx) (ex : List Value) (i cl : ℕ) (r' : Option ValType) (l : List Value) (Ls : List Label) (ss : List (List Place)) → FitsFrame M E gl (Waits r) (frame i r' cl l Ls) (wit C ex ss) → DerivedCaller M.program (frame i r' cl l Ls) → FitsFrames M E gl W.result r' Fs ws → WorldFits M gl g → Up t p q r (frame i r' cl l Ls ∷ Fs) (wit C ex ss ∷ ws) g co → Up t p (q + E) r' Fs ws g (tell_frame 0 cl (frame i r' cl l Ls) co)
  up_in Fs ws g co t p q r C ex i cl r' l [] ss f dc fs gl_ u = absurd f.labels
  up_in Fs ws g co t p q r C ex i cl r' l (L ∷ Ls) [] f dc fs gl_ u = absurd f.labels
  up_in Fs ws g co t p q r C ex i cl r' l (L ∷ Ls) (e ∷ ss) f dc fs gl_ u =
      let h = f.labels in
      let es = e ++ joined ss in
      let ls = suc (length Ls) in
      let X = shell W C r' L.kind Ls ss Fs ws in
      let size = len_of l C.locals f.size in
      let n = length C.locals in
      let pl = grown_fits C r es ex f.room h.1 in
      let pass = passes C L.nodes in
      let ex1 = stored_unless pass r (λ t. slot C.slots t (length es)) (zero_vs r) ex in
      let len1 : types ex1 ≡ types ex = types_unless pass r (λ t. slot C.slots t (length es)) (zero_vs r) ex pl (exact_zero r) in
      let k = measure (measured C) C (rewrite C ls (grown r es) L.nodes) in
      let k1 = test_flag C ls es cl k in
      let all_ = zero_vs r ++ L.operands in
      let low : length es ≤ C.slots = omega (arith, grown_longer r es, room_height C (grown r es) L.nodes h.2) in
      let gt : types g.globals ≡ global_types C.source = gl_.globals ∙ sym f.flag in
      let fl = flag_len C g gt in
      let at : slice_get (types ex1) (kind_at C) ≡ Some I32 = rw (len1 ∙ f.room) (added_kind C.slots) in
      let g1 = flagged M g (values.I32 1) in
      let h1 = fits_unless pass C l ex r r (L ∷ Ls) (e ∷ ss) (λ t. slot C.slots t (length es)) (zero_vs r) (λ t. clear_slot C (length es) t low) h in
      let room1 = len1 ∙ f.room in
      let sp_ = subst (Speaks M') (sym f.funcs) sp in
      let go1 : Gets M' p q t (next (st X (l ++ ex) all_ (keep pass C (option_map Spilled r) es k1) g1 co)) = u in
      let s1 : To M' 0 1 (st X (l ++ ex) all_ (keep pass C (option_map Spilled r) es k1) g1 co) (st X (l ++ ex1) all_ k1 g1 co) = kept_unless M' C l size pass ex r es (zero_vs r) L.operands k1 pl (exact_zero r) in
      let s5 = tested_out C l f.size (frame_ready f dc.0) ex1 L Ls e ss X.frames g co cl all_ k r sp_ h1 room1 gt low in
      let all : Gets M' p (q + E) t (deliver M' (zero_vs C.result) X.frames g1 (collector_calls.Frame 0 C.index cl n ∷ tell_locals l (tell_labels (L ∷ Ls) co))) = weaken M' (seq M' go1 (seq M' s1 s5)) (omega arith) (omega (arith, f.small)) in
      renamed t p (q + E) C.result r' C.index i n (length l) cl 0 X.frames g (tell_locals l (tell_labels (L ∷ Ls) co)) f.result f.idx size all

  -- the same for a frame that called through the table
  up_arm : (Fs : List Frame) (ws : List Wit) (g : World) (co : List CollectorCall) (t : Config) (p q : ℕ) (r : Option ValType) (C : Ctx) (ex : List Value) (others : UnderWay) (i cl : ℕ) (r' : Option ValType) (l : List Value) (Ls : List Label) (ss : List (List Place)) → FitsFrame M E gl (Waits r) (frame i r' cl l Ls) (wit_under C ex ss (Some others)) → DerivedCaller M.program (frame i r' cl l Ls) → FitsFrames M E gl W.result r' Fs ws → WorldFits M gl g → Up t p q r (frame i r' cl l Ls ∷ Fs) (wit_under C ex ss (Some others) ∷ ws) g co → Up t p (q + E) r' Fs ws g (tell_frame 0 cl (frame i r' cl l Ls) co)
  unfolding int_binary
  up_arm Fs ws g co t p q r C ex others i cl r' l [] ss f dc fs gl_ u = absurd f.labels
  up_arm Fs ws g co t p q r C ex others i cl r' l (L ∷ Ls) [] f dc fs gl_ u = absurd f.labels
  up_arm Fs ws g co t p q r C ex others i cl r' l (L ∷ Ls) (e ∷ ss) f dc fs gl_ u =
      let h = f.labels in
      let es = e ++ joined ss in
      let ls = suc (length Ls) in
      let X = shell W C r' L.kind Ls ss Fs ws in
      let size = len_of l C.locals f.size in
      let n = length C.locals in
      let pl = grown_fits C r es ex f.room h.1 in
      let ex1 = stored r (λ t. slot C.slots t (length es)) (zero_vs r) ex in
      let len1 : types ex1 ≡ types ex = types-stored r (λ t. slot C.slots t (length es)) (zero_vs r) ex pl (exact_zero r) in
      let k = rewrite C ls (grown r es) L.nodes in
      let kr = drops (length others.taken) (renew_both C (reload C r es k)) in
      let K = test_both C ls es cl others.others kr in
      let ops = others.taken ++ L.operands in
      let low : length es ≤ C.slots = omega (arith, grown_longer r es, room_height C (grown r es) L.nodes h.2) in
      let kd : slice_get ex1 (kind_at C) ≡ Some (values.I32 0) = stored_other r (λ t. slot C.slots t (length es)) (zero_vs r) ex (kind_at C) (λ t. kind_no_slot C (length es) t low) ∙ f.no_kind.0 in
      let gt : types g.globals ≡ global_types C.source = gl_.globals ∙ sym f.flag in
      let fl = flag_len C g gt in
      let A = armed X K ops in
      let X1 = armed X kr ops in
      let H = hand_left C ls es others.others in
      let g1 = flagged M g (values.I32 1) in
      let h1 = fits_stored C l ex r r (L ∷ Ls) (e ∷ ss) (λ t. slot C.slots t (length es)) (zero_vs r) (λ t. clear_slot C (length es) t low) h in
      let go1 : Gets M' p q t (next (st A (l ++ ex) (zero_vs r) (store C r es stop) g1 co)) = rw append-nil at u in
      let s1 : To M' 0 1 (st A (l ++ ex) (zero_vs r) (store C r es stop) g1 co) (st A (l ++ ex1) [] stop g1 co) = store_to M' C l size ex r es (zero_vs r) stop pl (exact_zero r) in
      let s2 : To M' 1 1 (st A (l ++ ex1) [] stop g1 co) (st X (l ++ ex1) ops K g1 co) = one_step M' _ _ refl in
      let s3 = both_to M M' E gl W C X l ex1 ops g co ls es cl others.others kr 0 1 1 size kd fl refl in
      let s4 : To M' 1 1 (st X (l ++ ex1) (values.I32 1 ∷ ops) (if_any (const (values.I32 cl) (set C (offset_at C) H)) kr) g1 co) (st X1 (l ++ ex1) [] (const (values.I32 cl) (set C (offset_at C) H)) g1 co) = one_step M' _ _ refl in
      let br = exit_branch C l ex r ops kr L Ls e ss h in
      let sp_ = subst (Speaks M') (sym f.funcs) sp in
      let ex3 = slice_set ex1 (offset_at C) (values.I32 cl) in
      let h3 = fits_offset C l ex1 r (L ∷ Ls) (e ∷ ss) (values.I32 cl) (omega (arith, low)) h1 in
      let ne : kind_at C ≢ offset_at C = omega arith in
      let kd3 : slice_get ex3 (kind_at C) ≡ Some (values.I32 0) = slice_get-put_other ex1 (kind_at C) (offset_at C) (values.I32 cl) ne ∙ kd in
      let co1 = tell_labels (L ∷ Ls) co in
      let test = get C (kind_at C) (if_any others.others (to_exit C ls)) in
      let b1 : To M' 0 (2 * length es) (st X1 (l ++ ex3) [] H g1 co) (st X1 (l ++ ex3) [] test g1 co1) = hand_to M' C sp_ l size ex3 r (L ∷ Ls) (e ∷ ss) test h3 in
      let b2 : To M' 1 1 (st X1 (l ++ ex3) [] test g1 co1) (st X1 (l ++ ex3) (values.I32 0 ∷ []) (if_any others.others (to_exit C ls)) g1 co1) = added_get M' C l size ex3 (kind_at C) (values.I32 0) kd3 in
      let b3 : To M' 2 2 (st X1 (l ++ ex3) (values.I32 0 ∷ []) (if_any others.others (to_exit C ls)) g1 co1) (st X1 (l ++ ex3) [] (to_exit C ls) g1 co1) = if_zero_to M' in
      let hands : Hands M' C sp_ M l X1.kind X1.below X1.frames g 1 co (ls + length C.landings) H (L ∷ Ls) ex3 = weaken M' (seq M' b1 (seq M' b2 b3)) (omega arith) (omega (arith, low)) in
      let s5 = frame_out M' C sp_ M l f.size (frame_ready f dc.0) ex1 (L ∷ Ls) (ls + length C.landings) X1.kind X1.below X1.frames g 1 co cl 0 H (len1 ∙ f.room) kd gt br hands in
      let all : Gets M' p (q + E) t (deliver M' (zero_vs C.result) X.frames g1 (collector_calls.Frame 0 C.index cl n ∷ tell_locals l (tell_labels (L ∷ Ls) co))) = weaken M' (seq M' go1 (seq M' s1 (seq M' s2 (seq M' s3 (seq M' s4 s5))))) (omega arith) (omega (arith, f.small)) in
      renamed t p (q + E) C.result r' C.index i n (length l) cl 0 X.frames g (tell_locals l (tell_labels (L ∷ Ls) co)) f.result f.idx size all

  pub up_under : (Fs : List Frame) (ws : List Wit) (g : World) (co : List CollectorCall) (t : Config) (p q : ℕ) (r : Option ValType) (F : Frame) (C : Ctx) (ex : List Value) (ss : List (List Place)) (others : Option UnderWay) → FitsFrame M E gl (Waits r) F (wit_under C ex ss others) → DerivedCaller M.program F → FitsFrames M E gl W.result F.result Fs ws → WorldFits M gl g → Up t p q r (F ∷ Fs) (wit_under C ex ss others ∷ ws) g co → Up t p (q + E) F.result Fs ws g (tell_frame 0 F.call F co)
  up_under Fs ws g co t p q r F C ex ss None f dc fs gl_ u = up_in Fs ws g co t p q r C ex F.function F.call F.result F.locals F.labels ss f dc fs gl_ u
  up_under Fs ws g co t p q r F C ex ss (Some others) f dc fs gl_ u = up_arm Fs ws g co t p q r C ex others F.function F.call F.result F.locals F.labels ss f dc fs gl_ u

  -- all frames, the innermost first
  pub up_all : (Fs : List Frame) (ws : List Wit) (g : World) (co : List CollectorCall) (t : Config) (p q : ℕ) (r : Option ValType) → FitsFrames M E gl W.result r Fs ws → DerivedCallers M.program Fs → WorldFits M gl g → Up t p q r Fs ws g co → To M' p (q + length Fs * E) t (config (w_frame W (zero_vs (last_result r Fs) ++ []) ∷ []) (flagged M g (values.I32 1)) (tell_outer Fs co))
  up_all [] ws g co t p q r fs ds gl_ u = weaken M' u (omega arith) (omega arith)
  up_all (F ∷ Fs) [] g co t p q r fs ds gl_ u = absurd fs
  up_all (F ∷ Fs) (w ∷ ws) g co t p q r fs ds gl_ u =
      weaken M' (up_all Fs ws g (tell_frame 0 F.call F co) t p (q + E) F.result fs.1 ds.1 gl_
      (up_under Fs ws g co t p q r F w.ctx w.ex w.ss w.under_way fs.0 ds.0 fs.1 gl_ u)) (omega arith) (omega arith)
