-- Ends of blocks, branches and returns.
use Rattle.std.proofs.Common.{◌≡◌, ℕ, zero, suc, ◌≤◌, List, [], ◌∷◌, ◌++◌, length, Option, Some, None, Bool, true, false, refl, sym, ap, ap₂, ◌∙◌, subst, arith, append-nil, slice_get, option_map, Ok}
use Rattle.wasm_syntax.specs.declared.value.ValType.{ValType}
use Rattle.wasm_syntax.specs.declared.value.ValType.TheVariants.{I32}
use Rattle.int_ops.specs.declared.operators.Binary.TheVariants.{Or}
use Rattle.int_ops.specs.Integers.{binary as int_binary}
use Rattle.wasm_syntax.specs.declared.value.Value.{Value}
use Rattle.wasm_syntax.specs.declared.value.Value.TheVariants as values
use Rattle.wasm_syntax.specs.declared.instruction.Basic.TheVariants.{GlobalGet, Binary}
use Rattle.wasm_syntax.specs.Numbers.{type_of, types, same_type, binary}
use Rattle.wasm_syntax.specs.Tree.{Br, BrIf, BrTable, Return, Nodes, stop, basic, jump, loop}
use Rattle.wasm_syntax.specs.Host.{World}
use Rattle.wasm_syntax.specs.declared.host.CollectorCall.{CollectorCall}
use Rattle.wasm_syntax.specs.Machine.{Kind, leaves, again, returns, Label, Frame, Config, label, frame, Engine, top, exactly, Went, arrive, arrive_some, out_some, leave, loops, land, branch, carried_by, carry, same_result, same_carry, pick, deliver, moved, branch_if, moved_if, branch_table}
use Rattle.rewrite_bodies.specs.calls.Slots.{added, Place, Spilled, Ctx, slot, kind_at, offset_at, grown, under, measured}
use Rattle.rewrite_bodies.specs.calls.Rewrite.{hand_left, test_flag, test_both, with_result, rewrite, get_flag, checked, spare, passes}
use Rattle.rewrite_bodies.specs.calls.Landings.{number_of, landing_behind, part_of}
use Rattle.rewrite_bodies.proofs.Landed.{marked, types_marked, br_if_down, mark_to, first_kind, l_below, l_head}
use Rattle.rewrite_bodies.specs.Numbering.{mapped, flag_of}
use Rattle.rewrite_bodies.specs.calls.Guards.{measure, renew_both}
use Rattle.rewrite_bodies.specs.calls.Known.{HasLeast}
use Rattle.rewrite_bodies.specs.calls.Pieces.{get, set, const, if_any, keep, store, reload, drops}
use Rattle.rewrite_bodies.specs.calls.Agreement.{Pending, Arrives, awaits, now, pending, joined, t_kind, t_labels, Wit, UnderWay, FitsIn, Room, KindFits, FitsLabels, FitsOpen, WorldFits, FitsFrame, FitsFrames, Wrap, t_frames, flagged, told_length, Waits, Runs, running}
use Rattle.rewrite_bodies.specs.calls.Steps.{Gets, To, Shell, st}
use Rattle.rewrite_bodies.proofs.Run.{stored, stored_other, kind_no_slot, if_same, types-stored, one_step, seq, weaken, added_get, store_to, drops_to, cut_front}
use Rattle.rewrite_bodies.proofs.Parts.{settle, step_plain}
use Rattle.rewrite_bodies.proofs.Passing.{loosened, as_open, open_marked, stored_unless, types_unless, arrived, kept_unless, has_open}
use Rattle.rewrite_bodies.proofs.Copies.{fixed_without, fixed_spill, labels_fixed, fits_any}
use Rattle.wasm_laws.proofs.Progress.{same_of}
use Rattle.rewrite_bodies.proofs.Told.{remeasured, types_told, any_length, open_told, reload_told}
use Rattle.rewrite_bodies.proofs.Measures.{get_first, measure_to, renew_both_to}
use Rattle.rewrite_bodies.proofs.Sim.{refit, room_height, grown-append, grown_fits, len_of, flag_len, shell, tgt, wit, wit_under, armed, if_zero_to, grown_longer}
use Rattle.wasm_syntax.proofs.Types.{same_type_is}
use Rattle.rewrite_bodies.specs.inner.Promises.{Comes}

exactly_top : (r : Option ValType) (ops vs : List Value) → exactly r ops ≡ Some vs → top r ops ≡ Some vs
exactly_top None [] vs e = e
exactly_top None (v ∷ ops) vs e = absurd (cc)
exactly_top (Some t) [] vs e = absurd (cc)
exactly_top (Some t) (v ∷ []) vs e = e
exactly_top (Some t) (v ∷ w ∷ ops) vs e = absurd (cc)

pub top_exact : (r : Option ValType) (ops vs : List Value) → top r ops ≡ Some vs → exactly r vs ≡ Some vs
top_exact None ops vs e = let f : [] ≡ vs = cc in rw (← f) refl
top_exact (Some t) [] vs e = absurd (cc)
top_exact (Some t) (v ∷ ops) vs e = let f = if_same (same_type (type_of v) t) (v ∷ []) vs e in rw (← f.1) (rw f.0 refl)

-- where nothing else is left, they are on top
alone_on_top : (r : Option ValType) (vs : List Value) → exactly r vs ≡ Some vs → top r (vs ++ []) ≡ Some vs
alone_on_top None [] e = refl
alone_on_top None (v ∷ vs) e = absurd (cc)
alone_on_top (Some t) [] e = absurd (cc)
alone_on_top (Some t) (v ∷ []) e = e
alone_on_top (Some t) (v ∷ w ∷ vs) e = absurd (cc)

exactly_exact : (r : Option ValType) (ops vs : List Value) → exactly r ops ≡ Some vs → exactly r vs ≡ Some vs
exactly_exact r ops vs e = top_exact r ops vs (exactly_top r ops vs e)

module _ (M M' : Engine) (E : ℕ) (gl : List ValType) (W : Wrap) where
  -- the flag is read
  pub flag_to : {X : Shell} {tl s : List Value} {k : Nodes} {co : List CollectorCall} (C : Ctx) (g : World) (b : ℕ) → flag_of C.source ≡ length g.globals → To M' 1 1 (st X tl s (get_flag C k) (flagged M g (values.I32 b)) co) (st X tl (values.I32 b ∷ s) k (flagged M g (values.I32 b)) co)
  flag_to {tl = tl} {s = s} C g b fl = step_plain M' (GlobalGet (flag_of C.source)) [] s tl (flagged M g (values.I32 b)) (values.I32 b ∷ []) (values.I32 b ∷ s) refl (rw (get_first g.globals (flag_of C.source) (values.I32 b) (values.I64 (told_length g.memory) ∷ []) fl) refl) refl

  -- the added locals behind the test of a call that left these operands
  abbrev pub behind_test : Ctx → List Place → ℕ → List Value → List Value
  behind_test C es o ex = marked (number_of (landing_behind (part_of C.locals o) es) C.landings) C o ex

  -- the flag is down behind a call
  pub flag_down : (C : Ctx) (X : Shell) (l ex s : List Value) (g : World) (co : List CollectorCall) (d : ℕ) (es : List Place) (o : ℕ) (k : Nodes) → length C.locals ≡ length l → types ex ≡ added C.slots → flag_of C.source ≡ length g.globals → To M' 1 5 (st X (l ++ ex) s (test_flag C d es o k) (flagged M g (values.I32 0)) co) (st X (l ++ behind_test C es o ex) s k (flagged M g (values.I32 0)) co)
  flag_down C X l ex s g co d es o k size room fl = by_number (number_of (landing_behind (part_of C.locals o) es) C.landings)
    where
      by_number : (q : Option ℕ) → To M' 1 5 (st X (l ++ ex) s (checked q C d es o (get_flag C) (const (values.I32 0)) k) (flagged M g (values.I32 0)) co) (st X (l ++ marked q C o ex) s k (flagged M g (values.I32 0)) co)
      by_number None = weaken M' (seq M' (flag_to C g 0 fl) (if_zero_to M')) (omega arith) (omega arith)
      by_number (Some n) = weaken M' (seq M' (mark_to M' C l size o ex room) (seq M' (flag_to C g 0 fl) (br_if_down M'))) (omega arith) (omega arith)

  -- the kind and the flag are tested together
  pub both_to : (C : Ctx) (X : Shell) (l ex s : List Value) (g : World) (co : List CollectorCall) (d : ℕ) (es : List Place) (o : ℕ) (others k : Nodes) (x y z : ℕ) → length C.locals ≡ length l → slice_get ex (kind_at C) ≡ Some (values.I32 x) → flag_of C.source ≡ length g.globals → binary I32 Or x y ≡ Ok z → To M' 3 3 (st X (l ++ ex) s (test_both C d es o others k) (flagged M g (values.I32 y)) co) (st X (l ++ ex) (values.I32 z ∷ s) (if_any (const (values.I32 o) (set C (offset_at C) (hand_left C d es others))) k) (flagged M g (values.I32 y)) co)
  both_to C X l ex s g co d es o others k x y z size kd fl q =
      let gy = flagged M g (values.I32 y) in
      let k2 = if_any (const (values.I32 o) (set C (offset_at C) (hand_left C d es others))) k in
      let k1 = basic 0 (Binary I32 Or) k2 in
      let k0 = basic 0 (GlobalGet (flag_of C.source)) k1 in
      let s1 : To M' 1 1 (st X (l ++ ex) s (get C (kind_at C) k0) gy co) (st X (l ++ ex) (values.I32 x ∷ s) k0 gy co) = added_get M' C l size ex (kind_at C) (values.I32 x) kd in
      let s2 : To M' 1 1 (st X (l ++ ex) (values.I32 x ∷ s) k0 gy co) (st X (l ++ ex) (values.I32 y ∷ values.I32 x ∷ s) k1 gy co) = step_plain M' (GlobalGet (flag_of C.source)) [] (values.I32 x ∷ s) (l ++ ex) gy (values.I32 y ∷ []) (values.I32 y ∷ values.I32 x ∷ s) refl (rw (get_first g.globals (flag_of C.source) (values.I32 y) (values.I64 (told_length g.memory) ∷ []) fl) refl) refl in
      let s3 : To M' 1 1 (st X (l ++ ex) (values.I32 y ∷ values.I32 x ∷ s) k1 gy co) (st X (l ++ ex) (values.I32 z ∷ s) k2 gy co) = step_plain M' (Binary I32 Or) (values.I32 y ∷ values.I32 x ∷ []) s (l ++ ex) gy (values.I32 z ∷ []) (values.I32 z ∷ s) refl (rw q refl) refl in
      seq M' s1 (seq M' s2 s3)

  -- values come back to a frame
  returned_in : (vs : List Value) (Fs : List Frame) (ws : List Wit) (g : World) (co : List CollectorCall) (t : Config) (r : Option ValType) (C : Ctx) (ex : List Value) (i cl : ℕ) (r' : Option ValType) (l : List Value) (Ls : List Label) (ss : List (List Place)) → FitsFrame M E gl (Waits r) (frame i r' cl l Ls) (wit C ex ss) → FitsFrames M E gl W.result r' Fs ws → WorldFits M gl g → exactly r vs ≡ Some vs → Gets M' 1 10 t (deliver M' vs (t_frames W r (frame i r' cl l Ls ∷ Fs) (wit C ex ss ∷ ws)) (flagged M g (values.I32 0)) co) → Comes M M' E gl W t (deliver M vs (frame i r' cl l Ls ∷ Fs) g co)
  returned_in vs Fs ws g co t r C ex i cl r' l [] ss f fs gl_ x go = tt
  returned_in vs Fs ws g co t r C ex i cl r' l (L ∷ Ls) [] f fs gl_ x go = absurd f.labels
  returned_in vs Fs ws g co t r C ex i cl r' l (L ∷ Ls) (e ∷ ss) f fs gl_ x go =
      let h = f.labels in
      let es = e ++ joined ss in
      let d = suc (length Ls) in
      let X = shell W C r' L.kind Ls ss Fs ws in
      let pass = passes C L.nodes in
      let ex' = stored_unless pass r (λ t. slot C.slots t (length es)) vs ex in
      let size = len_of l C.locals f.size in
      let pl = grown_fits C r es ex f.room h.1 in
      let m = any_length C ex f.room in
      let hs = arrived pass C l ex m.0 r L Ls e ss vs refl f.room x m.1 h in
      let k = rewrite C d (grown r e ++ joined ss) L.nodes in
      let k2 = measure (measured C) C k in
      let k1 = test_flag C d es cl k2 in
      let go1 : To M' 1 10 t (st X (l ++ ex) (vs ++ L.operands) (keep pass C (option_map Spilled r) es k1) (flagged M g (values.I32 0)) co) = rw grown-append at go in
      let s1 = kept_unless M' C l size pass ex r es vs L.operands k1 pl x in
      let te = types_unless pass r (λ t. slot C.slots t (length es)) vs ex pl x in
      let ex2 = behind_test C es cl ex' in
      let low = room_height C (grown r e ++ joined ss) L.nodes hs.2 in
      let here = label (vs ++ L.operands) L.nodes L.end L.kind in
      let hs2 = open_marked (number_of (landing_behind (part_of C.locals cl) es) C.landings) C cl l ex' m.0 here Ls (grown r e) ss low hs in
      let te2 = types_marked (number_of (landing_behind (part_of C.locals cl) es) C.landings) C cl ex' (te ∙ f.room) ∙ te in
      let n = told_length g.memory in
      let ex3 = remeasured (measured C) C n ex2 in
      let hs3 = open_told C l ex2 m.0 n here Ls (grown r e) ss (te2 ∙ f.room) low hs2 in
      let fl = flag_len C g (gl_.globals ∙ sym f.flag) in
      let s2 = flag_down C X l ex' (vs ++ L.operands) g co d es cl k2 size (te ∙ f.room) fl in
      let s3 = measure_to M' M C X l ex2 (vs ++ L.operands) k g co (values.I32 0) size (te2 ∙ f.room) fl (measured C) in (
        wit C ex3 (grown r e ∷ ss) ∷ ws,
        (gl_, (refit l (here ∷ Ls) ex3 (grown r e ∷ ss) (running g) cl f refl (types_told (measured C) C n ex2 (te2 ∙ f.room) ∙ te2) hs3, fs)),
        weaken M' (seq M' go1 (seq M' s1 (seq M' s2 s3))) (omega arith) (omega (arith, f.small)),
      )

  -- or to one that called through the table
  returned_arm : (vs : List Value) (Fs : List Frame) (ws : List Wit) (g : World) (co : List CollectorCall) (t : Config) (r : Option ValType) (C : Ctx) (ex : List Value) (others : UnderWay) (i cl : ℕ) (r' : Option ValType) (l : List Value) (Ls : List Label) (ss : List (List Place)) → FitsFrame M E gl (Waits r) (frame i r' cl l Ls) (wit_under C ex ss (Some others)) → FitsFrames M E gl W.result r' Fs ws → WorldFits M gl g → exactly r vs ≡ Some vs → Gets M' 1 10 t (deliver M' vs (t_frames W r (frame i r' cl l Ls ∷ Fs) (wit_under C ex ss (Some others) ∷ ws)) (flagged M g (values.I32 0)) co) → Comes M M' E gl W t (deliver M vs (frame i r' cl l Ls ∷ Fs) g co)
  unfolding int_binary
  returned_arm vs Fs ws g co t r C ex others i cl r' l [] ss f fs gl_ x go = tt
  returned_arm vs Fs ws g co t r C ex others i cl r' l (L ∷ Ls) [] f fs gl_ x go = absurd f.labels
  returned_arm vs Fs ws g co t r C ex others i cl r' l (L ∷ Ls) (e ∷ ss) f fs gl_ x go =
      let h = f.labels in
      let es = e ++ joined ss in
      let ops = others.taken ++ L.operands in
      let X = shell W C r' L.kind Ls ss Fs ws in
      let d = suc (length Ls) in
      let ex' = stored r (λ t. slot C.slots t (length es)) vs ex in
      let size = len_of l C.locals f.size in
      let pl = grown_fits C r es ex f.room h.1 in
      let te = types-stored r (λ t. slot C.slots t (length es)) vs ex pl x in
      let m = any_length C ex' (te ∙ f.room) in
      let here = label (vs ++ L.operands) L.nodes L.end L.kind in
      let hs = as_open C l ex' m.0 here Ls (grown r e) ss m.1 (settle C l ex r L Ls e ss vs f.room x h) in
      let n = told_length g.memory in
      let ex3 = remeasured (measured C) C n ex' in
      let hs3 = open_told C l ex' m.0 n here Ls (grown r e) ss (te ∙ f.room) (room_height C (grown r e ++ joined ss) L.nodes hs.2) hs in
      let low : length es ≤ C.slots = omega (arith, grown_longer r es, room_height C (grown r es) L.nodes h.2) in
      let kd : slice_get ex' (kind_at C) ≡ Some (values.I32 0) = stored_other r (λ t. slot C.slots t (length es)) vs ex (kind_at C) (λ t. kind_no_slot C (length es) t low) ∙ f.no_kind.0 in
      let k = rewrite C d (grown r e ++ joined ss) L.nodes in
      let kr = renew_both C (reload C r es k) in
      let kd_ = drops (length others.taken) kr in
      let K = test_both C d es cl others.others kd_ in
      let g0 = flagged M g (values.I32 0) in
      let go1 : To M' 1 10 t (st (armed X K ops) (l ++ ex) vs (store C r es stop) g0 co) = rw (append-nil, grown-append) at go in
      let s1 : To M' 0 1 (st (armed X K ops) (l ++ ex) vs (store C r es stop) g0 co) (st (armed X K ops) (l ++ ex') [] stop g0 co) = store_to M' C l size ex r es vs stop pl x in
      let s2 : To M' 1 1 (st (armed X K ops) (l ++ ex') [] stop g0 co) (st X (l ++ ex') ops K g0 co) = one_step M' _ _ refl in
      let fl = flag_len C g (gl_.globals ∙ sym f.flag) in
      let s3 = both_to C X l ex' ops g co d es cl others.others kd_ 0 0 0 size kd fl refl in
      let s4 : To M' (length others.taken) (length others.taken) (st X (l ++ ex') ops kd_ g0 co) (st X (l ++ ex') L.operands kr g0 co) = drops_to M' (length others.taken) ops others.taken L.operands kr (cut_front others.taken L.operands) in
      let least : HasLeast C.source.memories g.memory = subst (λ z. HasLeast z.memories g.memory) (sym f.funcs) gl_.least in
      let s4b : To M' 0 9 (st X (l ++ ex') L.operands kr g0 co) (st X (l ++ ex3) L.operands (reload C r es k) g0 co) = renew_both_to M' M C X l ex' L.operands (reload C r es k) g co (values.I32 0) size (te ∙ f.room) fl least gl_.memory in
      let s5 : To M' 0 1 (st X (l ++ ex3) L.operands (reload C r es k) g0 co) (st X (l ++ ex3) (vs ++ L.operands) k g0 co) = reload_told M' C l size (measured C) n ex r es vs L.operands k h.1 pl x in (
        wit C ex3 (grown r e ∷ ss) ∷ ws,
        (gl_, (refit l (here ∷ Ls) ex3 (grown r e ∷ ss) (running g) cl f refl (types_told (measured C) C n ex' (te ∙ f.room) ∙ te) hs3, fs)),
        weaken M' (seq M' go1 (seq M' s1 (seq M' s2 (seq M' s3 (seq M' (if_zero_to M') (seq M' s4 (seq M' s4b s5))))))) (omega arith) (omega (arith, f.small, f.no_kind.1)),
      )

  returned_under : (vs : List Value) (Fs : List Frame) (ws : List Wit) (g : World) (co : List CollectorCall) (t : Config) (r : Option ValType) (F : Frame) (C : Ctx) (ex : List Value) (ss : List (List Place)) (others : Option UnderWay) → FitsFrame M E gl (Waits r) F (wit_under C ex ss others) → FitsFrames M E gl W.result F.result Fs ws → WorldFits M gl g → exactly r vs ≡ Some vs → Gets M' 1 10 t (deliver M' vs (t_frames W r (F ∷ Fs) (wit_under C ex ss others ∷ ws)) (flagged M g (values.I32 0)) co) → Comes M M' E gl W t (deliver M vs (F ∷ Fs) g co)
  returned_under vs Fs ws g co t r F C ex ss None f fs gl_ x go = returned_in vs Fs ws g co t r C ex F.function F.call F.result F.locals F.labels ss f fs gl_ x go
  returned_under vs Fs ws g co t r F C ex ss (Some others) f fs gl_ x go = returned_arm vs Fs ws g co t r C ex others F.function F.call F.result F.locals F.labels ss f fs gl_ x go

  returned : (vs : List Value) (Fs : List Frame) (ws : List Wit) (g : World) (co : List CollectorCall) (t : Config) (r : Option ValType) → 10 ≤ E → FitsFrames M E gl W.result r Fs ws → WorldFits M gl g → exactly r vs ≡ Some vs → Gets M' 1 10 t (deliver M' vs (t_frames W r Fs ws) (flagged M g (values.I32 0)) co) → Comes M M' E gl W t (deliver M vs Fs g co)
  returned vs [] [] g co t r le fs gl_ x go = (subst (λ z. exactly z vs ≡ Some vs) fs x, gl_, weaken M' go (omega arith) le)
  returned vs [] (_ ∷ _) g co t r le fs gl_ x go = absurd fs
  returned vs (F ∷ Fs) [] g co t r le fs gl_ x go = absurd fs
  returned vs (F ∷ Fs) (w ∷ ws) g co t r le fs gl_ x go =
      returned_under vs Fs ws g co t r F w.ctx w.ex w.ss w.under_way fs.0 fs.1 gl_ x go

  -- the target goes where this leads
  abbrev Moved : Ctx → List Value → Option ValType → List Value → List Frame → List Wit → World → List CollectorCall → Config → List Label → Went → Type 0
  Moved C ex r l Fs ws g co t Lx x = Gets M' 1 2 t (moved M' x (frame (mapped C.source C.index) C.result 0 (l ++ ex) Lx) (t_frames W r Fs ws) (flagged M g (values.I32 0)) co)

  module _ (C : Ctx) (ex : List Value) (ws : List Wit) (i cl : ℕ) (r : Option ValType) (l : List Value) (Fs : List Frame) (g : World) (co : List CollectorCall) (t : Config) (Ls0 : List Label) (ss0 : List (List Place)) (Lx : List Label) (f : FitsFrame M E gl (running g) (frame i r cl l Ls0) (wit C ex ss0)) (fs : FitsFrames M E gl W.result r Fs ws) (gl_ : WorldFits M gl g) where
    -- values come to a label whose block has ended or was left by a branch
    arrived_in : (a : Option ValType) (vs : List Value) (Ls : List Label) (ss : List (List Place)) → FitsLabels C [] ex a Ls ss → exactly a vs ≡ Some vs → Moved C ex r l Fs ws g co t Lx (arrive vs (t_labels C (Arrives a) Ls ss)) → Comes M M' E gl W t (moved M (arrive vs Ls) (frame i r cl l Ls0) Fs g co)
    arrived_in a vs [] ss h x go = tt
    arrived_in a vs (L ∷ Ls) [] h x go = absurd h
    arrived_in a vs (L ∷ Ls) (e ∷ ss) h x go =
        let es = e ++ joined ss in
        let X = shell W C r L.kind Ls ss Fs ws in
        let size = len_of l C.locals f.size in
        let pl = grown_fits C a es ex f.room h.1 in
        let pass = passes C L.nodes in
        let hs = arrived pass C l ex (told_length g.memory) a L Ls e ss vs refl f.room x (has_open C l ex (told_length g.memory) Ls0 ss0 f.labels) (fits_any C l ex a (L ∷ Ls) (e ∷ ss) h) in
        let ex2 = stored_unless pass a (λ t. slot C.slots t (length es)) vs ex in
        let k = rewrite C (suc (length Ls)) (grown a e ++ joined ss) L.nodes in
        let go1 : To M' 1 2 t (st X (l ++ ex) (vs ++ L.operands) (keep pass C (option_map Spilled a) es k) (flagged M g (values.I32 0)) co) = rw grown-append at go in
        let s1 = kept_unless M' C l size pass ex a es vs L.operands k pl x in (
          wit C ex2 (grown a e ∷ ss) ∷ ws,
          (gl_, (refit l (label (vs ++ L.operands) L.nodes L.end L.kind ∷ Ls) ex2 (grown a e ∷ ss) (running g) cl f refl (types_unless pass a (λ t. slot C.slots t (length es)) vs ex pl x) hs, fs)),
          weaken M' (seq M' go1 s1) (omega arith) (omega (arith, f.small)),
        )

    -- the frame gives its values back
    handed : (vs : List Value) → exactly C.result vs ≡ Some vs → Gets M' 1 3 t (deliver M' vs (t_frames W r Fs ws) (flagged M g (values.I32 0)) co) → Comes M M' E gl W t (deliver M vs Fs g co)
    handed vs x go = returned vs Fs ws g co t r (omega (arith, f.small)) fs gl_ (subst (λ z. exactly z vs ≡ Some vs) f.result x) (weaken M' go (omega arith) (omega arith))

    -- by way of the body's block
    gone : (b : Option ValType) (vs : List Value) → b ≡ C.result → exactly b vs ≡ Some vs → Moved C ex r l Fs ws g co t Lx (arrive vs (t_labels C now [] [])) → Comes M M' E gl W t (deliver M vs Fs g co)
    gone b vs be x go =
        let x' : exactly C.result vs ≡ Some vs = subst (λ z. exactly z vs ≡ Some vs) be x in
        let X2 : Shell = record { idx = mapped C.source C.index; result = C.result; kind = first_kind C.landings; below = l_below C C.landings; frames = t_frames W r Fs ws } in
        let s1 : To M' 1 2 t (st X2 (l ++ ex) (vs ++ []) (jump 0 Return stop) (flagged M g (values.I32 0)) co) = subst (λ z. Moved C ex r l Fs ws g co t Lx (arrive vs z)) (l_head C (jump 0 Return stop) C.landings) go in
        let s2 : Gets M' 1 1 (st X2 (l ++ ex) (vs ++ []) (jump 0 Return stop) (flagged M g (values.I32 0)) co) (deliver M' vs (t_frames W r Fs ws) (flagged M g (values.I32 0)) co) = one_step M' _ _ (rw (alone_on_top C.result vs x') refl) in
        handed vs x' (weaken M' (seq M' s1 s2) (omega arith) (omega arith))

    -- a loop is met again
    looped : (o : ℕ) (a : Option ValType) (inner : Nodes) (ee : ℕ) (Ls : List Label) (ss : List (List Place)) → KindFits C (joined ss) (again o a inner ee) Ls → FitsLabels C [] ex a Ls ss → Moved C ex r l Fs ws g co t Lx (loops 0 a (rewrite C (suc (length Ls)) (joined ss) inner) 0 (t_labels C (Arrives a) Ls ss)) → Comes M M' E gl W t (moved M (loops o a inner ee Ls) (frame i r cl l Ls0) Fs g co)
    looped o a inner ee [] ss kf h go = tt
    looped o a inner ee (L ∷ Ls) [] kf h go = absurd h
    looped o a inner ee (L ∷ Ls) (e ∷ ss) kf h go =
        let es = e ++ joined ss in
        let X = shell W C r L.kind Ls ss Fs ws in
        let d = suc (length Ls) in
        let here = label L.operands (loop o a inner ee L.nodes) L.end L.kind in
        let fx = labels_fixed C ex a (L ∷ Ls) (e ∷ ss) h in
        let same : under es ≡ es = fixed_without (λ x. true) es fx in
        let code = λ (z : List Place). loop 0 a (rewrite C (suc d) z inner) 0 (with_result C a z (passes C L.nodes) (λ es'. rewrite C d es' L.nodes)) in
        let conv : rewrite C d es (loop o a inner ee L.nodes) ≡ code es = fixed_spill C (λ x. true) es (code (under es)) fx ∙ ap code same in (
          wit C ex (e ∷ ss) ∷ ws,
          (gl_, (refit l (here ∷ Ls) ex (e ∷ ss) (running g) cl f refl refl (as_open C l ex (told_length g.memory) here Ls e ss (has_open C l ex (told_length g.memory) Ls0 ss0 f.labels) (fits_any C l ex None (here ∷ Ls) (e ∷ ss) (h.0, tt, (kf.0, subst (λ z. Room C z inner) (sym same) kf.1, subst (FitsIn C a) (sym same) h.1, subst (λ z. Room C (grown a z) L.nodes) (sym same) h.2), h.3, h.4))), fs)),
          subst (λ z. To M' 1 E t (st X (l ++ ex) L.operands z (flagged M g (values.I32 0)) co)) (sym conv) (weaken M' go (omega arith) (omega (arith, f.small))),
        )

    by_top : (a : Option ValType) (ops : List Value) (q : Option (List Value)) (Ls : List Label) (ss : List (List Place)) → top a ops ≡ q → FitsLabels C [] ex a Ls ss → Moved C ex r l Fs ws g co t Lx (arrive_some q (t_labels C (Arrives a) Ls ss)) → Comes M M' E gl W t (moved M (arrive_some q Ls) (frame i r cl l Ls0) Fs g co)
    by_top a ops None Ls ss x h go = tt
    by_top a ops (Some vs) Ls ss x h go = arrived_in a vs Ls ss h (top_exact a ops vs x) go

    out_by_top : (b : Option ValType) (ops : List Value) (q : Option (List Value)) → top b ops ≡ q → b ≡ C.result → Moved C ex r l Fs ws g co t Lx (arrive_some q (t_labels C now [] [])) → Comes M M' E gl W t (moved M (out_some q) (frame i r cl l Ls0) Fs g co)
    out_by_top b ops None x be go = tt
    out_by_top b ops (Some vs) x be go = gone b vs be (top_exact b ops vs x) go

    br_land : (ops : List Value) (kd : Kind) (Ls : List Label) (ss : List (List Place)) → KindFits C (joined ss) kd Ls → FitsLabels C [] ex (awaits (pending kd)) Ls ss → Moved C ex r l Fs ws g co t Lx (land (t_kind C (length Ls) (joined ss) kd) ops (t_labels C (pending kd) Ls ss)) → Comes M M' E gl W t (moved M (land kd ops Ls) (frame i r cl l Ls0) Fs g co)
    br_land ops (leaves a) Ls ss kf h go = by_top a ops (top a ops) Ls ss refl h go
    br_land ops (again o a inner ee) Ls ss kf h go = looped o a inner ee Ls ss kf h go
    br_land ops (returns b) [] ss kf h go = out_by_top b ops (top b ops) refl kf go
    br_land ops (returns b) (L ∷ Ls) ss kf h go = absurd kf

    br_outer : (ops : List Value) (n : ℕ) (a : Option ValType) (p : Pending) (Ls : List Label) (ss : List (List Place)) → FitsLabels C [] ex a Ls ss → Moved C ex r l Fs ws g co t Lx (branch n ops (t_labels C p Ls ss)) → Comes M M' E gl W t (moved M (branch n ops Ls) (frame i r cl l Ls0) Fs g co)
    br_outer ops zero a p [] ss h go = tt
    br_outer ops (suc n) a p [] ss h go = tt
    br_outer ops zero a p (L ∷ Ls) [] h go = absurd h
    br_outer ops (suc n) a p (L ∷ Ls) [] h go = absurd h
    br_outer ops zero a p (L ∷ Ls) (e ∷ ss) h go = br_land ops L.kind Ls ss h.3 h.4 go
    br_outer ops (suc n) a p (L ∷ Ls) (e ∷ ss) h go = br_outer ops n (awaits (pending L.kind)) (pending L.kind) Ls ss h.4 go

    -- a branch from the innermost label, whatever its operands and its code
    pub br_sim : (ops o : List Value) (c : Nodes) (n : ℕ) (L : Label) (Ls : List Label) (e : List Place) (ss : List (List Place)) → FitsOpen C l ex (running g) (L ∷ Ls) (e ∷ ss) → Moved C ex r l Fs ws g co t Lx (branch n ops (label o c 0 (t_kind C (length Ls) (joined ss) L.kind) ∷ t_labels C (pending L.kind) Ls ss)) → Comes M M' E gl W t (moved M (branch n ops (L ∷ Ls)) (frame i r cl l Ls0) Fs g co)
    br_sim ops o c zero L Ls e ss h go = br_land ops L.kind Ls ss h.3 h.4 go
    br_sim ops o c (suc n) L Ls e ss h go = br_outer ops n (awaits (pending L.kind)) (pending L.kind) Ls ss h.4 go

    -- the end of a label's nodes
    by_all : (a : Option ValType) (ops : List Value) (q : Option (List Value)) (Ls : List Label) (ss : List (List Place)) → exactly a ops ≡ q → FitsLabels C [] ex a Ls ss → Moved C ex r l Fs ws g co t Lx (arrive_some q (t_labels C (Arrives a) Ls ss)) → Comes M M' E gl W t (moved M (arrive_some q Ls) (frame i r cl l Ls0) Fs g co)
    by_all a ops None Ls ss x h go = tt
    by_all a ops (Some vs) Ls ss x h go = arrived_in a vs Ls ss h (exactly_exact a ops vs x) go

    out_by_all : (b : Option ValType) (ops : List Value) (q : Option (List Value)) → exactly b ops ≡ q → b ≡ C.result → Moved C ex r l Fs ws g co t Lx (arrive_some q (t_labels C now [] [])) → Comes M M' E gl W t (moved M (out_some q) (frame i r cl l Ls0) Fs g co)
    out_by_all b ops None x be go = tt
    out_by_all b ops (Some vs) x be go = gone b vs be (exactly_exact b ops vs x) go

    left : (ops : List Value) (kd : Kind) (Ls : List Label) (ss : List (List Place)) → KindFits C (joined ss) kd Ls → FitsLabels C [] ex (awaits (pending kd)) Ls ss → Moved C ex r l Fs ws g co t Lx (leave (t_kind C (length Ls) (joined ss) kd) ops (t_labels C (pending kd) Ls ss)) → Comes M M' E gl W t (moved M (leave kd ops Ls) (frame i r cl l Ls0) Fs g co)
    left ops (leaves a) Ls ss kf h go = by_all a ops (exactly a ops) Ls ss refl h go
    left ops (again o a inner ee) Ls ss kf h go = by_all a ops (exactly a ops) Ls ss refl h go
    left ops (returns b) [] ss kf h go = out_by_all b ops (exactly b ops) refl kf go
    left ops (returns b) (L ∷ Ls) ss kf h go = absurd kf

    returned_by : (ops : List Value) (q : Option (List Value)) → top C.result ops ≡ q → Moved C ex r l Fs ws g co t Lx (out_some q) → Comes M M' E gl W t (moved M (out_some q) (frame i r cl l Ls0) Fs g co)
    returned_by ops None x go = tt
    returned_by ops (Some vs) x go = handed vs (top_exact C.result ops vs x) (weaken M' go (omega arith) (omega arith))

  module _ (C : Ctx) (ex : List Value) (e : List Place) (ss : List (List Place)) (ws : List Wit) (i cl : ℕ) (r : Option ValType) (l ops : List Value) (en : ℕ) (kd : Kind) (Ls : List Label) (Fs : List Frame) (g : World) (co : List CollectorCall) where
    abbrev Fits : Nodes → Type 0
    Fits nodes = FitsFrame M E gl (running g) (frame i r cl l (label ops nodes en kd ∷ Ls)) (wit C ex (e ∷ ss))

    abbrev at : Nodes → Config
    at nodes = tgt M W C ex e ss ws r l ops kd Ls Fs g co nodes

    -- the target's labels in front of this code
    abbrev labels_at : Nodes → List Label
    labels_at code = label ops code 0 (t_kind C (length Ls) (joined ss) kd) ∷ t_labels C (pending kd) Ls ss

    abbrev own : Nodes → List Label
    own nodes = label ops nodes en kd ∷ Ls

    pub end_sim : Fits stop → FitsFrames M E gl W.result r Fs ws → WorldFits M gl g → Comes M M' E gl W (at stop) (moved M (leave kd ops Ls) (frame i r cl l (own stop)) Fs g co)
    end_sim f fs gl_ =
        left C ex ws i cl r l Fs g co (at stop) (own stop) (e ∷ ss) (labels_at stop) f fs gl_ ops kd Ls ss f.labels.3 f.labels.4 (weaken M' (one_step M' _ _ refl) (omega arith) (omega arith))

    pub br_node : (o n : ℕ) (rest : Nodes) → Fits (jump o (Br n) rest) → FitsFrames M E gl W.result r Fs ws → WorldFits M gl g → Comes M M' E gl W (at (jump o (Br n) rest)) (moved M (branch n ops (own (jump o (Br n) rest))) (frame i r cl l (own (jump o (Br n) rest))) Fs g co)
    br_node o n rest f fs gl_ =
        let nodes = jump o (Br n) rest in
        let code = jump 0 (Br n) stop in
        br_sim C ex ws i cl r l Fs g co (at nodes) (own nodes) (e ∷ ss) (labels_at code) f fs gl_ ops ops code n (label ops nodes en kd) Ls e ss f.labels (weaken M' (one_step M' _ _ refl) (omega arith) (omega arith))

    pub return_node : (o : ℕ) (rest : Nodes) → Fits (jump o Return rest) → FitsFrames M E gl W.result r Fs ws → WorldFits M gl g → Comes M M' E gl W (at (jump o Return rest)) (moved M (out_some (top r ops)) (frame i r cl l (own (jump o Return rest))) Fs g co)
    return_node o rest f fs gl_ =
        let nodes = jump o Return rest in
        subst (λ z. Comes M M' E gl W (at nodes) (moved M (out_some (top z ops)) (frame i r cl l (own nodes)) Fs g co)) f.result
        (returned_by C ex ws i cl r l Fs g co (at nodes) (own nodes) (e ∷ ss) (labels_at (jump 0 Return stop)) f fs gl_ ops (top C.result ops) refl (weaken M' (one_step M' _ _ refl) (omega arith) (omega arith)))

  pub br_if_node : (C : Ctx) (ex : List Value) (e : List Place) (ss : List (List Place)) (ws : List Wit) (i cl : ℕ) (r : Option ValType) (l ops : List Value) (en : ℕ) (kd : Kind) (Ls : List Label) (Fs : List Frame) (g : World) (co : List CollectorCall) (o n : ℕ) (rest : Nodes) → FitsFrame M E gl (running g) (frame i r cl l (label ops (jump o (BrIf n) rest) en kd ∷ Ls)) (wit C ex (e ∷ ss)) → FitsFrames M E gl W.result r Fs ws → WorldFits M gl g → Comes M M' E gl W (tgt M W C ex e ss ws r l ops kd Ls Fs g co (jump o (BrIf n) rest)) (branch_if M n ops rest (frame i r cl l (label ops (jump o (BrIf n) rest) en kd ∷ Ls)) (label ops (jump o (BrIf n) rest) en kd) Ls Fs g co)
  br_if_node C ex e ss ws i cl r l [] en kd Ls Fs g co o n rest f fs gl_ = tt
  br_if_node C ex e ss ws i cl r l (values.I64 v ∷ ops) en kd Ls Fs g co o n rest f fs gl_ = tt
  br_if_node C ex [] ss ws i cl r l (values.I32 v ∷ ops) en kd Ls Fs g co o n rest f fs gl_ = absurd f.labels.0
  br_if_node C ex (e1 ∷ e) ss ws i cl r l (values.I32 zero ∷ ops) en kd Ls Fs g co o n rest f fs gl_ =
      let h = f.labels in
      (wit C ex (e ∷ ss) ∷ ws, (gl_, (refit l (label ops rest en kd ∷ Ls) ex (e ∷ ss) (running g) cl f refl refl (loosened C (spare C rest) l ex (joined ss) e ops h.0.1, h.1, h.2.1, h.3, h.4), fs)), weaken M' (one_step M' _ _ refl) (omega arith) (omega (arith, f.small)))
  br_if_node C ex (e1 ∷ e) ss ws i cl r l (values.I32 (suc v) ∷ ops) en kd Ls Fs g co o n rest f fs gl_ =
      let nodes = jump o (BrIf n) rest in
      let all = values.I32 (suc v) ∷ ops in
      let code = jump 0 (BrIf n) (rewrite C (suc (length Ls)) (e ++ joined ss) rest) in
      let Lx = label all code 0 (t_kind C (length Ls) (joined ss) kd) ∷ t_labels C (pending kd) Ls ss in
      br_sim C ex ws i cl r l Fs g co (tgt M W C ex (e1 ∷ e) ss ws r l all kd Ls Fs g co nodes) (label all nodes en kd ∷ Ls) ((e1 ∷ e) ∷ ss) Lx f fs gl_ ops all code n (label all nodes en kd) Ls (e1 ∷ e) ss f.labels (weaken M' (one_step M' _ _ refl) (omega arith) (omega arith))

  -- a table of labels
  kind_carry : (C : Ctx) (d : ℕ) (js : List Place) (kd : Kind) → Some (carried_by (t_kind C d js kd)) ≡ Some (carried_by kd)
  kind_carry C d js (leaves a) = refl
  kind_carry C d js (again o a inner ee) = refl
  kind_carry C d js (returns r) = refl

  t_carry : (C : Ctx) (l ex : List Value) (a b : Option ValType) (p : Pending) (n : ℕ) (Ls : List Label) (ss : List (List Place)) → FitsLabels C l ex a Ls ss → carry n Ls ≡ Some b → carry n (t_labels C p Ls ss) ≡ Some b
  t_carry C l ex a b p n [] ss h c = absurd (cc)
  t_carry C l ex a b p n (L ∷ Ls) [] h c = absurd h
  t_carry C l ex a b p zero (L ∷ Ls) (e ∷ ss) h c = kind_carry C (length Ls) (joined ss) L.kind ∙ c
  t_carry C l ex a b p (suc n) (L ∷ Ls) (e ∷ ss) h c = t_carry C [] ex (awaits (pending L.kind)) b (pending L.kind) n Ls ss h.4 c

  open_carry : (C : Ctx) (l ex : List Value) (m : ℕ) (b : Option ValType) (p : Pending) (n : ℕ) (L : Label) (Ls : List Label) (e : List Place) (ss : List (List Place)) → FitsOpen C l ex (Runs m) (L ∷ Ls) (e ∷ ss) → carry n (L ∷ Ls) ≡ Some b → carry n (t_labels C p (L ∷ Ls) (e ∷ ss)) ≡ Some b
  open_carry C l ex m b p zero L Ls e ss h c = kind_carry C (length Ls) (joined ss) L.kind ∙ c
  open_carry C l ex m b p (suc n) L Ls e ss h c = t_carry C [] ex (awaits (pending L.kind)) b (pending L.kind) n Ls ss h.4 c

  same_carried : (n : ℕ) (o1 o2 : List Value) (c1 c2 : Nodes) (K : Kind) (B : List Label) → carry n (label o1 c1 0 K ∷ B) ≡ carry n (label o2 c2 0 K ∷ B)
  same_carried zero o1 o2 c1 c2 K B = refl
  same_carried (suc n) o1 o2 c1 c2 K B = refl

  same_result-same : (a b : Option ValType) → same_result a b ≡ true → a ≡ b
  same_result-same None None e = refl
  same_result-same None (Some t) e = absurd (cc)
  same_result-same (Some t) None e = absurd (cc)
  same_result-same (Some t) (Some u) e = ap Some (same_type_is t u e)

  same_carry-same : (p q : Option (Option ValType)) → same_carry p q ≡ true → (a : Option ValType) × (p ≡ Some a) × (q ≡ Some a)
  same_carry-same None q e = absurd (cc)
  same_carry-same (Some a) None e = absurd (cc)
  same_carry-same (Some a) (Some b) e = let z : a ≡ b = same_result-same a b e in (a, refl, ap Some (sym z))

  same_result-refl : (a : Option ValType) → same_result a a ≡ true
  same_result-refl None = refl
  same_result-refl (Some t) = same_of t t refl

  tabled : (C : Ctx) (ex : List Value) (e1 : Place) (e : List Place) (ss : List (List Place)) (ws : List Wit) (i cl : ℕ) (r : Option ValType) (l ops : List Value) (en : ℕ) (kd : Kind) (Ls : List Label) (Fs : List Frame) (g : World) (co : List CollectorCall) (o v d : ℕ) (ts : List ℕ) (rest : Nodes) (b : Bool) → FitsFrame M E gl (running g) (frame i r cl l (label (values.I32 v ∷ ops) (jump o (BrTable ts d) rest) en kd ∷ Ls)) (wit C ex ((e1 ∷ e) ∷ ss)) → FitsFrames M E gl W.result r Fs ws → WorldFits M gl g → same_carry (carry (pick ts d v) (label (values.I32 v ∷ ops) (jump o (BrTable ts d) rest) en kd ∷ Ls)) (carry d (label (values.I32 v ∷ ops) (jump o (BrTable ts d) rest) en kd ∷ Ls)) ≡ b → Comes M M' E gl W (tgt M W C ex (e1 ∷ e) ss ws r l (values.I32 v ∷ ops) kd Ls Fs g co (jump o (BrTable ts d) rest)) (moved_if M b (branch (pick ts d v) ops (label (values.I32 v ∷ ops) (jump o (BrTable ts d) rest) en kd ∷ Ls)) (frame i r cl l (label (values.I32 v ∷ ops) (jump o (BrTable ts d) rest) en kd ∷ Ls)) Fs g co)
  tabled C ex e1 e ss ws i cl r l ops en kd Ls Fs g co o v d ts rest false f fs gl_ q = tt
  tabled C ex e1 e ss ws i cl r l ops en kd Ls Fs g co o v d ts rest true f fs gl_ q =
      let h = f.labels in
      let n = pick ts d v in
      let nodes = jump o (BrTable ts d) rest in
      let all = values.I32 v ∷ ops in
      let L0 = label all nodes en kd in
      let K = t_kind C (length Ls) (joined ss) kd in
      let B = t_labels C (pending kd) Ls ss in
      let code = jump 0 (BrTable ts d) stop in
      let Lx = label all code 0 K ∷ B in
      let top_ = rewrite C (suc (length Ls)) ((e1 ∷ e) ++ joined ss) nodes in
      let s = same_carry-same (carry n (L0 ∷ Ls)) (carry d (L0 ∷ Ls)) q in
      let cn : carry n Lx ≡ Some s.0 = same_carried n all all code top_ K B ∙ open_carry C l ex (told_length g.memory) s.0 now n L0 Ls (e1 ∷ e) ss h s.1 in
      let cd : carry d Lx ≡ Some s.0 = same_carried d all all code top_ K B ∙ open_carry C l ex (told_length g.memory) s.0 now d L0 Ls (e1 ∷ e) ss h s.2 in
      let ok : same_carry (carry n Lx) (carry d Lx) ≡ true = ap₂ (λ p q. same_carry p q) cn cd ∙ same_result-refl s.0 in
      let FX = frame (mapped C.source C.index) C.result 0 (l ++ ex) Lx in
      br_sim C ex ws i cl r l Fs g co (tgt M W C ex (e1 ∷ e) ss ws r l all kd Ls Fs g co nodes) (L0 ∷ Ls) ((e1 ∷ e) ∷ ss) Lx f fs gl_ ops all code n L0 Ls (e1 ∷ e) ss h
      (weaken M' (one_step M' _ _ (ap (λ z. moved_if M' z (branch n ops Lx) FX (t_frames W r Fs ws) (flagged M g (values.I32 0)) co) ok)) (omega arith) (omega arith))

  pub table_node : (C : Ctx) (ex : List Value) (e : List Place) (ss : List (List Place)) (ws : List Wit) (i cl : ℕ) (r : Option ValType) (l ops : List Value) (en : ℕ) (kd : Kind) (Ls : List Label) (Fs : List Frame) (g : World) (co : List CollectorCall) (o d : ℕ) (ts : List ℕ) (rest : Nodes) → FitsFrame M E gl (running g) (frame i r cl l (label ops (jump o (BrTable ts d) rest) en kd ∷ Ls)) (wit C ex (e ∷ ss)) → FitsFrames M E gl W.result r Fs ws → WorldFits M gl g → Comes M M' E gl W (tgt M W C ex e ss ws r l ops kd Ls Fs g co (jump o (BrTable ts d) rest)) (branch_table M ts d ops (frame i r cl l (label ops (jump o (BrTable ts d) rest) en kd ∷ Ls)) (label ops (jump o (BrTable ts d) rest) en kd) Ls Fs g co)
  table_node C ex e ss ws i cl r l [] en kd Ls Fs g co o d ts rest f fs gl_ = tt
  table_node C ex e ss ws i cl r l (values.I64 v ∷ ops) en kd Ls Fs g co o d ts rest f fs gl_ = tt
  table_node C ex [] ss ws i cl r l (values.I32 v ∷ ops) en kd Ls Fs g co o d ts rest f fs gl_ = absurd f.labels.0
  table_node C ex (e1 ∷ e) ss ws i cl r l (values.I32 v ∷ ops) en kd Ls Fs g co o d ts rest f fs gl_ =
      tabled C ex e1 e ss ws i cl r l ops en kd Ls Fs g co o v d ts rest (same_carry (carry (pick ts d v) (label (values.I32 v ∷ ops) (jump o (BrTable ts d) rest) en kd ∷ Ls)) (carry d (label (values.I32 v ∷ ops) (jump o (BrTable ts d) rest) en kd ∷ Ls))) f fs gl_ refl
