-- Calls, traps, and the whole step.
use Rattle.std.proofs.Common.{◌≡◌, ℕ, zero, suc, ◌+◌, ◌*◌, ◌≤◌, List, [], ◌∷◌, ◌++◌, length, map, reverse, Option, Some, None, Bool, true, false, ◌&&◌, nat_lt, nat_le, refl, sym, ap, ap₂, ◌∙◌, subst, arith, append_assoc, append-nil, length-append, ◌⊎◌, inl, inr, slice_get, slice_set, option_to_list, option_map, ltb-true, lt-ltb, unwrap_or, ◌≢◌, ◌==◌, Ok, ◌<◌}
use Rattle.wasm_syntax.specs.declared.value.ValType.{ValType}
use Rattle.wasm_syntax.specs.declared.value.ValType.TheVariants.{I32}
use Rattle.wasm_syntax.specs.declared.value.Value.{Value}
use Rattle.wasm_syntax.specs.declared.value.Value.TheVariants as values
use Rattle.wasm_syntax.specs.declared.parts.FuncType.{FuncType}
use Rattle.wasm_syntax.specs.declared.parts.Body.{Body}
use Rattle.wasm_syntax.specs.declared.parts.Import.{Import}
use Rattle.wasm_syntax.specs.Numbers.{type_of, types, modulo, bool_number, binary}
use Rattle.wasm_syntax.specs.Run.{table_min}
use Rattle.std.proofs.Math.Nat.{mod-eq_of_lt}
use Rattle.int_ops.specs.Integers.{binary as int_binary}
use Rattle.int_ops.specs.declared.operators.Binary.TheVariants.{Add, Or}
use Rattle.wasm_syntax.specs.declared.instruction.Basic.TheVariants.{Eqz, Binary}
use Rattle.wasm_syntax.specs.Tree.{BrTable, Call, CallIndirect, Nodes, stop, basic, jump, Tree, BrIf}
use Rattle.wasm_syntax.specs.declared.module.ModuleParts.{ModuleParts as Module}
use Rattle.wasm_syntax.specs.Module.{Function, imported, defined, function_at, type_at, declared_locals, same_types, same_functype, option_then}
use Rattle.wasm_syntax.specs.Host.{World, Answer, replied, told, silent, misfit, answer, told_or, served_by, after_writes, if_fits, if_written, fits_type}
use Rattle.wasm_syntax.specs.declared.host.HostCall.{HostCall}
use Rattle.wasm_syntax.specs.declared.host.Reply.{Reply}
use Rattle.wasm_syntax.specs.declared.host.CollectorCall.{CollectorCall}
use Rattle.wasm_syntax.specs.declared.host.CollectorCall.TheVariants as collector_calls
use Rattle.wasm_syntax.specs.Machine.{Kind, leaves, returns, Label, Frame, Config, label, frame, config, Engine, Stepped, next, traps, Cut, short, parts, one_more, cut, exactly, pick, zero_of, zeros, result_of, function_type, entered, host_call, deliver, host, enters, applied_if, calls_on, calls, step, offset_in, top}
use Rattle.rewrite_bodies.specs.calls.Slots.{Place, Spilled, Ctx, slot, kind_at, offset_at, added, less, grown, ctx_of, Landing, measured}
use Rattle.rewrite_bodies.specs.calls.Rewrite.{hand, hand_top, to_exit, hand_left, test_flag, test_both, unwind, unwind_kind, spare, passes, after_direct, call_code, helper_of, past_shown, rewrite, body}
use Rattle.rewrite_bodies.specs.Numbering.{import_count, mapped, place_in, global_types, helper_base, helped, doubles, flag_of}
use Rattle.rewrite_bodies.proofs.Doubled.{past, entry_past, entry_low}
use Rattle.rewrite_bodies.specs.calls.Pieces.{get, set, const, call, if_any, fetch, load, keep, store, reload, drops, tree_of}
use Rattle.linear_memory.specs.Memory.{Memory}
use Rattle.linear_memory.specs.Memory as memories
use Rattle.rewrite_bodies.specs.calls.Agreement.{Holds, now, joined, Wit, UnderWay, t_frame, FitsIn, Has, Room_call, Room, FitsLabels, FitsOpen, MemoryFits, NoKind, WorldFits, FitsFrame, FitsFrames, Wrap, zero_vs, t_frames, flagged, byte_count, Waits, Runs, running, HasLength, told_length}
use Rattle.rewrite_bodies.specs.calls.Steps.{Gets, To, Shell, st}
use Rattle.rewrite_bodies.proofs.Run.{stored_other, kind_no_slot, slice_get-put_other, added_get, added_set, slice_get-put_same, types-slice_set, added_kind, more_parts, one_step, seq, weaken, push_to, still, fetch_to, load_to, less_holds, store_to, drops_to, cut_front, added_offset}
use Rattle.rewrite_bodies.proofs.Passing.{loosened, as_open, kept_all, open_marked, stored_unless, types_unless, arrived, kept_unless, has_unless}
use Rattle.rewrite_bodies.proofs.Parts.{put_keeps, cut_all, fits_kind, fits_offset, settle, step_plain}
use Rattle.rewrite_bodies.specs.calls.Guards.{less_word, helper, entry_label, says, first_table, measure, renew_both}
use Rattle.rewrite_bodies.specs.calls.Telling.{tell_labels, tell_locals, tell_frame, tell_ops}
use Rattle.std.proofs.lemmas.List.{map-append}
use Rattle.rewrite_bodies.specs.calls.Standing.{Linked, Speaks, HelperLinked, Stands}
use Rattle.rewrite_bodies.proofs.Sim.{refit, refit_under, room_height, grown-append, grown_fits, len_of, flag_len, shell, tgt, wit, wit_under, armed, if_zero_to, grown_longer}
use Rattle.rewrite_bodies.proofs.Control.{flag_down, both_to}
use Rattle.rewrite_bodies.proofs.Told.{remeasured, types_told, has_told, any_length, open_told, reload_told}
use Rattle.rewrite_bodies.proofs.Measures.{measure_to, renew_both_to}
use Rattle.rewrite_bodies.proofs.Unwind.{frame_out, Hands, hand_to, hand_left_to, Up, up_all, renamed, AllIn, landed_out}
use Rattle.wasm_syntax.specs.declared.host.Write.{Write}
use Rattle.wasm_laws.proofs.Progress.{types_append, zero_types, same_of}
use Rattle.wasm_syntax.proofs.Types.{same_type_is, same_types_are, same_functype_refl}
use Rattle.rewrite_bodies.proofs.Laid.{few_landings, room_landed, into_function}
use Rattle.rewrite_bodies.specs.calls.Landings.{number_of, landing_behind, landings_from, with_landings, landed, part_of}
use Rattle.rewrite_bodies.proofs.Landed.{exit_branch, marked, types_marked}
use Rattle.rewrite_bodies.specs.inner.Promises.{Comes}
use Rattle.rewrite_bodies.specs.calls.Facts.{exposed_in}
use Rattle.rewrite_bodies.proofs.Longer.{least_longer, put_fits, writes_longer}
use Rattle.rewrite_bodies.specs.calls.Known.{HasLeast, nodes_of}
use Rattle.rewrite_bodies.specs.calls.Derived.{derived_for, derived_at, DerivedCallers}
use Rattle.rewrite_bodies.proofs.DerivedLaws.{derived_few}
use Rattle.rewrite_bodies.proofs.WorkedOut.{Ready}

-- the locals of a function that is called on these arguments
pub types-locals : (args : List Value) (ps ls : List ValType) → types args ≡ ps → types (args ++ zeros ls) ≡ ps ++ ls
types-locals args ps ls e = types_append args (zeros ls) ∙ ap₂ (λ a b. a ++ b) e (zero_types ls)

pub new_locals : (args : List Value) (new old more : List ValType) → new ≡ old ++ more → args ++ zeros new ≡ (args ++ zeros old) ++ zeros more
new_locals args new old more e = ap (λ z. args ++ zeros z) e ∙ ap (λ z. args ++ z) (map-append zero_of old more) ∙ sym (append_assoc args (zeros old) (zeros more))

pub holds_len : (C : Ctx) (l ex : List Value) (js es : List Place) (ops : List Value) → Holds C l ex js ops es → length ops ≡ length es
holds_len C l ex js [] [] h = refl
holds_len C l ex js (e ∷ es) [] h = absurd h
holds_len C l ex js [] (v ∷ ops) h = absurd h
holds_len C l ex js (e ∷ es) (v ∷ ops) h = ap suc (holds_len C l ex js es ops h.1)

-- what is taken, and all of them
cut_count : (m : ℕ) (ops vs below : List Value) → cut m ops ≡ parts vs below → length vs ≡ m
cut_count zero ops vs below e = let f : vs ≡ [] = cc in rw f refl
cut_count (suc m) [] vs below e = absurd (cc)
cut_count (suc m) (v ∷ ops) vs below e = let r = more_parts v (cut m ops) vs below e in rw r.2 (ap suc (cut_count m ops r.0 below r.1))

cut_whole : (m : ℕ) (ops vs below : List Value) → cut m ops ≡ parts vs below → ops ≡ vs ++ below
cut_whole zero ops vs below e = let f : vs ≡ [] = cc in rw f (cc)
cut_whole (suc m) [] vs below e = absurd (cc)
cut_whole (suc m) (v ∷ ops) vs below e = let r = more_parts v (cut m ops) vs below e in rw r.2 (ap (λ (z : List Value). v ∷ z) (cut_whole m ops r.0 below r.1))

pub cut_len : (m : ℕ) (ops vs below : List Value) → cut m ops ≡ parts vs below → m ≤ length ops
cut_len zero ops vs below e = omega arith
cut_len (suc m) [] vs below e = absurd (cc)
cut_len (suc m) (v ∷ ops) vs below e = let r = more_parts v (cut m ops) vs below e in omega (arith, cut_len m ops r.0 below r.1)

-- ---- the index of an entry is moved

pub past_to : (M' : Engine) (C : Ctx) (X : Shell) (tl : List Value) (n : ℕ) (vs : List Value) (k : Nodes) (g : World) (co : List CollectorCall) (q : Bool) → (q ≡ true → n + table_min C.source.tables < 65537) → To M' 0 2 (st X tl (values.I32 n ∷ vs) (past_shown q C k) g co) (st X tl (values.I32 (past q C.source n) ∷ vs) k g co)
unfolding int_binary
past_to M' C X tl n vs k g co false low = weaken M' (still M' _) (omega arith) (omega arith)
past_to M' C X tl n vs k g co true low =
    let size = table_min C.source.tables in
    let sum : modulo I32 (n + size) ≡ n + size = (let lt = low refl in mod-eq_of_lt (omega (arith, lt))) in
    let added_ : To M' 1 1 (st X tl (values.I32 size ∷ values.I32 n ∷ vs) (basic 0 (Binary I32 Add) k) g co) (st X tl (values.I32 (n + size) ∷ vs) k g co) = subst (λ z. To M' 1 1 (st X tl (values.I32 size ∷ values.I32 n ∷ vs) (basic 0 (Binary I32 Add) k) g co) (st X tl (values.I32 z ∷ vs) k g co)) sum (one_step M' _ _ refl) in
    weaken M' (seq M' (push_to M' (values.I32 size)) added_) (omega arith) (omega arith)

-- ---- what a host function does, in the two worlds

module _ (M : Engine) (gl : List ValType) (r : Option ValType) (b : Value) where
  abbrev pub AnswerRel : Answer → Answer → Type 0
  AnswerRel (replied w v) A' = (A' ≡ replied (flagged M w b) v) × WorldFits M gl w × (exactly r (option_to_list v) ≡ Some (option_to_list v))
  AnswerRel (told k) A' = ⊥
  AnswerRel silent A' = A' ≡ silent
  AnswerRel (misfit reply) A' = A' ≡ misfit reply

fits_result : (r : Option ValType) (v : Option Value) → fits_type r v ≡ true → exactly r (option_to_list v) ≡ Some (option_to_list v)
fits_result None None e = refl
fits_result None (Some v) e = absurd (cc)
fits_result (Some t) None e = absurd (cc)
fits_result (Some t) (Some v) e = rw (same_of (type_of v) t (sym (same_type_is t (type_of v) e))) refl

writes_keep : (k : Option Memory) (ws : List Write) (k' : Option Memory) → after_writes k ws ≡ Some k' → MemoryFits k → MemoryFits k'
writes_keep k [] k' e h = let z : k ≡ k' = cc in subst MemoryFits z h
writes_keep None (w ∷ ws) k' e h = absurd (cc)
writes_keep (Some m) (w ∷ ws) k' e h = by_put (memories.put m w.at w.bytes) refl e (λ m'. writes_keep (Some m') ws k')
  where
    by_put : (o : Option Memory) → memories.put m w.at w.bytes ≡ o → option_then o (λ m'. after_writes (Some m') ws) ≡ Some k' → ((m' : Memory) → after_writes (Some m') ws ≡ Some k' → MemoryFits (Some m') → MemoryFits k') → MemoryFits k'
    by_put None p e ih = absurd (cc)
    by_put (Some m') p e ih = ih m' e (put_keeps m m' w.at w.bytes p h)

-- its length stays
writes_stay : (k : Option Memory) (ws : List Write) (k' : Option Memory) → after_writes k ws ≡ Some k' → byte_count k' ≡ byte_count k
writes_stay k [] k' e = let z : k ≡ k' = cc in ap byte_count (sym z)
writes_stay None (w ∷ ws) k' e = absurd (cc)
writes_stay (Some m) (w ∷ ws) k' e = by_put (memories.put m w.at w.bytes) refl e (λ m'. writes_stay (Some m') ws k')
  where
    by_put : (o : Option Memory) → memories.put m w.at w.bytes ≡ o → option_then o (λ m'. after_writes (Some m') ws) ≡ Some k' → ((m' : Memory) → after_writes (Some m') ws ≡ Some k' → byte_count k' ≡ length m'.bytes) → byte_count k' ≡ length m.bytes
    by_put None p e ih = absurd (cc)
    by_put (Some m') p e ih = ih m' e ∙ (put_fits m m' w.at w.bytes (nat_le (w.at + length w.bytes) (length m.bytes)) refl p).0

module _ (M : Engine) (gl : List ValType) (b : Value) (call : HostCall) (w : World) (wf : WorldFits M gl w) where
  written_rel : (reply : Reply) (left : List Reply) (o : Option (Option Memory)) → fits_type call.result reply.value ≡ true → after_writes w.memory reply.writes ≡ o → AnswerRel M gl call.result b (if_written call reply left w o) (if_written call reply left (flagged M w b) o)
  written_rel reply left None ft e = refl
  written_rel reply left (Some k) ft e = (
    ap (λ (n : ℕ). replied (record { globals = w.globals ++ b ∷ values.I64 (less_word n) ∷ []; memory = k; table = (flagged M w b).table; replies = left; served = record { call = call; reply = reply } ∷ w.served }) reply.value) (sym (writes_stay w.memory reply.writes k e)),
    record { globals = wf.globals; memory = writes_keep w.memory reply.writes k e wf.memory; least = least_longer M.program.module_.memories w.memory k (writes_longer w.memory reply.writes k e) wf.least; table = wf.table },
    fits_result call.result reply.value ft,
  )

  fits_rel : (reply : Reply) (left : List Reply) (q : Bool) → fits_type call.result reply.value ≡ q → AnswerRel M gl call.result b (if_fits call reply left w q) (if_fits call reply left (flagged M w b) q)
  fits_rel reply left false ft = refl
  fits_rel reply left true ft = written_rel reply left (after_writes w.memory reply.writes) ft refl

  pub served_rel : (rs : List Reply) → AnswerRel M gl call.result b (served_by call w rs) (served_by call (flagged M w b) rs)
  served_rel [] = refl
  served_rel (reply ∷ left) = fits_rel reply left (fits_type call.result reply.value) refl

module _ (M M' : Engine) (E : ℕ) (gl : List ValType) (W : Wrap) (S : Stands M M' E gl) where
  pub length-frames : (r : Option ValType) (Fs : List Frame) (ws : List Wit) → FitsFrames M E gl W.result r Fs ws → length (t_frames W r Fs ws) ≡ suc (length Fs)
  length-frames r [] [] h = refl
  length-frames r [] (_ ∷ _) h = absurd h
  length-frames r (F ∷ Fs) [] h = absurd h
  length-frames r (F ∷ Fs) (w ∷ ws) h = ap suc (length-frames F.result Fs ws h.1)

  deep : (a b : ℕ) → nat_lt a b ≡ true → nat_lt (suc a) (suc (suc b)) ≡ true
  deep a b e = lt-ltb (suc a) (suc (suc b)) (omega (arith, ltb-true a b e))

  module _ (C : Ctx) (ex : List Value) (e : List Place) (ss : List (List Place)) (ws : List Wit) (ix cl : ℕ) (r : Option ValType) (l ops : List Value) (en : ℕ) (kd : Kind) (Ls : List Label) (Fs : List Frame) (g : World) (co : List CollectorCall) (N : Nodes) (f : FitsFrame M E gl (running g) (frame ix r cl l (label ops N en kd ∷ Ls)) (wit C ex (e ∷ ss))) (fs : FitsFrames M E gl W.result r Fs ws) (wf : WorldFits M gl g) where
    abbrev FF : Frame
    FF = frame ix r cl l (label ops N en kd ∷ Ls)

    abbrev LL : Label
    LL = label ops N en kd

    abbrev es : List Place
    es = e ++ joined ss

    abbrev ls : ℕ
    ls = suc (length Ls)

    abbrev X : Shell
    X = shell W C r kd Ls ss Fs ws

    abbrev g0 : World
    g0 = flagged M g (values.I32 0)

    abbrev o : ℕ
    o = offset_in N en

    gt : types g.globals ≡ global_types C.source
    gt = wf.globals ∙ sym f.flag

    sp : Speaks M' C.source
    sp = subst (Speaks M') (sym f.funcs) S.speaks

    size : length C.locals ≡ length l
    size = len_of l C.locals f.size

    -- where all operands are kept
    all_fit : spare C N ≡ 0 → FitsLabels C l ex None (LL ∷ Ls) (e ∷ ss)
    all_fit p = kept_all C l ex (told_length g.memory) LL Ls e ss p f.labels

    -- a verdict is a trap, and this code hands over the operands of this frame: it hands over its values, and then the others do
    trap_out : spare C N ≡ 0 → Ready C l → DerivedCallers M.program Fs → (t : Config) (j : ℕ) (k : Nodes) (s ex1 : List Value) (H : Nodes) → types ex1 ≡ added C.slots → slice_get ex1 (kind_at C) ≡ Some (values.I32 (suc j)) → Hands M' C sp M l (leaves None) (armed X k s).below X.frames g 0 co (ls + length C.landings) H (LL ∷ Ls) (slice_set ex1 (offset_at C) (values.I32 o)) → To M' 1 (C.slots + 40) t (st (armed X k s) (l ++ ex1) [] (const (values.I32 o) (set C (offset_at C) H)) g0 co) → Comes M M' E gl W t (traps (suc j) (config (FF ∷ Fs) g co))
    trap_out p rd ds t j k s ex1 H room kd hands pre =
        let X1 = armed X k s in
        let v3 = frame_out M' C sp M l f.size rd ex1 (LL ∷ Ls) (ls + length C.landings) X1.kind X1.below X1.frames g 0 co o (suc j) H room kd gt (exit_branch C l ex None s k LL Ls e ss (all_fit p)) hands in
        let all : Gets M' 1 E t (deliver M' (zero_vs C.result) X.frames (flagged M g (values.I32 1)) (collector_calls.Frame (suc j) C.index o (length C.locals) ∷ tell_locals l (tell_labels (LL ∷ Ls) co))) = weaken M' (seq M' pre v3) (omega arith) (omega (arith, f.small)) in
        let up : Up M M' E gl W S.speaks t 1 E r Fs ws g (tell_frame (suc j) o FF co) = renamed M M' E gl W S.speaks t 1 E C.result r C.index ix (length C.locals) (length l) o (suc j) X.frames g (tell_locals l (tell_labels (LL ∷ Ls) co)) f.result f.idx size all in
        inr (wf, weaken M' (up_all M M' E gl W S.speaks Fs ws g (tell_frame (suc j) o FF co) t 1 E r fs ds wf up) (omega arith) (omega arith))

    -- the kind that a guard gave, inside its arm
    pub trap_from : spare C N ≡ 0 → Ready C l → DerivedCallers M.program Fs → (t : Config) (j : ℕ) (k : Nodes) → To M' 1 30 t (st (armed X k ops) (l ++ ex) (values.I32 (suc j) ∷ []) (unwind_kind C ls es o) g0 co) → Comes M M' E gl W t (traps (suc j) (config (FF ∷ Fs) g co))
    trap_from p rd ds t j k pre =
        let h = all_fit p in
        let at : slice_get (types ex) (kind_at C) ≡ Some I32 = rw f.room (added_kind C.slots) in
        let v = values.I32 (suc j) in
        let ex1 = slice_set ex (kind_at C) v in
        let low = room_height C es N h.2 in
        let v1 : To M' 1 1 (st (armed X k ops) (l ++ ex) (v ∷ []) (unwind_kind C ls es o) g0 co) (st (armed X k ops) (l ++ ex1) [] (unwind C ls es o) g0 co) = added_set M' C l size ex (kind_at C) I32 v at refl in
        let h1 = fits_kind C l ex None (LL ∷ Ls) (e ∷ ss) v (omega (arith, low)) h in
        let h2 = fits_offset C l ex1 None (LL ∷ Ls) (e ∷ ss) (values.I32 o) (omega (arith, low)) h1 in
        let X1 = armed X k ops in
        let hands : Hands M' C sp M l X1.kind X1.below X1.frames g 0 co (ls + length C.landings) (hand C es (to_exit C ls)) (LL ∷ Ls) (slice_set ex1 (offset_at C) (values.I32 o)) = weaken M' (hand_to M' C sp l size (slice_set ex1 (offset_at C) (values.I32 o)) None (LL ∷ Ls) (e ∷ ss) (to_exit C ls) h2) (omega arith) (omega (arith, low)) in
        trap_out p rd ds t j k ops ex1 (hand C es (to_exit C ls)) (types-slice_set ex (kind_at C) I32 v at refl ∙ f.room) (slice_get-put_same ex (kind_at C) I32 v at) hands (weaken M' (seq M' pre v1) (omega arith) (omega arith))

    -- or the frame is left for a landing, the topmost operands along with the branch
    pub trap_landed : spare C N ≡ 0 → Ready C l → DerivedCallers M.program Fs → (t : Config) (j : ℕ) (k : Nodes) (x : Landing) (n : ℕ) (vs others : List Value) → number_of x C.landings ≡ Some n → x.kind ≡ suc j → top x.carried ops ≡ Some vs → ((ex2 : List Value) → FitsLabels C l ex2 None (LL ∷ Ls) (e ∷ ss) → AllIn C l ex2 others x.places) → length x.places ≤ C.slots → tell_ops (vs ++ others) co ≡ tell_labels (LL ∷ Ls) co → To M' 1 30 t (st X (l ++ slice_set ex (offset_at C) (values.I32 o)) (values.I32 1 ∷ ops) (jump 0 (BrIf (ls + n)) k) g0 co) → Comes M M' E gl W t (traps (suc j) (config (FF ∷ Fs) g co))
    trap_landed p rd ds t j k x n vs others is kind top_is places few told_ pre =
        let low = room_height C es N f.labels.2 in
        let at : slice_get (types ex) (offset_at C) ≡ Some I32 = rw f.room (added_offset C.slots) in
        let exm = slice_set ex (offset_at C) (values.I32 o) in
        let roomm : types exm ≡ added C.slots = types-slice_set ex (offset_at C) I32 (values.I32 o) at refl ∙ f.room in
        let hm = fits_offset C l ex None (LL ∷ Ls) (e ∷ ss) (values.I32 o) (omega (arith, low)) (all_fit p) in
        let hk = fits_kind C l exm None (LL ∷ Ls) (e ∷ ss) (values.I32 x.kind) (omega (arith, low)) hm in
        let out = landed_out M' C sp M l f.size rd exm LL Ls e ss x n X.frames g 0 co o 0 ops vs others k None hm roomm (slice_get-put_same ex (offset_at C) I32 (values.I32 o) at) gt is top_is (places (slice_set exm (kind_at C) (values.I32 x.kind)) hk) few in
        let all_ : Gets M' 1 E t (deliver M' (zero_vs C.result) X.frames (flagged M g (values.I32 1)) (collector_calls.Frame x.kind C.index o (length C.locals) ∷ tell_locals l (tell_ops (vs ++ others) co))) = weaken M' (seq M' pre out) (omega arith) (omega (arith, f.small)) in
        let all : Gets M' 1 E t (deliver M' (zero_vs C.result) X.frames (flagged M g (values.I32 1)) (collector_calls.Frame (suc j) C.index o (length C.locals) ∷ tell_locals l (tell_labels (LL ∷ Ls) co))) = rw (kind, told_) at all_ in
        let up : Up M M' E gl W S.speaks t 1 E r Fs ws g (tell_frame (suc j) o FF co) = renamed M M' E gl W S.speaks t 1 E C.result r C.index ix (length C.locals) (length l) o (suc j) X.frames g (tell_locals l (tell_labels (LL ∷ Ls) co)) f.result f.idx size all in
        inr (wf, weaken M' (up_all M M' E gl W S.speaks Fs ws g (tell_frame (suc j) o FF co) t 1 E r fs ds wf up) (omega arith) (omega arith))

    -- a function is called, from a state of the target that is about to call it: directly, or through the table inside an arm
    module _ (ex1 : List Value) (below : List Value) (e' : List Place) (rest : Nodes) (fn : Function) (vs : List Value) (dq : Bool) (others : Option UnderWay) where
      abbrev r1 : Option ValType
      r1 = result_of (function_type fn)

      abbrev es1 : List Place
      es1 = e' ++ joined ss

      abbrev goes_on : Nodes
      goes_on = rewrite C ls (grown r1 es1) rest

      -- what lies under the arguments where the call is made
      abbrev lies_under : Option UnderWay → List Value
      lies_under None = below
      lies_under (Some u) = []

      abbrev k1_of : Bool → Option UnderWay → Nodes
      k1_of q None = after_direct q C ls r1 es1 o (passes C rest) (λ es'. rewrite C ls es' rest)
      k1_of q (Some u) = store C r1 es1 stop

      abbrev Y_of : Option UnderWay → Shell
      Y_of None = X
      Y_of (Some u) = armed X (test_both C ls es1 o u.others (drops (length u.taken) (renew_both C (reload C r1 es1 goes_on)))) (u.taken ++ below)

      abbrev k1 : Nodes
      k1 = k1_of dq others

      abbrev Y : Shell
      Y = Y_of others

      abbrev Calling : ℕ → List Value → List Value → Nodes → Stepped
      Calling g' args stk nd = calls M' (function_at M'.program (mapped M.program.module_ g')) (mapped M.program.module_ g') args 0 k1 (frame Y.idx Y.result 0 (l ++ ex1) (label stk nd 0 Y.kind ∷ Y.below)) (label stk nd 0 Y.kind) Y.below Y.frames g0 co

      abbrev Below : Type 0
      Below = FitsLabels C l ex1 r1 (label below rest en kd ∷ Ls) (e' ∷ ss)

      -- its results pass to what is behind a direct call
      abbrev pass_of : Option UnderWay → Bool
      pass_of None = passes C rest
      pass_of (Some u) = false

      -- the added locals when it has given its results
      abbrev after_of : Option UnderWay → List Value → List Value
      after_of u vs' = stored_unless (pass_of u) r1 (λ t. slot C.slots t (length es1)) vs' ex1

      -- and behind the test of the flag, where there is one
      abbrev marks : Bool → Option UnderWay → List Value → List Value
      marks false None ex2 = marked (number_of (landing_behind (part_of C.locals o) es1) C.landings) C o ex2
      marks true None ex2 = ex2
      marks q (Some u) ex2 = ex2

      types_marks : (q : Bool) (u : Option UnderWay) (ex2 : List Value) → types ex2 ≡ added C.slots → types (marks q u ex2) ≡ types ex2
      types_marks false None ex2 room = types_marked (number_of (landing_behind (part_of C.locals o) es1) C.landings) C o ex2 room
      types_marks true None ex2 room = refl
      types_marks false (Some u) ex2 room = refl
      types_marks true (Some u) ex2 room = refl

      fits_marks : (q : Bool) (u : Option UnderWay) (ex2 : List Value) (n : ℕ) (L' : Label) (Ls' : List Label) (e2 : List Place) (ss' : List (List Place)) → length (e2 ++ joined ss') ≤ C.slots → FitsOpen C l ex2 (Runs n) (L' ∷ Ls') (e2 ∷ ss') → FitsOpen C l (marks q u ex2) (Runs n) (L' ∷ Ls') (e2 ∷ ss')
      fits_marks false None ex2 n L' Ls' e2 ss' low h = open_marked (number_of (landing_behind (part_of C.locals o) es1) C.landings) C o l ex2 n L' Ls' e2 ss' low h
      fits_marks true None ex2 n L' Ls' e2 ss' low h = h
      fits_marks false (Some u) ex2 n L' Ls' e2 ss' low h = h
      fits_marks true (Some u) ex2 n L' Ls' e2 ss' low h = h

      -- what is there when they are kept, or pass
      settled : (u : Option UnderWay) (vs' : List Value) (n : ℕ) → types ex1 ≡ added C.slots → exactly r1 vs' ≡ Some vs' → HasLength C ex1 n → Below → FitsOpen C l (after_of u vs') (Runs n) (label (vs' ++ below) rest en kd ∷ Ls) (grown r1 e' ∷ ss)
      settled None vs' n room x has hb = arrived (passes C rest) C l ex1 n r1 (label below rest en kd) Ls e' ss vs' refl room x has hb
      settled (Some u) vs' n room x has hb =
          as_open C l (after_of (Some u) vs') n (label (vs' ++ below) rest en kd) Ls (grown r1 e') ss (has_unless false C ex1 n r1 es1 vs' hb.1 has) (settle C l ex1 r1 (label below rest en kd) Ls e' ss vs' room x hb)

      -- where the target stands when the function has given its results
      come_back : (g' : World) (vs' : List Value) (t : Config) → types ex1 ≡ types ex → NoKind C ex1 others → Below → WorldFits M gl g' → exactly r1 vs' ≡ Some vs' → (q : ℕ) → q ≤ 2 * C.slots + 40 → To M' 1 q t (st Y (l ++ ex1) (vs' ++ lies_under others) k1 (flagged M g' (values.I32 0)) co) → Comes M M' E gl W t (next (config (frame ix r cl l (label (vs' ++ below) rest en kd ∷ Ls) ∷ Fs) g' co))
      unfolding int_binary
      come_back g' vs' t same nk hb wf' x q le pre =
          let room1 = same ∙ f.room in
          let pl = grown_fits C r1 es1 ex1 room1 hb.1 in
          let m = any_length C ex1 room1 in
          let here = label (vs' ++ below) rest en kd in
          let hs = settled others vs' m.0 room1 x m.1 hb in
          let g1 = flagged M g' (values.I32 0) in
          let ts = types_unless (pass_of others) r1 (λ t. slot C.slots t (length es1)) vs' ex1 pl x ∙ same in
          let ex2 = marks dq others (after_of others vs') in
          let tm = types_marks dq others (after_of others vs') (ts ∙ f.room) ∙ ts in
          let lowg = room_height C (grown r1 e' ++ joined ss) rest hs.2 in
          let hm = fits_marks dq others (after_of others vs') m.0 here Ls (grown r1 e') ss lowg hs in
          let ex3 = remeasured (measured C) C (told_length g'.memory) ex2 in
          let h3 = open_told C l ex2 m.0 (told_length g'.memory) here Ls (grown r1 e') ss (tm ∙ f.room) lowg hm in
          let go : To M' 1 (3 * C.slots + 62) t (st X (l ++ ex3) (vs' ++ below) goes_on g1 co) = weaken M' (seq M' pre (behind others nk dq)) (omega arith) (omega (arith, le)) in (
            wit C ex3 (grown r1 e' ∷ ss) ∷ ws,
            (wf', (refit l (here ∷ Ls) ex3 (grown r1 e' ∷ ss) (running g') cl f refl (types_told (measured C) C (told_length g'.memory) ex2 (tm ∙ f.room) ∙ tm) h3, fs)),
            rw (← grown-append r1 e' (joined ss)) (weaken M' go (omega arith) (omega (arith, f.small))),
          )
        where
          low : length es1 ≤ C.slots
          low = omega (arith, grown_longer r1 es1, room_height C (grown r1 es1) rest hb.2)

          fl' : flag_of C.source ≡ length g'.globals
          fl' = flag_len C g' (wf'.globals ∙ sym f.flag)

          least' : HasLeast C.source.memories g'.memory
          least' = subst (λ z. HasLeast z.memories g'.memory) (sym f.funcs) wf'.least

          n' : ℕ
          n' = told_length g'.memory

          room_of : (u : Option UnderWay) → types (after_of u vs') ≡ added C.slots
          room_of u = types_unless (pass_of u) r1 (λ t. slot C.slots t (length es1)) vs' ex1 (grown_fits C r1 es1 ex1 (same ∙ f.room) hb.1) x ∙ same ∙ f.room

          -- behind a direct call
          kept_here : (k : Nodes) → To M' 0 1 (st X (l ++ ex1) (vs' ++ below) (keep (passes C rest) C (option_map Spilled r1) es1 k) (flagged M g' (values.I32 0)) co) (st X (l ++ after_of None vs') (vs' ++ below) k (flagged M g' (values.I32 0)) co)
          kept_here k = kept_unless M' C l size (passes C rest) ex1 r1 es1 vs' below k (grown_fits C r1 es1 ex1 (same ∙ f.room) hb.1) x

          through : (u : UnderWay) → NoKind C ex1 (Some u) → To M' 0 (C.slots + 20) (st (Y_of (Some u)) (l ++ ex1) (vs' ++ []) (store C r1 es1 stop) (flagged M g' (values.I32 0)) co) (st X (l ++ remeasured (measured C) C n' (after_of (Some u) vs')) (vs' ++ below) goes_on (flagged M g' (values.I32 0)) co)
          through u nk =
              let kd0 : slice_get (after_of (Some u) vs') (kind_at C) ≡ Some (values.I32 0) = stored_other r1 (λ t. slot C.slots t (length es1)) vs' ex1 (kind_at C) (λ t. kind_no_slot C (length es1) t low) ∙ nk.0 in
              let back = reload C r1 es1 goes_on in
              let kn = renew_both C back in
              let kr = drops (length u.taken) kn in
              let K = test_both C ls es1 o u.others kr in
              let g1 = flagged M g' (values.I32 0) in
              let all_ = u.taken ++ below in
              let pl = grown_fits C r1 es1 ex1 (same ∙ f.room) hb.1 in
              let s1 : To M' 0 1 (st (armed X K all_) (l ++ ex1) vs' (store C r1 es1 stop) g1 co) (st (armed X K all_) (l ++ (after_of (Some u) vs')) [] stop g1 co) = store_to M' C l size ex1 r1 es1 vs' stop pl x in
              let s2 : To M' 1 1 (st (armed X K all_) (l ++ (after_of (Some u) vs')) [] stop g1 co) (st X (l ++ (after_of (Some u) vs')) all_ K g1 co) = one_step M' _ _ refl in
              let s3 = both_to M M' E gl W C X l (after_of (Some u) vs') all_ g' co ls es1 o u.others kr 0 0 0 size kd0 fl' refl in
              let s4 : To M' (length u.taken) (length u.taken) (st X (l ++ (after_of (Some u) vs')) all_ kr g1 co) (st X (l ++ (after_of (Some u) vs')) below kn g1 co) = drops_to M' (length u.taken) all_ u.taken below kn (cut_front u.taken below) in
              let exn = remeasured (measured C) C n' (after_of (Some u) vs') in
              let s4b : To M' 0 9 (st X (l ++ (after_of (Some u) vs')) below kn g1 co) (st X (l ++ exn) below back g1 co) = renew_both_to M' M C X l (after_of (Some u) vs') below back g' co (values.I32 0) size (room_of (Some u)) fl' least' wf'.memory in
              let s5 : To M' 0 1 (st X (l ++ exn) below back g1 co) (st X (l ++ exn) (vs' ++ below) goes_on g1 co) = reload_told M' C l size (measured C) n' ex1 r1 es1 vs' below goes_on hb.1 pl x in
              let alone : vs' ++ [] ≡ vs' = append-nil vs' in
              rw alone (weaken M' (seq M' s1 (seq M' s2 (seq M' s3 (seq M' (if_zero_to M') (seq M' s4 (seq M' s4b s5)))))) (omega arith) (omega (arith, nk.1)))

          behind : (under : Option UnderWay) → NoKind C ex1 under → (q : Bool) → To M' 0 (C.slots + 20) (st (Y_of under) (l ++ ex1) (vs' ++ lies_under under) (k1_of q under) (flagged M g' (values.I32 0)) co) (st X (l ++ remeasured (measured C) C n' (marks q under (after_of under vs'))) (vs' ++ below) goes_on (flagged M g' (values.I32 0)) co)
          behind None nk true =
              let s1 = renew_both_to M' M C X l (after_of None vs') (vs' ++ below) goes_on g' co (values.I32 0) size (room_of None) fl' least' wf'.memory in
              weaken M' (seq M' (kept_here (renew_both C goes_on)) s1) (omega arith) (omega arith)
          behind None nk false =
              let ex2 = marks false None (after_of None vs') in
              let km = measure (measured C) C goes_on in
              let s1 = flag_down M M' E gl W C X l (after_of None vs') (vs' ++ below) g' co ls es1 o km size (room_of None) fl' in
              let s2 = measure_to M' M C X l ex2 (vs' ++ below) goes_on g' co (values.I32 0) size (types_marks false None (after_of None vs') (room_of None) ∙ room_of None) fl' (measured C) in
              weaken M' (seq M' (kept_here (test_flag C ls es1 o km)) (seq M' s1 s2)) (omega arith) (omega arith)
          behind (Some u) nk false = through u nk
          behind (Some u) nk true = through u nk

    abbrev DirectFits : Function → Bool → Option UnderWay → Type 0
    DirectFits (imported i type) dq others = Unit {0}
    DirectFits (defined b tree type) dq None = dq ≡ false
    DirectFits (defined b tree type) dq (Some u) = Unit {0}

    -- the frames under a call of a defined function
    abbrev stands_under : Shell → List Value → List Value → Nodes → List Frame
    stands_under Z ex1 s k = frame Z.idx Z.result 0 (l ++ ex1) (label s k 0 Z.kind ∷ Z.below) ∷ Z.frames

    frames_under : (ex1 below : List Value) (e' : List Place) (rest : Nodes) (b : Body) (tree : Tree) (type : FuncType) (vs : List Value) (dq : Bool) (others : Option UnderWay) → DirectFits (defined b tree type) dq others → stands_under (Y ex1 below e' rest (defined b tree type) vs dq others) ex1 (lies_under ex1 below e' rest (defined b tree type) vs dq others others) (k1 ex1 below e' rest (defined b tree type) vs dq others) ≡ t_frames W (result_of type) (frame ix r o l (label below rest en kd ∷ Ls) ∷ Fs) (wit_under C ex1 (e' ∷ ss) others ∷ ws)
    frames_under ex1 below e' rest b tree type vs dq None df = rw df refl
    frames_under ex1 below e' rest b tree type vs dq (Some u) df = refl

    frames_same : (ex1 below : List Value) (e' : List Place) (rest : Nodes) (fn : Function) (vs : List Value) (dq : Bool) (others : Option UnderWay) → (Y ex1 below e' rest fn vs dq others).frames ≡ X.frames
    frames_same ex1 below e' rest fn vs dq None = refl
    frames_same ex1 below e' rest fn vs dq (Some u) = refl

    abbrev Y_frame : Shell → List Value → List Value → Nodes → Frame
    Y_frame Z ex1 stk nd = frame Z.idx Z.result 0 (l ++ ex1) (label stk nd 0 Z.kind ∷ Z.below)

    -- a host function has answered
    answered : (ex1 below : List Value) (e' : List Place) (rest : Nodes) (i : Import) (type : FuncType) (vs : List Value) (dq : Bool) (others : Option UnderWay) (call : HostCall) (stk : List Value) (nd : Nodes) (t : Config) (n : ℕ) (A A' : Answer) → types ex1 ≡ types ex → NoKind C ex1 others → Below ex1 below e' rest (imported i type) vs dq others → n ≤ 2 * C.slots + 40 → AnswerRel M gl (result_of type) (values.I32 0) A A' → Gets M' 1 n t (host M' A' call (lies_under ex1 below e' rest (imported i type) vs dq others others) (k1 ex1 below e' rest (imported i type) vs dq others) (Y_frame (Y ex1 below e' rest (imported i type) vs dq others) ex1 stk nd) (label stk nd 0 (Y ex1 below e' rest (imported i type) vs dq others).kind) (Y ex1 below e' rest (imported i type) vs dq others).below (Y ex1 below e' rest (imported i type) vs dq others).frames g0 co) → Comes M M' E gl W t (host M A call below rest FF LL Ls Fs g co)
    answered ex1 below e' rest i type vs dq others call stk nd t n (replied w v) A' same nk hb le h pre =
        come_back ex1 below e' rest (imported i type) vs dq others w (option_to_list v) t same nk hb h.1 h.2 n le (rw h.0 at pre)
    answered ex1 below e' rest i type vs dq others call stk nd t n (told k) A' same nk hb le h pre = absurd h
    answered ex1 below e' rest i type vs dq others call stk nd t n silent A' same nk hb le h pre = (wf, _, refl, refl, weaken M' (rw h at pre) (omega arith) (omega (arith, le, f.small)))
    answered ex1 below e' rest i type vs dq others call stk nd t n (misfit reply) A' same nk hb le h pre = (wf, _, refl, refl, weaken M' (rw h at pre) (omega arith) (omega (arith, le, f.small)))

    -- a defined function begins
    begun : (ex1 below : List Value) (e' : List Place) (rest : Nodes) (b : Body) (tree : Tree) (type : FuncType) (vs : List Value) (dq : Bool) (others : Option UnderWay) (g' : ℕ) (stk : List Value) (nd : Nodes) (t : Config) (n : ℕ) (d : Bool) → function_at M.program g' ≡ Some (defined b tree type) → DirectFits (defined b tree type) dq others → types ex1 ≡ types ex → NoKind C ex1 others → Below ex1 below e' rest (defined b tree type) vs dq others → types (reverse vs) ≡ type.params → n ≤ 2 * C.slots + 40 → nat_lt (suc (length Fs)) M.depth ≡ d
        → ((k : Linked M M' E gl g' b tree type) → let Z = Y ex1 below e' rest (defined b tree type) vs dq others in Gets M' 1 n t (enters M' (nat_lt (suc (length Z.frames)) M'.depth) (entered (mapped M.program.module_ g') k.new (tree_of (body (ctx_of M.program g' b type k.slots) tree.nodes)) type (reverse vs)) (lies_under ex1 below e' rest (defined b tree type) vs dq others others) 0 (k1 ex1 below e' rest (defined b tree type) vs dq others) (Y_frame Z ex1 stk nd) (label stk nd 0 Z.kind) Z.below Z.frames g0 co))
        → Comes M M' E gl W t (enters M d (entered g' b tree type (reverse vs)) below o rest FF LL Ls Fs g co)
    begun ex1 below e' rest b tree type vs dq others g' stk nd t n false at df same nk hb ty le d pre = inl refl
    begun ex1 below e' rest b tree type vs dq others g' stk nd t n true at df same nk hb ty le d pre =
        let k = S.functions g' b tree type at in
        let C0 = ctx_of M.program g' b type k.slots in
        let os = exposed_in M.program.module_.memories tree.nodes in
        let C1 = landed C0 os [] [] in
        let ds = derived_for M.program.module_ g' (type.params ++ declared_locals b.groups) tree.nodes in
        let C' = with_landings C0 tree.nodes in
        let few_ = few_landings C1 [] tree.nodes [] (omega arith) in
        let args = reverse vs in
        let ex' = zeros (added k.slots) in
        let Z = Y ex1 below e' rest (defined b tree type) vs dq others in
        let code = k1 ex1 below e' rest (defined b tree type) vs dq others in
        let few : length Z.frames ≡ suc (length Fs) = ap length (frames_same ex1 below e' rest (defined b tree type) vs dq others) ∙ length-frames r Fs ws fs in
        let depth : nat_lt (suc (length Z.frames)) M'.depth ≡ true = rw (few, S.deeper) (deep (suc (length Fs)) M.depth d) in
        let locals : args ++ zeros (declared_locals k.new.groups) ≡ (args ++ zeros (declared_locals b.groups)) ++ ex' = new_locals args (declared_locals k.new.groups) (declared_locals b.groups) (added k.slots) k.locals in
        let mid = config (frame (mapped M.program.module_ g') (result_of type) 0 ((args ++ zeros (declared_locals b.groups)) ++ ex') (label [] (body C0 tree.nodes) 0 (returns (result_of type)) ∷ []) ∷ stands_under Z ex1 (lies_under ex1 below e' rest (defined b tree type) vs dq others others) code) g0 co in
        let s1 : To M' 1 n t mid = rw (depth, locals) at (pre k) in
        let n = told_length g.memory in
        let exn = remeasured (measured C') C' n ex' in
        let size' : length C'.locals ≡ length (args ++ zeros (declared_locals b.groups)) = len_of (args ++ zeros (declared_locals b.groups)) C'.locals (types-locals args type.params (declared_locals b.groups) ty) in
        let flag' : global_types C'.source ≡ gl = ap global_types (sym f.funcs) ∙ f.flag in
        let s3 : To M' 0 27 mid (config (t_frame now (entered g' b tree type args) (wit C' exn ([] ∷ [])) ∷ stands_under Z ex1 (lies_under ex1 below e' rest (defined b tree type) vs dq others others) code) g0 co) = into_function M' M (mapped M.program.module_ g') (result_of type) (stands_under Z ex1 (lies_under ex1 below e' rest (defined b tree type) vs dq others others) code) g co C' (args ++ zeros (declared_locals b.groups)) ex' tree.nodes size' (zero_types (added k.slots)) (flag_len C' g (wf.globals ∙ sym flag')) few_ in
        let callee : FitsFrame M E gl (running g) (entered g' b tree type args) (wit C' exn ([] ∷ [])) =
        record { size = types-locals args type.params (declared_locals b.groups) ty; room = types_told (measured C') C' n ex' (zero_types (added k.slots)) ∙ zero_types (added k.slots); idx = refl; result = refl; funcs = refl; base = refl; helpers = refl; flag = flag'; small = k.small; exposed = ap (λ q. exposed_in M.program.module_.memories (nodes_of q)) (sym at); derivations = ap (λ q. derived_at M.program.module_ g' q) (sym at); few = derived_few M.program.module_ g' (type.params ++ declared_locals b.groups) tree.nodes; narrow = k.narrow; labels = (loosened C' (spare C' tree.nodes) (args ++ zeros (declared_locals b.groups)) exn [] [] [] tt, has_told C' n ex' (zero_types (added k.slots)), room_landed C0 os (landings_from C1 [] tree.nodes []) ds [] tree.nodes k.room, refl, tt); no_kind = tt } in (
          wit C' exn ([] ∷ []) ∷ wit_under C ex1 (e' ∷ ss) others ∷ ws,
          (wf, (callee, (refit_under l (label below rest en kd ∷ Ls) ex1 (e' ∷ ss) others (Waits (result_of type)) o f refl same hb nk, fs))),
          subst (λ z. To M' 1 E t (config (t_frame now (entered g' b tree type args) (wit C' exn ([] ∷ [])) ∷ z) g0 co)) (frames_under ex1 below e' rest b tree type vs dq others df) (weaken M' (seq M' s1 s3) (omega arith) (omega (arith, le, f.small))),
        )

    pub called : (ex1 below : List Value) (e' : List Place) (rest : Nodes) (fn : Function) (vs : List Value) (dq : Bool) (others : Option UnderWay) (g' : ℕ) (stk : List Value) (nd : Nodes) (t T : Config) (n : ℕ) (q : Bool) (args : List Value) → function_at M.program g' ≡ Some fn → DirectFits fn dq others → cut (length (function_type fn).params) args ≡ parts vs (lies_under ex1 below e' rest fn vs dq others others) → types ex1 ≡ types ex → NoKind C ex1 others → Below ex1 below e' rest fn vs dq others → n ≤ 2 * C.slots + 35 → same_types (types (reverse vs)) (function_type fn).params ≡ q → To M' 0 n t T → step M' T ≡ Calling ex1 below e' rest fn vs dq others g' args stk nd → Comes M M' E gl W t (applied_if M q fn g' (reverse vs) below o rest FF LL Ls Fs g co)
    called ex1 below e' rest fn vs dq others g' stk nd t T n false args at df c same nk hb le ty pre st_ = tt
    called ex1 below e' rest (imported i type) vs dq others g' stk nd t T n true args at df c same nk hb le ty pre st_ =
        let k = S.imports g' i type at in
        let hc = host_call g' i type (reverse vs) in
        let given = reverse vs in
        let m = M'.program.module_ in
        let gm = mapped M.program.module_ g' in
        let Z = Y ex1 below e' rest (imported i type) vs dq others in
        let FT = Y_frame Z ex1 stk nd in
        let kk = k1 ex1 below e' rest (imported i type) vs dq others in
        let e1 : step M' T ≡ host M' (answer M'.collects m (host_call gm i type given) g0) (host_call gm i type given) (lies_under ex1 below e' rest (imported i type) vs dq others others) kk FT (label stk nd 0 Z.kind) Z.below Z.frames g0 co = rw (k.target, c, ty) at st_ in
        let heard : answer M'.collects m (host_call gm i type given) g0 ≡ served_by hc g0 g.replies =
        ap (λ c. answer c m (host_call gm i type given) g0) S.speaks.collects ∙ ap (λ z. answer true m (host_call z i type given) g0) k.same ∙ ap (λ z. told_or z hc g0) (k.unheard given) in
        let e2 = e1 ∙ ap₂ (λ A z. host M' A (host_call z i type given) (lies_under ex1 below e' rest (imported i type) vs dq others others) kk FT (label stk nd 0 Z.kind) Z.below Z.frames g0 co) heard k.same in
        let go : Gets M' 1 (n + 1) t (host M' (served_by hc g0 g.replies) hc (lies_under ex1 below e' rest (imported i type) vs dq others others) kk FT (label stk nd 0 Z.kind) Z.below Z.frames g0 co) = weaken M' (seq M' pre (one_step M' T _ e2)) (omega arith) (omega arith) in
        let quietly : answer M.collects M.program.module_ hc g ≡ served_by hc g g.replies = ap (λ c. answer c M.program.module_ hc g) S.quiet in
        subst (λ A. Comes M M' E gl W t (host M A hc below rest FF LL Ls Fs g co)) (sym quietly) (answered ex1 below e' rest i type vs dq others hc stk nd t (n + 1) (served_by hc g g.replies) (served_by hc g0 g.replies) same nk hb (omega (arith, le)) (served_rel M gl (values.I32 0) hc g wf g.replies) go)
    called ex1 below e' rest (defined b tree type) vs dq others g' stk nd t T n true args at df c same nk hb le ty pre st_ =
        begun ex1 below e' rest b tree type vs dq others g' stk nd t (n + 1) (nat_lt (suc (length Fs)) M.depth) at df same nk hb (same_types_are (types (reverse vs)) type.params ty) (omega (arith, le)) refl
        (λ k. weaken M' (rw (k.target, c, ty) at (seq M' pre (one_step M' T _ st_))) (omega arith) (omega arith))

  -- ---- a direct call

  module _ (C : Ctx) (ex : List Value) (e : List Place) (ss : List (List Place)) (ws : List Wit) (ix cl : ℕ) (r : Option ValType) (l ops : List Value) (en : ℕ) (kd : Kind) (Ls : List Label) (Fs : List Frame) (g : World) (co : List CollectorCall) (at g' : ℕ) (rest : Nodes) (f : FitsFrame M E gl (running g) (frame ix r cl l (label ops (jump at (Call g') rest) en kd ∷ Ls)) (wit C ex (e ∷ ss))) (fs : FitsFrames M E gl W.result r Fs ws) (wf : WorldFits M gl g) where
    abbrev FD : Frame
    FD = frame ix r cl l (label ops (jump at (Call g') rest) en kd ∷ Ls)

    abbrev LD : Label
    LD = label ops (jump at (Call g') rest) en kd

    abbrev esd : List Place
    esd = e ++ joined ss

    abbrev lsd : ℕ
    lsd = suc (length Ls)

    abbrev XD : Shell
    XD = shell W C r kd Ls ss Fs ws

    direct_fits : (fn : Function) → function_at M.program g' ≡ Some fn → DirectFits C ex e ss ws ix cl r l ops en kd Ls Fs g co (jump at (Call g') rest) f fs wf fn (nat_lt g' (import_count M.program.module_)) None
    direct_fits (imported i type) at_ = tt
    direct_fits (defined b tree type) at_ = S.undirect g' b tree type at_

    cut_call : (fn : Function) (u : Cut) → function_at M.program g' ≡ Some fn → cut (length (function_type fn).params) ops ≡ u → FitsIn C (result_of (function_type fn)) (less (length (function_type fn).params) esd) × Room C (grown (result_of (function_type fn)) (less (length (function_type fn).params) esd)) rest → Comes M M' E gl W (st XD (l ++ ex) ops (call (mapped M.program.module_ g') (after_direct (nat_lt g' (import_count M.program.module_)) C lsd (result_of (function_type fn)) (less (length (function_type fn).params) esd) at (passes C rest) (λ es'. rewrite C lsd es' rest))) (flagged M g (values.I32 0)) co) (calls_on M fn g' u at rest FD LD Ls Fs g co)
    cut_call fn short at_ c rm = tt
    cut_call fn (parts vs below) at_ c rm =
        let h = f.labels in
        let m = length (function_type fn).params in
        let r1 = result_of (function_type fn) in
        let lh = less_holds C l ex m (joined ss) e ops vs below h.0 c in
        let e' = lh.0 in
        let dq = nat_lt g' (import_count M.program.module_) in
        let k = after_direct dq C lsd r1 (e' ++ joined ss) at (passes C rest) (λ es'. rewrite C lsd es' rest) in
        let code = call (mapped M.program.module_ g') k in
        let g0 = flagged M g (values.I32 0) in
        let hb : FitsLabels C l ex r1 (label below rest en kd ∷ Ls) (e' ∷ ss) = (lh.2, subst (FitsIn C r1) lh.1 rm.0, subst (λ z. Room C (grown r1 z) rest) lh.1 rm.1, h.3, h.4) in
        let T = st XD (l ++ ex) ops code g0 co in
        rw lh.1 (called C ex e ss ws ix cl r l ops en kd Ls Fs g co (jump at (Call g') rest) f fs wf ex below e' rest fn vs dq None g' ops code T T 0 (same_types (types (reverse vs)) (function_type fn).params) ops at_ (direct_fits fn at_) c refl tt hb (omega arith) refl (still M' T) refl)

    abbrev code_with : FuncType → Module → Nodes
    code_with type m = call (mapped m g') (after_direct (nat_lt g' (import_count m)) C lsd (result_of type) (less (length type.params) esd) at (passes C rest) (λ es'. rewrite C lsd es' rest))

    pub call_node : (q : Option Function) → function_at M.program g' ≡ q → Comes M M' E gl W (tgt M W C ex e ss ws r l ops kd Ls Fs g co (jump at (Call g') rest)) (calls M q g' ops at rest FD LD Ls Fs g co)
    call_node None at_ = tt
    call_node (Some fn) at_ =
        let same : type_at C.source g' ≡ Some (function_type fn) = ap (λ z. type_at z g') f.funcs ∙ S.type_is g' fn at_ in
        let go = λ (es' : List Place). rewrite C lsd es' rest in
        let rm = subst (λ z. Room_call C z esd (λ es'. Room C es' rest)) same f.labels.2.1 in
        subst (λ z. Comes M M' E gl W (st XD (l ++ ex) ops (call_code C lsd esd at g' z (passes C rest) go) (flagged M g (values.I32 0)) co) (calls M (Some fn) g' ops at rest FD LD Ls Fs g co)) (sym same)
        (subst (λ m. Comes M M' E gl W (st XD (l ++ ex) ops (code_with (function_type fn) m) (flagged M g (values.I32 0)) co) (calls M (Some fn) g' ops at rest FD LD Ls Fs g co)) (sym f.funcs)
        (cut_call fn (cut (length (function_type fn).params) ops) at_ refl rm))

pub same_functype-same : (a b : FuncType) → same_functype a b ≡ true → a ≡ b
same_functype-same a b e =
    let h = and_is (same_types a.params b.params) (same_types a.results b.results) e in
    let ps = same_types_are a.params b.params h.0 in let rs = same_types_are a.results b.results h.1 in
    λ i. record { params = ps i; results = rs i }
  where
    and_is : (a b : Bool) → (a && b) ≡ true → (a ≡ true) × (b ≡ true)
    and_is true b e = (refl, e)
    and_is false b e = absurd (cc)

pub pick_map : (f : Option ℕ → ℕ) (xs : List (Option ℕ)) (d n : ℕ) (q : Option (Option ℕ)) → slice_get xs n ≡ q → pick (map f xs) d n ≡ unwrap_or (option_map f q) d
pick_map f [] d n q e = let z : None ≡ q = e in rw (← z) refl
pick_map f (x ∷ xs) d zero q e = rw (← e) refl
pick_map f (x ∷ xs) d (suc n) q e = pick_map f xs d n q e

-- ---- the helper

-- the label of a kind
abbrev Label_kind : ℕ → ℕ → Type 0
Label_kind lbl kind = (lbl ≡ 0) × (kind ≡ 0) ⊎ (lbl ≡ 1) × (kind ≡ 5) ⊎ (lbl ≡ 2) × (kind ≡ 6) ⊎ (lbl ≡ 3) × (kind ≡ 7)

module _ (M M' : Engine) (t : ℕ) (k : HelperLinked M M' t) where
  abbrev index : ℕ
  index = helper_base M.program.module_ + place_in t (helped M.program)

  module _ (X : Shell) (tl s : List Value) (kk : Nodes) (g : World) (co : List CollectorCall) (n : ℕ) where
    abbrev inner : Nodes
    inner = jump 0 (BrTable (map (entry_label M.program.module_ t) (first_table M.program.module_)) 1) stop

    abbrev in_helper : List Label → Config
    in_helper Ls = config (frame index (Some I32) 0 (values.I32 n ∷ []) Ls ∷ frame X.idx X.result 0 tl (label s kk 0 X.kind ∷ X.below) ∷ X.frames) g co

    abbrev at_start : Config
    at_start = in_helper (label [] (helper M.program.module_ t) 0 (returns (Some I32)) ∷ [])

    abbrev at_table : Config
    at_table = in_helper (label (values.I32 n ∷ []) inner 0 (leaves None) ∷ label [] (says 0) 0 (leaves None) ∷ label [] (says 5) 0 (leaves None) ∷ label [] (says 6) 0 (leaves None) ∷ label [] (says 7) 0 (returns (Some I32)) ∷ [])

    starts : nat_lt (suc (length X.frames)) M'.depth ≡ true → To M' 1 1 (st X tl (values.I32 n ∷ s) (call index kk) g co) at_start
    starts d = one_step M' _ _ (rw (k.target, d, k.locals) refl)

    opened : To M' 5 5 at_start at_table
    opened = seq M' (one_step M' _ _ refl) (seq M' (one_step M' _ _ refl) (seq M' (one_step M' _ _ refl) (seq M' (one_step M' _ _ refl) (one_step M' _ _ refl))))

    said : (lbl kind : ℕ) → pick (map (entry_label M.program.module_ t) (first_table M.program.module_)) 1 n ≡ lbl → Label_kind lbl kind → To M' 3 3 at_table (st X tl (values.I32 kind ∷ s) kk g co)
    said lbl kind e (inl x) = rw x.1 (seq M' (one_step M' at_table (next (in_helper (label [] (says 0) 0 (leaves None) ∷ label [] (says 5) 0 (leaves None) ∷ label [] (says 6) 0 (leaves None) ∷ label [] (says 7) 0 (returns (Some I32)) ∷ []))) (rw (e ∙ x.0) refl)) (seq M' (one_step M' _ _ refl) (one_step M' _ _ refl)))
    said lbl kind e (inr (inl x)) = rw x.1 (seq M' (one_step M' at_table (next (in_helper (label [] (says 5) 0 (leaves None) ∷ label [] (says 6) 0 (leaves None) ∷ label [] (says 7) 0 (returns (Some I32)) ∷ []))) (rw (e ∙ x.0) refl)) (seq M' (one_step M' _ _ refl) (one_step M' _ _ refl)))
    said lbl kind e (inr (inr (inl x))) = rw x.1 (seq M' (one_step M' at_table (next (in_helper (label [] (says 6) 0 (leaves None) ∷ label [] (says 7) 0 (returns (Some I32)) ∷ []))) (rw (e ∙ x.0) refl)) (seq M' (one_step M' _ _ refl) (one_step M' _ _ refl)))
    said lbl kind e (inr (inr (inr x))) = rw x.1 (seq M' (one_step M' at_table (next (in_helper (label [] (says 7) 0 (returns (Some I32)) ∷ []))) (rw (e ∙ x.0) refl)) (seq M' (one_step M' _ _ refl) (one_step M' _ _ refl)))

    helper_in : (lbl kind : ℕ) → nat_lt (suc (length X.frames)) M'.depth ≡ true → pick (map (entry_label M.program.module_ t) (first_table M.program.module_)) 1 n ≡ lbl → Label_kind lbl kind → To M' 1 12 (st X tl (values.I32 n ∷ s) (call index kk) g co) (st X tl (values.I32 kind ∷ s) kk g co)
    helper_in lbl kind d e lk = weaken M' (seq M' (starts d) (seq M' opened (said lbl kind e lk))) (omega arith) (omega arith)

-- ---- an indirect call

module _ (M M' : Engine) (E : ℕ) (gl : List ValType) (W : Wrap) (S : Stands M M' E gl) where
  module _ (C : Ctx) (ex : List Value) (e1 : Place) (e : List Place) (ss : List (List Place)) (ws : List Wit) (ix cl : ℕ) (r : Option ValType) (l : List Value) (n : ℕ) (ops : List Value) (en : ℕ) (kd : Kind) (Ls : List Label) (Fs : List Frame) (g : World) (co : List CollectorCall) (at t : ℕ) (rest : Nodes) (f : FitsFrame M E gl (running g) (frame ix r cl l (label (values.I32 n ∷ ops) (jump at (CallIndirect t) rest) en kd ∷ Ls)) (wit C ex ((e1 ∷ e) ∷ ss))) (fs : FitsFrames M E gl W.result r Fs ws) (wf : WorldFits M gl g) (shallow : suc (length Fs) ≤ M.depth) where
    abbrev NI : Nodes
    NI = jump at (CallIndirect t) rest

    abbrev FI : Frame
    FI = frame ix r cl l (label (values.I32 n ∷ ops) NI en kd ∷ Ls)

    abbrev LI : Label
    LI = label (values.I32 n ∷ ops) NI en kd

    abbrev all_i : List Value
    all_i = values.I32 n ∷ ops

    abbrev esi : List Place
    esi = e ++ joined ss

    abbrev lsi : ℕ
    lsi = suc (length Ls)

    abbrev XI : Shell
    XI = shell W C r kd Ls ss Fs ws

    abbrev gi : World
    gi = flagged M g (values.I32 0)

    abbrev exi : List Value
    exi = slice_set ex (kind_at C) (values.I32 0)

    -- the operands left, and the code that hands over the others
    abbrev left_by : FuncType → List Place
    left_by type = less (length type.params) esi

    abbrev others_of : FuncType → Nodes
    others_of type = hand_top C (suc (length type.params)) (e1 ∷ esi) stop

    -- the call, and what is behind it
    abbrev made : FuncType → Nodes
    made type = load C (suc (length type.params)) (e1 ∷ esi) (past_shown (doubles C.source) C (jump 0 (CallIndirect t) (store C (result_of type) (left_by type) stop)))

    abbrev goes_on_i : FuncType → Nodes
    goes_on_i type = rewrite C lsi (grown (result_of type) (left_by type)) rest

    abbrev dropped_i : FuncType → Nodes
    dropped_i type = drops (suc (length type.params)) (renew_both C (reload C (result_of type) (left_by type) (goes_on_i type)))

    abbrev behind_i : FuncType → Nodes
    behind_i type = test_both C lsi (left_by type) at (others_of type) (dropped_i type)

    -- behind the guard
    abbrev weighed : FuncType → Nodes
    weighed type = set C (kind_at C) (get C (kind_at C) (basic 0 (Eqz I32) (if_any (made type) (behind_i type))))

    abbrev guarded_call : FuncType → Nodes
    guarded_call type = fetch C e1 (length esi) (call (helper_of C t) (weighed type))

    size_i : length C.locals ≡ length l
    size_i = len_of l C.locals f.size

    -- the guard's verdict
    judged : (type : FuncType) (q : Option (Option ℕ)) (lbl kind : ℕ) → Has t C.helpers → slice_get (first_table M.program.module_) n ≡ q → unwrap_or (option_map (entry_label M.program.module_ t) q) 1 ≡ lbl → Label_kind lbl kind → To M' 1 13 (st XI (l ++ ex) all_i (guarded_call type) gi co) (st XI (l ++ ex) (values.I32 kind ∷ all_i) (weighed type) gi co)
    judged type q lbl kind has tq le lk =
        let kk = weighed type in
        let h = f.labels in
        let has' = subst (Has t) f.helpers has in
        let s1 : To M' 1 1 (st XI (l ++ ex) all_i (guarded_call type) gi co) (st XI (l ++ ex) (values.I32 n ∷ all_i) (call (helper_of C t) kk) gi co) = fetch_to M' C l size_i ex (length esi) e1 (values.I32 n) h.0.0 in
        let d : nat_lt (suc (length XI.frames)) M'.depth ≡ true = rw (length-frames M M' E gl W S r Fs ws fs, S.deeper) (lt-ltb (suc (suc (length Fs))) (suc (suc M.depth)) (omega (arith, shallow))) in
        let idx : helper_of C t ≡ helper_base M.program.module_ + place_in t (helped M.program) = ap₂ (λ b hs. b + place_in t hs) f.base f.helpers in
        let pk = pick_map (entry_label M.program.module_ t) (first_table M.program.module_) 1 n q tq ∙ le in
        let s2 = subst (λ z. To M' 1 12 (st XI (l ++ ex) (values.I32 n ∷ all_i) (call z kk) gi co) (st XI (l ++ ex) (values.I32 kind ∷ all_i) kk gi co)) (sym idx) (helper_in M M' t (S.helpers t has') XI (l ++ ex) all_i kk gi co n lbl kind d pk lk) in
        weaken M' (seq M' s1 s2) (omega arith) (omega arith)

    -- the verdict is kept and tested
    weighed_to : (type : FuncType) (kind : ℕ) → To M' 3 3 (st XI (l ++ ex) (values.I32 kind ∷ all_i) (weighed type) gi co) (st XI (l ++ slice_set ex (kind_at C) (values.I32 kind)) (values.I32 (bool_number (kind == 0)) ∷ all_i) (if_any (made type) (behind_i type)) gi co)
    weighed_to type kind =
        let v = values.I32 kind in
        let exk = slice_set ex (kind_at C) v in
        let at : slice_get (types ex) (kind_at C) ≡ Some I32 = rw f.room (added_kind C.slots) in
        let k2 = if_any (made type) (behind_i type) in
        let s1 : To M' 1 1 (st XI (l ++ ex) (v ∷ all_i) (weighed type) gi co) (st XI (l ++ exk) all_i (get C (kind_at C) (basic 0 (Eqz I32) k2)) gi co) = added_set M' C l size_i ex (kind_at C) I32 v at refl in
        let s2 : To M' 1 1 (st XI (l ++ exk) all_i (get C (kind_at C) (basic 0 (Eqz I32) k2)) gi co) (st XI (l ++ exk) (v ∷ all_i) (basic 0 (Eqz I32) k2) gi co) = added_get M' C l size_i exk (kind_at C) v (slice_get-put_same ex (kind_at C) I32 v at) in
        let s3 : To M' 1 1 (st XI (l ++ exk) (v ∷ all_i) (basic 0 (Eqz I32) k2) gi co) (st XI (l ++ exk) (values.I32 (bool_number (kind == 0)) ∷ all_i) k2 gi co) = step_plain M' (Eqz I32) (v ∷ []) all_i (l ++ exk) gi (values.I32 (bool_number (kind == 0)) ∷ []) (values.I32 (bool_number (kind == 0)) ∷ all_i) refl refl refl in
        seq M' s1 (seq M' s2 s3)

    -- a kind is tested with the flag down
    kind_stays : (lbl j : ℕ) → Label_kind lbl (suc j) → (bool_number (suc j == 0) ≡ 0) × (binary I32 Or (suc j) 0 ≡ Ok (suc j))
    unfolding int_binary
    kind_stays lbl j (inl x) = absurd (omega (arith, x.1))
    kind_stays lbl j (inr (inl x)) = rw x.1 (refl, refl)
    kind_stays lbl j (inr (inr (inl x))) = rw x.1 (refl, refl)
    kind_stays lbl j (inr (inr (inr x))) = rw x.1 (refl, refl)

    pub entry_trap : Ready C l → DerivedCallers M.program Fs → (type : FuncType) (q : Option (Option ℕ)) (lbl j : ℕ) → Has t C.helpers → slice_get (first_table M.program.module_) n ≡ q → unwrap_or (option_map (entry_label M.program.module_ t) q) 1 ≡ lbl → Label_kind lbl (suc j) → Comes M M' E gl W (st XI (l ++ ex) all_i (guarded_call type) gi co) (traps (suc j) (config (FI ∷ Fs) g co))
    entry_trap rd ds type q lbl j has tq le lk =
        let h = kept_all C l ex (told_length g.memory) LI Ls (e1 ∷ e) ss refl f.labels in
        let v = values.I32 (suc j) in
        let exk = slice_set ex (kind_at C) v in
        let ty : slice_get (types ex) (kind_at C) ≡ Some I32 = rw f.room (added_kind C.slots) in
        let low : length (e1 ∷ esi) ≤ C.slots = room_height C (e1 ∷ esi) NI h.2 in
        let kq : slice_get exk (kind_at C) ≡ Some v = slice_get-put_same ex (kind_at C) I32 v ty in
        let room : types exk ≡ added C.slots = types-slice_set ex (kind_at C) I32 v ty refl ∙ f.room in
        let ks = kind_stays lbl j lk in
        let k = dropped_i type in
        let H = hand_left C lsi (left_by type) (others_of type) in
        let X1 = armed XI k all_i in
        let ex3 = slice_set exk (offset_at C) (values.I32 at) in
        let ne : kind_at C ≢ offset_at C = omega arith in
        let kd3 : slice_get ex3 (kind_at C) ≡ Some v = slice_get-put_other exk (kind_at C) (offset_at C) (values.I32 at) ne ∙ kq in
        let h1 = fits_kind C l ex None (LI ∷ Ls) ((e1 ∷ e) ∷ ss) v (omega (arith, low)) h in
        let h3 = fits_offset C l exk None (LI ∷ Ls) ((e1 ∷ e) ∷ ss) (values.I32 at) (omega (arith, low)) h1 in
        let sp_ = subst (Speaks M') (sym f.funcs) S.speaks in
        let hands : Hands M' C sp_ M l X1.kind X1.below X1.frames g 0 co (lsi + length C.landings) H (LI ∷ Ls) ex3 = weaken M' (hand_left_to M' C sp_ l size_i ex3 None (LI ∷ Ls) ((e1 ∷ e) ∷ ss) lsi (suc (length type.params)) j h3 kd3) (omega arith) (omega (arith, low)) in
        let s0 = judged type q lbl (suc j) has tq le lk in
        let s1 : To M' 3 3 (st XI (l ++ ex) (v ∷ all_i) (weighed type) gi co) (st XI (l ++ exk) (values.I32 0 ∷ all_i) (if_any (made type) (behind_i type)) gi co) = subst (λ z. To M' 3 3 (st XI (l ++ ex) (v ∷ all_i) (weighed type) gi co) (st XI (l ++ exk) (values.I32 z ∷ all_i) (if_any (made type) (behind_i type)) gi co)) ks.0 (weighed_to type (suc j)) in
        let s2 : To M' 2 2 (st XI (l ++ exk) (values.I32 0 ∷ all_i) (if_any (made type) (behind_i type)) gi co) (st XI (l ++ exk) all_i (behind_i type) gi co) = if_zero_to M' in
        let s3 = both_to M M' E gl W C XI l exk all_i g co lsi (left_by type) at (others_of type) k (suc j) 0 (suc j) size_i kq (flag_len C g (wf.globals ∙ sym f.flag)) ks.1 in
        let s4 : To M' 1 1 (st XI (l ++ exk) (v ∷ all_i) (if_any (const (values.I32 at) (set C (offset_at C) H)) k) gi co) (st X1 (l ++ exk) [] (const (values.I32 at) (set C (offset_at C) H)) gi co) = one_step M' _ _ refl in
        trap_out M M' E gl W S C ex (e1 ∷ e) ss ws ix cl r l (values.I32 n ∷ ops) en kd Ls Fs g co NI f fs wf refl rd ds (st XI (l ++ ex) all_i (guarded_call type) gi co) j k all_i exk H room kq hands (weaken M' (seq M' s0 (seq M' s1 (seq M' s2 (seq M' s3 s4)))) (omega arith) (omega arith))

    abbrev RoomI : FuncType → Type 0
    RoomI type = FitsIn C (result_of type) (less (length type.params) esi) × Room C (grown (result_of type) (less (length type.params) esi)) rest

    -- the function of an entry is called
    pub entry_call : (type : FuncType) (g' : ℕ) (fn : Function) (u : Cut) → Has t C.helpers → RoomI type → slice_get M.program.module_.types t ≡ Some type → slice_get g.table n ≡ Some (Some g') → function_at M.program g' ≡ Some fn → function_type fn ≡ type → unwrap_or (option_map (entry_label M.program.module_ t) (Some (Some g'))) 1 ≡ 0 → cut (length (function_type fn).params) ops ≡ u → Comes M M' E gl W (st XI (l ++ ex) all_i (guarded_call type) gi co) (calls_on M fn g' u at rest FI LI Ls Fs g co)
    entry_call type g' fn short has rm ty tq at_ same le c = tt
    entry_call type g' fn (parts vs below) has rm ty tq at_ same le c =
        let h = kept_all C l ex (told_length g.memory) LI Ls (e1 ∷ e) ss refl f.labels in
        let m = length type.params in
        let r1 = result_of (function_type fn) in
        let c' : cut m ops ≡ parts vs below = ap (λ z. cut (length z.params) ops) (sym same) ∙ c in
        let same1 : types exi ≡ types ex = types-slice_set ex (kind_at C) I32 (values.I32 0) (rw f.room (added_kind C.slots)) refl in
        let low : length (e1 ∷ esi) ≤ C.slots = room_height C (e1 ∷ esi) NI h.2 in
        let h1 = fits_kind C l ex None (LI ∷ Ls) ((e1 ∷ e) ∷ ss) (values.I32 0) (omega (arith, low)) h in
        let lh = less_holds C l exi m (joined ss) e ops vs below h1.0.1 c' in
        let e' = lh.0 in
        let others = hand_top C (suc m) (e1 ∷ esi) stop in
        let k = store C r1 (e' ++ joined ss) stop in
        let code = jump 0 (CallIndirect t) k in
        let moved = past_shown (doubles C.source) C code in
        let n1 = past (doubles C.source) C.source n in
        let uw : UnderWay = record { others = others; taken = values.I32 n ∷ vs } in
        let count : length vs ≡ m = cut_count m ops vs below c' in
        let behind = test_both C lsi (e' ++ joined ss) at others (drops (suc (length vs)) (renew_both C (reload C r1 (e' ++ joined ss) (rewrite C lsi (grown r1 (e' ++ joined ss)) rest)))) in
        let whole : values.I32 n ∷ ops ≡ (values.I32 n ∷ vs) ++ below = ap (λ (z : List Value). values.I32 n ∷ z) (cut_whole m ops vs below c') in
        let YI = armed XI behind ((values.I32 n ∷ vs) ++ below) in
        let at_kind : slice_get (types ex) (kind_at C) ≡ Some I32 = rw f.room (added_kind C.slots) in
        let no_kind : slice_get exi (kind_at C) ≡ Some (values.I32 0) = slice_get-put_same ex (kind_at C) I32 (values.I32 0) at_kind in
        let rm' : FitsIn C r1 (less m esi) × Room C (grown r1 (less m esi)) rest = subst (λ z. FitsIn C (result_of z) (less m esi) × Room C (grown (result_of z) (less m esi)) rest) (sym same) rm in
        let hb : FitsLabels C l exi r1 (label below rest en kd ∷ Ls) (e' ∷ ss) = (lh.2, subst (FitsIn C r1) lh.1 rm'.0, subst (λ z. Room C (grown r1 z) rest) lh.1 rm'.1, h1.3, h1.4) in
        let T0 = st YI (l ++ exi) (values.I32 n ∷ (vs ++ [])) moved gi co in
        let T = st YI (l ++ exi) (values.I32 n1 ∷ (vs ++ [])) code gi co in
        let t0 = st XI (l ++ ex) all_i (guarded_call type) gi co in
        let s0 = judged type (Some (Some g')) 0 0 has (ap (λ z. slice_get z n) (sym wf.table) ∙ tq) le (inl (refl, refl)) in
        let conv : if_any (made type) (behind_i type) ≡ if_any (load C (suc m) (e1 ∷ esi) moved) behind = ap₂ (λ z es'. if_any (load C (suc m) (e1 ∷ esi) (past_shown (doubles C.source) C (jump 0 (CallIndirect t) (store C (result_of z) es' stop)))) (test_both C lsi es' at others (drops (suc m) (renew_both C (reload C (result_of z) es' (rewrite C lsi (grown (result_of z) es') rest)))))) (sym same) lh.1 ∙ ap (λ (z : ℕ). if_any (load C (suc m) (e1 ∷ esi) moved) (test_both C lsi (e' ++ joined ss) at others (drops (suc z) (renew_both C (reload C r1 (e' ++ joined ss) (rewrite C lsi (grown r1 (e' ++ joined ss)) rest)))))) (sym count) in
        let s1 : To M' 3 3 (st XI (l ++ ex) (values.I32 0 ∷ all_i) (weighed type) gi co) (st XI (l ++ exi) (values.I32 1 ∷ all_i) (if_any (load C (suc m) (e1 ∷ esi) moved) behind) gi co) = subst (λ z. To M' 3 3 (st XI (l ++ ex) (values.I32 0 ∷ all_i) (weighed type) gi co) (st XI (l ++ exi) (values.I32 1 ∷ all_i) z gi co)) conv (weighed_to type 0) in
        let s1b : To M' 1 1 (st XI (l ++ exi) (values.I32 1 ∷ all_i) (if_any (load C (suc m) (e1 ∷ esi) moved) behind) gi co) (st YI (l ++ exi) [] (load C (suc m) (e1 ∷ esi) moved) gi co) = subst (λ (z : List Value). To M' 1 1 (st XI (l ++ exi) (values.I32 1 ∷ z) (if_any (load C (suc m) (e1 ∷ esi) moved) behind) gi co) (st YI (l ++ exi) [] (load C (suc m) (e1 ∷ esi) moved) gi co)) (sym whole) (one_step M' _ _ refl) in
        let cu : cut (suc m) (values.I32 n ∷ ops) ≡ parts (values.I32 n ∷ vs) below = ap (one_more (values.I32 n)) c' in
        let s2 : To M' (suc m) (suc m) (st YI (l ++ exi) [] (load C (suc m) (e1 ∷ esi) moved) gi co) T0 = load_to M' C l size_i {X = YI} exi (suc m) (joined ss) (e1 ∷ e) (values.I32 n ∷ ops) [] (values.I32 n ∷ vs) below moved h1.0 cu in
        let low1 : doubles C.source ≡ true → n + table_min C.source.tables < 65537 = subst (λ z. doubles z ≡ true → n + table_min z.tables < 65537) (sym f.funcs) (entry_low M.program.module_ g.table n (Some g') wf.table tq) in
        let s2b : To M' 0 2 T0 T = past_to M' C YI (l ++ exi) n (vs ++ []) code gi co (doubles C.source) low1 in
        let few : m ≤ C.slots = omega (arith, cut_len m ops vs below c', holds_len C l ex (joined ss) e ops h.0.1, length-append e (joined ss), low) in
        let tbl : slice_get gi.table n1 ≡ Some (Some (mapped M.program.module_ g')) = ap (λ z. slice_get gi.table (past (doubles z) z n)) f.funcs ∙ entry_past M.program.module_ g.table n (Some g') wf.table tq in
        let ft : type_at M'.program.module_ (mapped M.program.module_ g') ≡ Some type = S.function_types_ g' type (S.type_is g' fn at_ ∙ ap Some same) in
        let ty' = S.entry_types t type ty in
        let self = same_functype_refl type in
        let st_ : step M' T ≡ calls M' (function_at M'.program (mapped M.program.module_ g')) (mapped M.program.module_ g') (vs ++ []) 0 k (frame YI.idx YI.result 0 (l ++ exi) (label (values.I32 n1 ∷ (vs ++ [])) code 0 YI.kind ∷ YI.below)) (label (values.I32 n1 ∷ (vs ++ [])) code 0 YI.kind) YI.below YI.frames gi co = rw (ty', tbl, ft, self) refl in
        let cc_ : cut (length (function_type fn).params) (vs ++ []) ≡ parts vs [] = cut_all (length (function_type fn).params) ops vs below [] c in
        called M M' E gl W S C ex (e1 ∷ e) ss ws ix cl r l (values.I32 n ∷ ops) en kd Ls Fs g co NI f fs wf exi below e' rest fn vs false (Some uw) g' (values.I32 n1 ∷ (vs ++ [])) code t0 T (2 * C.slots + 35) (same_types (types (reverse vs)) (function_type fn).params) (vs ++ []) at_ (direct_ fn) cc_ same1 (no_kind, omega (arith, few, count)) hb (omega arith) refl (weaken M' (seq M' s0 (seq M' s1 (seq M' s1b (seq M' s2 s2b)))) (omega arith) (omega (arith, few))) st_
      where
        direct_ : (fn : Function) → DirectFits M M' E gl W S C ex (e1 ∷ e) ss ws ix cl r l (values.I32 n ∷ ops) en kd Ls Fs g co NI f fs wf fn false (Some (record { others = hand_top C (suc (length type.params)) (e1 ∷ esi) stop; taken = values.I32 n ∷ vs }))
        direct_ (imported i type) = tt
        direct_ (defined b tree type) = tt
