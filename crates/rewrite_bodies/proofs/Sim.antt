-- Each step of the source is some steps of the target, to the image of the next configuration.
-- what the rewritten module has for a function
use Rattle.std.proofs.Common.{◌≡◌, ℕ, zero, suc, pred, ◌≤◌, List, [], ◌∷◌, ◌++◌, length, Option, Some, None, Bool, true, false, refl, sym, ap, ◌∙◌, subst, subst₂, arith, ◌≢◌, slice_get, slice_set, option_map, length-append, ◌==◌, ◌+◌, ◌*◌}
use Rattle.wasm_syntax.specs.declared.value.ValType.{ValType}
use Rattle.wasm_syntax.specs.declared.value.Value.{Value}
use Rattle.wasm_syntax.specs.declared.value.Value.TheVariants as values
use Rattle.wasm_syntax.specs.declared.instruction.Basic.{Basic}
use Rattle.wasm_syntax.specs.declared.instruction.Basic.TheVariants.{LocalGet, LocalSet, LocalTee, Const}
use Rattle.wasm_syntax.specs.Numbers.{type_of, types, same_type}
use Rattle.wasm_syntax.specs.Tree.{BrIf, Nodes, stop, basic, jump, block, loop, choose}
use Rattle.wasm_syntax.specs.Host.{World}
use Rattle.wasm_syntax.specs.declared.host.CollectorCall.{CollectorCall}
use Rattle.wasm_syntax.specs.Effect.{gives, unfit, when, with_some, over, effect, takes}
use Rattle.wasm_syntax.specs.Machine.{Kind, leaves, again, Label, Frame, Config, label, frame, config, Engine, next, parts, cut, affects, does, chooses}
use Rattle.rewrite_bodies.specs.calls.Slots.{Place, Spilled, Known, Copied, Ctx, slot, added, less, pushed, grown, without, under, result_type, after_plain, length_at}
use Rattle.rewrite_bodies.specs.calls.Rewrite.{tested, checked, guarded, with_result, spare, passes, rewrite, grows, lengthened}
use Rattle.rewrite_bodies.specs.Numbering.{mapped, flag_of, global_types}
use Rattle.std.proofs.lemmas.List.{length-map}
use Rattle.rewrite_bodies.specs.calls.Pieces.{if_any, keep, spill}
use Rattle.rewrite_bodies.specs.calls.Guards.{can_trap, guard, kind}
use Rattle.rewrite_bodies.specs.calls.Agreement.{Holds, awaits, pending, joined, t_kind, t_labels, Wit, UnderWay, FitsIn, Room, FitsLabels, FitsOpen, MemoryFits, told_length, TellsLength, NoKind, WorldFits, FitsFrame, FitsFrames, Wrap, t_frames, with_added, flagged, Doing, running}
use Rattle.rewrite_bodies.specs.calls.Steps.{To, Shell, st}
use Rattle.rewrite_bodies.proofs.Run.{HasPlace, get_own, slice_get-put_same, types-slice_set, added_at, still, one_step, seq, weaken, get_to, put_to, tee_to}
use Rattle.rewrite_bodies.specs.inner.Promises.{kind_of, verdict, Comes}
use Rattle.rewrite_bodies.proofs.Parts.{Rel, framed, step_plain, types_get, set-append_left}
use Rattle.rewrite_bodies.proofs.Passing.{needs_all, spare_behind, loosened, put_on, kept_all, less_but, match_but, open_marked, stored_unless, types_unless, FitsBut, arrived_over, kept_unless, needs_measured}
use Rattle.rewrite_bodies.proofs.Copies.{labels_fixed, fixed_under, fixed_holds, fits_within, without_append, without_length, spill_to, holds_set}
use Rattle.wasm_syntax.proofs.Types.{same_type_is}
use Rattle.rewrite_bodies.proofs.Guards.{guard_to}
use Rattle.rewrite_bodies.proofs.Landed.{marked, types_marked, br_if_down, mark_to}
use Rattle.rewrite_bodies.proofs.Measures.{lengthened_to, lengthy, types_lengthy, over_lengthy, has_lengthy}
use Rattle.rewrite_bodies.specs.calls.Landings.{number_in, landing_of, part_of}
use Rattle.rewrite_bodies.specs.calls.Offsets.{SmallOffset}
use Rattle.std.specs.Prelude.{unwrap_or}
use Rattle.rewrite_bodies.specs.calls.Facts.{needs}
use Rattle.rewrite_bodies.proofs.FactLaws.{needs_trap}

-- a frame with other locals, labels and places, under a call or not
pub refit_under : {M : Engine} {E : ℕ} {gl : List ValType} {a : Doing} {ix cl : ℕ} {r : Option ValType} {l : List Value} {Ls : List Label} {w : Wit} (l' : List Value) (Ls' : List Label) (ex' : List Value) (ss' : List (List Place)) (others : Option UnderWay) (b : Doing) (cl' : ℕ) → FitsFrame M E gl a (frame ix r cl l Ls) w → types l' ≡ types l → types ex' ≡ types w.ex → FitsOpen w.ctx l' ex' b Ls' ss' → NoKind w.ctx ex' others → FitsFrame M E gl b (frame ix r cl' l' Ls') (record { ctx = w.ctx; ex = ex'; ss = ss'; under_way = others })
refit_under l' Ls' ex' ss' others b cl' f ll le h nk =
    record { size = ll ∙ f.size; room = le ∙ f.room; idx = f.idx; result = f.result; funcs = f.funcs; base = f.base; helpers = f.helpers; flag = f.flag; small = f.small; exposed = f.exposed; derivations = f.derivations; few = f.few; narrow = f.narrow; labels = h; no_kind = nk }

pub refit : {M : Engine} {E : ℕ} {gl : List ValType} {a : Doing} {ix cl : ℕ} {r : Option ValType} {l : List Value} {Ls : List Label} {w : Wit} (l' : List Value) (Ls' : List Label) (ex' : List Value) (ss' : List (List Place)) (b : Doing) (cl' : ℕ) → FitsFrame M E gl a (frame ix r cl l Ls) w → types l' ≡ types l → types ex' ≡ types w.ex → FitsOpen w.ctx l' ex' b Ls' ss' → FitsFrame M E gl b (frame ix r cl' l' Ls') (record { ctx = w.ctx; ex = ex'; ss = ss'; under_way = None })
refit l' Ls' ex' ss' b cl' f ll le h = refit_under l' Ls' ex' ss' None b cl' f ll le h tt

pub room_height : (C : Ctx) (es : List Place) (code : Nodes) → Room C es code → length es ≤ C.slots
room_height C es stop h = h
room_height C es (basic o i rest) h = h.0
room_height C es (jump o j rest) h = h.0
room_height C es (block o a inner en rest) h = h.0
room_height C es (loop o a inner en rest) h = h.0
room_height C es (choose o a x ea y en rest) h = h.0

pub grown_longer : (a : Option ValType) (es : List Place) → length es ≤ length (grown a es)
grown_longer None es = omega arith
grown_longer (Some t) es = omega arith

pub grown-append : (a : Option ValType) (e js : List Place) → grown a (e ++ js) ≡ grown a e ++ js
grown-append None e js = refl
grown-append (Some t) e js = refl

pub grown_fits : (C : Ctx) (a : Option ValType) (es : List Place) (ex : List Value) → types ex ≡ added C.slots → FitsIn C a es → HasPlace a (λ t. slot C.slots t (length es)) ex
grown_fits C None es ex room h = tt
grown_fits C (Some t) es ex room h = rw room (added_at C.slots (length es) t (omega (arith, h)))

pub length-types : (l : List Value) → length (types l) ≡ length l
length-types [] = refl
length-types (v ∷ l) = ap suc (length-types l)

pub len_of : (l : List Value) (ts : List ValType) → types l ≡ ts → length ts ≡ length l
len_of l ts e = ap length (sym e) ∙ length-types l

pub flag_len : (C : Ctx) (g : World) → types g.globals ≡ global_types C.source → flag_of C.source ≡ length g.globals
flag_len C g e = sym (length-map C.source.globals (λ g. g.vtype)) ∙ len_of g.globals (global_types C.source) e

pub ends_zero : (ea : Option ℕ) → ◌≡◌ {A = ℕ} (unwrap_or (option_map (λ at. 0) ea) 0) 0
ends_zero None = refl
ends_zero (Some at) = refl

-- the state of the target's innermost frame
abbrev pub shell : Wrap → Ctx → Option ValType → Kind → List Label → List (List Place) → List Frame → List Wit → Shell
shell W C r kd Ls ss Fs ws = record { idx = mapped C.source C.index; result = C.result; kind = t_kind C (length Ls) (joined ss) kd; below = t_labels C (pending kd) Ls ss; frames = t_frames W r Fs ws }

-- the target's state where the source stands at this code
abbrev pub tgt : Engine → Wrap → Ctx → List Value → List Place → List (List Place) → List Wit → Option ValType → List Value → List Value → Kind → List Label → List Frame → World → List CollectorCall → Nodes → Config
tgt M W C ex e ss ws r l ops kd Ls Fs g co code = st (shell W C r kd Ls ss Fs ws) (l ++ ex) ops (rewrite C (suc (length Ls)) (e ++ joined ss) code) (flagged M g (values.I32 0)) co

abbrev pub wit : Ctx → List Value → List (List Place) → Wit
wit C ex ss = record { ctx = C; ex = ex; ss = ss; under_way = None }

-- the same, where a call through the table may be under way
abbrev pub wit_under : Ctx → List Value → List (List Place) → Option UnderWay → Wit
wit_under C ex ss others = record { ctx = C; ex = ex; ss = ss; under_way = others }

-- inside an `if`
abbrev pub armed : Shell → Nodes → List Value → Shell
armed X k s = record { idx = X.idx; result = X.result; kind = leaves None; below = label s k 0 X.kind ∷ X.below; frames = X.frames }

module _ (M' : Engine) where
  pub if_zero_to : {X : Shell} {tl s : List Value} {a k : Nodes} {g : World} {co : List CollectorCall} → To M' 2 2 (st X tl (values.I32 0 ∷ s) (if_any a k) g co) (st X tl s k g co)
  if_zero_to = seq M' (one_step M' _ _ refl) (one_step M' _ _ refl)

  pub if_up_to : {X : Shell} {tl s : List Value} {a k : Nodes} {g : World} {co : List CollectorCall} (j : ℕ) → To M' 1 1 (st X tl (values.I32 (suc j) ∷ s) (if_any a k) g co) (st (armed X k s) tl [] a g co)
  if_up_to j = one_step M' _ _ refl

pub fits_world : {M : Engine} {gl : List ValType} {g : World} → WorldFits M gl g → (ts : List ValType) → gl ≡ ts → types g.globals ≡ ts
fits_world wf ts e = wf.globals ∙ e

module _ (M M' : Engine) (E : ℕ) (gl : List ValType) (W : Wrap) where
  module _ (C : Ctx) (ex : List Value) (e : List Place) (ss : List (List Place)) (ws : List Wit) (ix cl : ℕ) (r : Option ValType) (l ops : List Value) (en : ℕ) (kd : Kind) (Ls : List Label) (Fs : List Frame) (g : World) (co : List CollectorCall) where
    abbrev pub es : List Place
    es = e ++ joined ss

    abbrev pub X : Shell
    X = shell W C r kd Ls ss Fs ws

    abbrev pub ls : ℕ
    ls = suc (length Ls)

    abbrev pub g0 : World
    g0 = flagged M g (values.I32 0)

    -- the memory, and the local that has its length
    abbrev pub Measured : List Value → Type 0
    Measured ex2 = MemoryFits g.memory × TellsLength C ex2 g.memory

    pub verdict_to : (ex2 : List Value) (i : Basic) (k : Nodes) (vs below : List Value) → can_trap i ≡ true → length C.locals ≡ length l → Measured ex2 → SmallOffset i → Holds C l ex2 (joined ss) ops e → cut (takes i) ops ≡ parts vs below → effect i g l vs ≢ unfit → To M' 1 21 (st X (l ++ ex2) ops (guard C i es k) g0 co) (st X (l ++ ex2) (values.I32 (verdict (kind_of (effect i g l vs))) ∷ ops) k g0 co)
    verdict_to ex2 i k vs below t size mf so h c nw = (guard_to M' C l size ops X k g0 g co ex2 (joined ss) e ops vs below i mf.1 mf.0 so t h c nw).0

    -- the kind of a trap, inside the arm
    pub kind_to : (Y : Shell) (i : Basic) (j : ℕ) (k : Nodes) (vs below : List Value) → can_trap i ≡ true → length C.locals ≡ length l → Measured ex → SmallOffset i → Holds C l ex (joined ss) ops e → cut (takes i) ops ≡ parts vs below → effect i g l vs ≢ unfit → kind_of (effect i g l vs) ≡ suc j → To M' 1 5 (st Y (l ++ ex) [] (kind C i es k) g0 co) (st Y (l ++ ex) (values.I32 (suc j) ∷ []) k g0 co)
    kind_to Y i j k vs below t size mf so h c nw is = (guard_to M' C l size [] Y k g0 g co ex (joined ss) e ops vs below i mf.1 mf.0 so t h c nw).1 j is

    -- the number of its landing, and the added locals behind a guard
    abbrev pub number : ℕ → Basic → Option ℕ
    number o i = number_in C.landings (landing_of (part_of C.locals o) i es)

    abbrev pub behind_guard : Bool → Basic → ℕ → List Value
    behind_guard false i o = ex
    behind_guard true i o = marked (number o i) C o ex

    types_behind : (b : Bool) (i : Basic) (o : ℕ) → types ex ≡ added C.slots → types (behind_guard b i o) ≡ types ex
    types_behind false i o room = refl
    types_behind true i o room = types_marked (number o i) C o ex room

    open_behind : (b : Bool) (i : Basic) (o : ℕ) (L' : Label) (Ls' : List Label) (e' : List Place) (ss' : List (List Place)) → length (e' ++ joined ss') ≤ C.slots → FitsOpen C l ex (running g) (L' ∷ Ls') (e' ∷ ss') → FitsOpen C l (behind_guard b i o) (running g) (L' ∷ Ls') (e' ∷ ss')
    open_behind false i o L' Ls' e' ss' low h = h
    open_behind true i o L' Ls' e' ss' low h = open_marked (number o i) C o l ex (told_length g.memory) L' Ls' e' ss' low h

    -- a guard that finds no trap
    checked_to : (q : Option ℕ) (i : Basic) (o : ℕ) (k : Nodes) (vs below : List Value) → types ex ≡ added C.slots → can_trap i ≡ true → length C.locals ≡ length l → Measured (marked q C o ex) → SmallOffset i → Holds C l (marked q C o ex) (joined ss) ops e → cut (takes i) ops ≡ parts vs below → effect i g l vs ≢ unfit → kind_of (effect i g l vs) ≡ 0 → To M' 0 30 (st X (l ++ ex) ops (checked q C ls es o (guard C i es) (kind C i es) k) g0 co) (st X (l ++ marked q C o ex) ops k g0 co)
    checked_to None i o k vs below room t size mf so h c nw z =
        weaken M' (seq M' (rw z at (verdict_to ex i (tested C ls es o (kind C i es) k) vs below t size mf so h c nw)) (if_zero_to M')) (omega arith) (omega arith)
    checked_to (Some n) i o k vs below room t size mf so h c nw z =
        weaken M' (seq M' (mark_to M' C l size o ex room) (seq M' (rw z at (verdict_to (marked (Some n) C o ex) i (jump 0 (BrIf (ls + n)) k) vs below t size mf so h c nw)) (br_if_down M'))) (omega arith) (omega arith)

    guarded_to : (i : Basic) (b : Bool) (o : ℕ) (k : Nodes) (vs below : List Value) → types ex ≡ added C.slots → (b ≡ true → can_trap i ≡ true) → length C.locals ≡ length l → (b ≡ true → Measured (behind_guard b i o)) → SmallOffset i → (b ≡ true → Holds C l (behind_guard b i o) (joined ss) ops e) → cut (takes i) ops ≡ parts vs below → effect i g l vs ≢ unfit → kind_of (effect i g l vs) ≡ 0 → To M' 0 30 (st X (l ++ ex) ops (guarded b C ls es o i k) g0 co) (st X (l ++ behind_guard b i o) ops k g0 co)
    guarded_to i false o k vs below room t size mf so h c nw z = weaken M' (still M' _) (omega arith) (omega arith)
    guarded_to i true o k vs below room t size mf so h c nw z = checked_to (number o i) i o k vs below room (t refl) size (mf refl) so (h refl) c nw z

    abbrev pub F : Nodes → Frame
    F rest = frame ix r cl l (label ops rest en kd ∷ Ls)

    abbrev pub w : Wit
    w = record { ctx = C; ex = ex; ss = e ∷ ss; under_way = None }

    -- what the room says of the instruction
    abbrev pub RoomFor : Basic → Nodes → Type 0
    RoomFor i rest = SmallOffset i × FitsIn C (result_type C es i) (less (takes i) es) × Room C (after_plain C es i) rest

    -- an instruction that leaves the locals alone, and whose result has a slot
    abbrev pub usual : Bool → Basic → ℕ → Nodes → Nodes
    usual b i o rest =
        guarded b C ls es o i (basic 0 i (lengthened (grows i) C (keep (passes C rest) C (option_map Spilled (result_type C es i)) (less (takes i) es) (rewrite C ls (grown (result_type C es i) (less (takes i) es)) rest))))

    abbrev pub RoomUsual : Basic → Nodes → Type 0
    RoomUsual i rest = SmallOffset i × FitsIn C (result_type C es i) (less (takes i) es) × Room C (grown (result_type C es i) (less (takes i) es)) rest

    pub usual_gives : (i : Basic) (o : ℕ) (rest : Nodes) (vs below l' : List Value) (g' : World) (ws' : List Value) → FitsFrame M E gl (running g) (F (basic o i rest)) w → FitsFrames M E gl W.result r Fs ws → WorldFits M gl g → RoomUsual i rest → l' ≡ l → cut (takes i) ops ≡ parts vs below → effect i g l vs ≡ gives g' l' ws' → Comes M M' E gl W (st X (l ++ ex) ops (usual (needs C o i) i o rest) g0 co) (next (config (frame ix r cl l' (label (ws' ++ below) rest en kd ∷ Ls) ∷ Fs) g' co))
    usual_gives i o rest vs below l' g' ws' f fs wf rm lsame c p =
        let low : length es ≤ C.slots = room_height C es (basic o i rest) f.labels.2 in
        let exm = behind_guard (needs C o i) i o in
        let te : types exm ≡ types ex = types_behind (needs C o i) i o f.room in
        let roomm : types exm ≡ added C.slots = te ∙ f.room in
        let p0 = spare C (basic o i rest) in
        let k0 = pred (spare C rest) in
        let h : FitsOpen C l exm (running g) (label ops (basic o i rest) en kd ∷ Ls) (e ∷ ss) = open_behind (needs C o i) i o (label ops (basic o i rest) en kd) Ls e ss low f.labels in
        let size = len_of l C.locals f.size in
        let lh = less_but C p0 k0 l exm (takes i) (joined ss) e ops vs below (spare_behind C o i rest) h.0 c in
        let e2 = lh.0 in
        let r1 = result_type C es i in
        let fl = flag_len C g (wf.globals ∙ sym f.flag) in
        let bs = values.I32 0 ∷ values.I64 (told_length g.memory) ∷ [] in
        let fr = subst (λ z. Rel M gl r1 (can_trap i) l exm bs z (effect i g0 (l ++ exm) vs)) p (framed M gl C es l g exm bs f.size wf (sym f.flag) i vs (match_but C p0 l exm (takes i) (joined ss) e ops vs below h.0 c)) in
        let hb : FitsBut C k0 l exm r1 (label below rest en kd) Ls e2 ss = (lh.2, subst (FitsIn C r1) lh.1 rm.1, subst (λ z. Room C (grown r1 z) rest) lh.1 rm.2, h.3, h.4) in
        let pass = passes C rest in
        let n1 = told_length g'.memory in
        let exg = lengthy M' (grows i) C n1 exm in
        let tg : types exg ≡ types exm = types_lengthy M' (grows i) C n1 exm roomm in
        let roomg : types exg ≡ added C.slots = tg ∙ roomm in
        let lowb : length (e2 ++ joined ss) ≤ suc C.slots = omega (arith, grown_longer r1 (e2 ++ joined ss), room_height C (grown r1 (e2 ++ joined ss)) rest hb.2) in
        let hg = over_lengthy M' (grows i) C k0 l exm n1 r1 (label below rest en kd) Ls e2 ss lowb hb in
        let hl = has_lengthy M' C i g l l' vs ws' g' p exm roomm h.1 in
        let hs = arrived_over pass C l exg n1 r1 (label below rest en kd) Ls e2 ss ws' refl roomg fr.3 hl hg in
        let k1 = rewrite C ls (grown r1 (e2 ++ joined ss)) rest in
        let pl = grown_fits C r1 (e2 ++ joined ss) exg roomg hb.1 in
        let ex2 = stored_unless pass r1 (λ t. slot C.slots t (length (e2 ++ joined ss))) ws' exg in
        let kept = keep pass C (option_map Spilled r1) (e2 ++ joined ss) k1 in
        let behind = lengthened (grows i) C kept in
        let code = basic 0 i behind in
        let gm = with_added M g' bs in
        let g1 = flagged M g' (values.I32 0) in
        let s0 : To M' 0 30 (st X (l ++ ex) ops (guarded (needs C o i) C ls es o i code) g0 co) (st X (l ++ exm) ops code g0 co) = guarded_to i (needs C o i) o code vs below f.room (needs_trap C o i) size (λ n. (wf.memory, h.1 (needs_measured C o i n))) rm.0 (λ n. (kept_all C l exm (told_length g.memory) (label ops (basic o i rest) en kd) Ls e ss (needs_all C o i rest n) h).0) c (λ n. cc) (ap kind_of p) in
        let s1 : To M' 1 1 (st X (l ++ exm) ops code g0 co) (st X (l' ++ exm) (ws' ++ below) behind gm co) = step_plain M' i vs below (l' ++ exm) gm ws' (ws' ++ below) c fr.0 refl in
        let size' = len_of l' C.locals (fr.1 ∙ f.size) in
        let s1b : To M' 0 9 (st X (l' ++ exm) (ws' ++ below) behind gm co) (st X (l' ++ exg) (ws' ++ below) kept g1 co) = lengthened_to M' M C X l' exm (ws' ++ below) kept g' co (values.I32 0) size' roomm (flag_len C g' (fr.2.globals ∙ sym f.flag)) i g l l' vs ws' p fr.2.memory in
        let s2 : To M' 0 1 (st X (l' ++ exg) (ws' ++ below) kept g1 co) (st X (l' ++ ex2) (ws' ++ below) k1 g1 co) = kept_unless M' C l' size' pass exg r1 (e2 ++ joined ss) ws' below k1 pl fr.3 in
        let all : To M' 1 E (st X (l ++ ex) ops (guarded (needs C o i) C ls es o i code) g0 co) (st X (l' ++ ex2) (ws' ++ below) k1 g1 co) = weaken M' (seq M' s0 (seq M' s1 (seq M' s1b s2))) (omega arith) (omega (arith, f.small)) in (
          wit C ex2 (grown r1 e2 ∷ ss) ∷ ws,
          (fr.2, (refit l' (label (ws' ++ below) rest en kd ∷ Ls) ex2 (grown r1 e2 ∷ ss) (running g') cl f fr.1 (types_unless pass r1 (λ t. slot C.slots t (length (e2 ++ joined ss))) ws' exg pl fr.3 ∙ tg ∙ te) (subst (λ z. FitsOpen C z ex2 (running g') (label (ws' ++ below) rest en kd ∷ Ls) (grown r1 e2 ∷ ss)) (sym lsame) hs), fs)),
          subst₂ (λ a b. To M' 1 E (st X (l ++ ex) ops (guarded (needs C o i) C ls es o i (basic 0 i (lengthened (grows i) C (keep (passes C rest) C (option_map Spilled r1) a (rewrite C ls (grown r1 a) rest))))) g0 co) (st X (l' ++ ex2) (ws' ++ below) (rewrite C ls b rest) g1 co)) (sym lh.1) (grown-append r1 e2 (joined ss)) all,
        )

    -- constants and locals are known
    pub push_sim : (o : ℕ) (n : Value) (rest : Nodes) → FitsFrame M E gl (running g) (F (basic o (Const n) rest)) w → FitsFrames M E gl W.result r Fs ws → WorldFits M gl g → Comes M M' E gl W (tgt M W C ex e ss ws r l ops kd Ls Fs g co (basic o (Const n) rest)) (next (config (frame ix r cl l (label (n ∷ ops) rest en kd ∷ Ls) ∷ Fs) g co))
    push_sim o n rest f fs wf =
        let h = f.labels in
        (wit C ex ((Known n ∷ e) ∷ ss) ∷ ws, (wf, (refit l (label (n ∷ ops) rest en kd ∷ Ls) ex ((Known n ∷ e) ∷ ss) (running g) cl f refl refl (put_on C (spare C (basic o (Const n) rest)) (spare C rest) l ex (joined ss) e ops (Known n) n (omega (arith, spare_behind C o (Const n) rest)) refl h.0, h.1, h.2.3, h.3, h.4), fs)), weaken M' (one_step M' _ _ refl) (omega arith) (omega (arith, f.small)))

    copied_sim : (o x : ℕ) (v : Value) (rest : Nodes) → slice_get l x ≡ Some v → FitsFrame M E gl (running g) (F (basic o (LocalGet x) rest)) w → FitsFrames M E gl W.result r Fs ws → WorldFits M gl g → Comes M M' E gl W (tgt M W C ex e ss ws r l ops kd Ls Fs g co (basic o (LocalGet x) rest)) (next (config (frame ix r cl l (label (v ∷ ops) rest en kd ∷ Ls) ∷ Fs) g co))
    copied_sim o x v rest at f fs wf =
        let h = f.labels in
        let own : slice_get C.locals x ≡ Some (type_of v) = ap (λ q. slice_get q x) (sym f.size) ∙ types_get l x v at in
        let p = Copied (type_of v) x in
        let rm : Room C (p ∷ es) rest = subst (λ z. Room C (pushed (option_map (λ t. Copied t x) z) es) rest) own h.2.3 in
        let s1 : To M' 1 1 (st X (l ++ ex) ops (basic 0 (LocalGet x) (rewrite C ls (p ∷ es) rest)) g0 co) (st X (l ++ ex) (v ∷ ops) (rewrite C ls (p ∷ es) rest) g0 co) = get_to M' x v (get_own l ex x v at) in (
          wit C ex ((p ∷ e) ∷ ss) ∷ ws,
          (wf, (refit l (label (v ∷ ops) rest en kd ∷ Ls) ex ((p ∷ e) ∷ ss) (running g) cl f refl refl (put_on C (spare C (basic o (LocalGet x) rest)) (spare C rest) l ex (joined ss) e ops p v (omega (arith, spare_behind C o (LocalGet x) rest)) (at, refl) h.0, h.1, rm, h.3, h.4), fs)),
          subst (λ z. To M' 1 E (st X (l ++ ex) ops (basic 0 (LocalGet x) (keep (passes C rest) C (option_map (λ t. Copied t x) z) es (rewrite C ls (pushed (option_map (λ t. Copied t x) z) es) rest))) g0 co) (st X (l ++ ex) (v ∷ ops) (rewrite C ls (p ∷ es) rest) g0 co)) (sym own) (weaken M' s1 (omega arith) (omega (arith, f.small))),
        )

    pub get_sim : (o x : ℕ) (rest : Nodes) → FitsFrame M E gl (running g) (F (basic o (LocalGet x) rest)) w → FitsFrames M E gl W.result r Fs ws → WorldFits M gl g → Comes M M' E gl W (tgt M W C ex e ss ws r l ops kd Ls Fs g co (basic o (LocalGet x) rest)) (does M (LocalGet x) (cut 0 ops) rest (F (basic o (LocalGet x) rest)) (label ops (basic o (LocalGet x) rest) en kd) Ls Fs g co)
    get_sim o x rest f fs wf = by_local (slice_get l x) refl
      where
        by_local : (q : Option Value) → slice_get l x ≡ q → Comes M M' E gl W (tgt M W C ex e ss ws r l ops kd Ls Fs g co (basic o (LocalGet x) rest)) (affects M (with_some q (λ v. gives g l (v ∷ []))) ops rest (F (basic o (LocalGet x) rest)) (label ops (basic o (LocalGet x) rest) en kd) Ls Fs g co)
        by_local None at = tt
        by_local (Some v) at = copied_sim o x v rest at f fs wf

    pub block_sim : (o : ℕ) (a : Option ValType) (inner : Nodes) (en' : ℕ) (rest : Nodes) → FitsFrame M E gl (running g) (F (block o a inner en' rest)) w → FitsFrames M E gl W.result r Fs ws → WorldFits M gl g → Comes M M' E gl W (tgt M W C ex e ss ws r l ops kd Ls Fs g co (block o a inner en' rest)) (next (config (frame ix r cl l (label [] inner en' (leaves a) ∷ label ops rest en kd ∷ Ls) ∷ Fs) g co))
    block_sim o a inner en' rest f fs wf =
        let h = f.labels in
        let u = under e in
        let js = joined ss in
        let fj = labels_fixed C ex (awaits (pending kd)) Ls ss h.4 in
        let sp : under es ≡ u ++ js = without_append (λ x. true) e js fj in
        let code = λ (z : List Place). block 0 a (rewrite C (suc ls) z inner) 0 (with_result C a z (passes C rest) (λ es'. rewrite C ls es' rest)) in
        let s1 = spill_to M' C l (len_of l C.locals f.size) X ops g0 co ex (λ x. true) js e ops (code (u ++ js)) f.room h.2.0 fj h.0 in
        let ex1 = s1.0 in
        let low : length js ≤ length js = omega arith in
        let outer = fits_within C [] ex ex1 (length js) (length es) (awaits (pending kd)) Ls ss s1.2 low h.4 in
        let own = fixed_holds C l ex1 js u ops (fixed_under e) s1.3 in
        let inner_ = rewrite C (suc ls) (u ++ js) inner in
        let Y : Shell = record { idx = X.idx; result = X.result; kind = leaves a; below = label ops (with_result C a (u ++ js) (passes C rest) (λ es'. rewrite C ls es' rest)) 0 X.kind ∷ X.below; frames = X.frames } in
        let s2 : To M' 1 1 (st X (l ++ ex1) ops (code (u ++ js)) g0 co) (st Y (l ++ ex1) [] inner_ g0 co) = one_step M' _ _ refl in
        let few : length e ≤ C.slots = omega (arith, length-append e js, h.2.0) in (
          wit C ex1 ([] ∷ u ∷ ss) ∷ ws,
          (wf, (refit l _ ex1 ([] ∷ u ∷ ss) (running g) cl f refl s1.1 (loosened C (spare C inner) l ex1 (u ++ js) [] [] tt, (λ q. s1.2.1 ∙ h.1 q), subst (λ z. Room C z inner) sp h.2.1, tt, (own, subst (FitsIn C a) sp h.2.2, subst (λ z. Room C (grown a z) rest) sp h.2.3, h.3, outer)), fs)),
          subst (λ z. To M' 1 E (st X (l ++ ex) ops (spill C (λ x. true) es (code z)) g0 co) (st Y (l ++ ex1) [] inner_ g0 co)) (sym sp) (weaken M' (seq M' s1.4 s2) (omega arith) (omega (arith, f.small, few))),
        )

    pub loop_sim : (o : ℕ) (a : Option ValType) (inner : Nodes) (en' : ℕ) (rest : Nodes) → FitsFrame M E gl (running g) (F (loop o a inner en' rest)) w → FitsFrames M E gl W.result r Fs ws → WorldFits M gl g → Comes M M' E gl W (tgt M W C ex e ss ws r l ops kd Ls Fs g co (loop o a inner en' rest)) (next (config (frame ix r cl l (label [] inner en' (again o a inner en') ∷ label ops rest en kd ∷ Ls) ∷ Fs) g co))
    loop_sim o a inner en' rest f fs wf =
        let h = f.labels in
        let u = under e in
        let js = joined ss in
        let fj = labels_fixed C ex (awaits (pending kd)) Ls ss h.4 in
        let sp : under es ≡ u ++ js = without_append (λ x. true) e js fj in
        let code = λ (z : List Place). loop 0 a (rewrite C (suc ls) z inner) 0 (with_result C a z (passes C rest) (λ es'. rewrite C ls es' rest)) in
        let s1 = spill_to M' C l (len_of l C.locals f.size) X ops g0 co ex (λ x. true) js e ops (code (u ++ js)) f.room h.2.0 fj h.0 in
        let ex1 = s1.0 in
        let low : length js ≤ length js = omega arith in
        let outer = fits_within C [] ex ex1 (length js) (length es) (awaits (pending kd)) Ls ss s1.2 low h.4 in
        let own = fixed_holds C l ex1 js u ops (fixed_under e) s1.3 in
        let inner_ = rewrite C (suc ls) (u ++ js) inner in
        let Y : Shell = record { idx = X.idx; result = X.result; kind = again 0 a inner_ 0; below = label ops (with_result C a (u ++ js) (passes C rest) (λ es'. rewrite C ls es' rest)) 0 X.kind ∷ X.below; frames = X.frames } in
        let s2 : To M' 1 1 (st X (l ++ ex1) ops (code (u ++ js)) g0 co) (st Y (l ++ ex1) [] inner_ g0 co) = one_step M' _ _ refl in
        let few : length e ≤ C.slots = omega (arith, length-append e js, h.2.0) in
        let lowu : length (u ++ js) ≤ C.slots = omega (arith, length-append e js, length-append u js, without_length (λ x. true) e, h.2.0) in (
          wit C ex1 ([] ∷ u ∷ ss) ∷ ws,
          (wf, (refit l _ ex1 ([] ∷ u ∷ ss) (running g) cl f refl s1.1 (loosened C (spare C inner) l ex1 (u ++ js) [] [] tt, (λ q. s1.2.1 ∙ h.1 q), subst (λ z. Room C z inner) sp h.2.1, (lowu, subst (λ z. Room C z inner) sp h.2.1), (own, subst (FitsIn C a) sp h.2.2, subst (λ z. Room C (grown a z) rest) sp h.2.3, h.3, outer)), fs)),
          subst (λ z. To M' 1 E (st X (l ++ ex) ops (spill C (λ x. true) es (code z)) g0 co) (st Y (l ++ ex1) [] inner_ g0 co)) (sym sp) (weaken M' (seq M' s1.4 s2) (omega arith) (omega (arith, f.small, few))),
        )

    -- a local is written, or kept and written
    set_holds : (o x : ℕ) (i : Basic) (v : Value) (e2 : List Place) (ops2 : List Value) (rest : Nodes) (kept : Nodes → Nodes) → FitsFrame M E gl (running g) (F (basic o i rest)) w → length (e2 ++ joined ss) ≤ C.slots → Holds C l ex (joined ss) ops2 e2 →
        (ex1 : List Value) × (types ex1 ≡ types ex) × Holds C (slice_set l x v) ex1 (joined ss) ops2 (without (λ y. x == y) e2) × FitsLabels C [] ex1 (awaits (pending kd)) Ls ss × (slice_get ex1 (length_at C) ≡ slice_get ex (length_at C)) × To M' 0 (2 * length e2) (st X (l ++ ex) ops (spill C (λ y. x == y) (e2 ++ joined ss) (basic 0 i (kept (rewrite C ls (without (λ y. x == y) e2 ++ joined ss) rest)))) g0 co) (st X (l ++ ex1) ops (basic 0 i (kept (rewrite C ls (without (λ y. x == y) e2 ++ joined ss) rest))) g0 co)
    set_holds o x i v e2 ops2 rest kept f low hd =
        let h = f.labels in
        let js = joined ss in
        let these = λ (y : ℕ). x == y in
        let fj = labels_fixed C ex (awaits (pending kd)) Ls ss h.4 in
        let code = basic 0 i (kept (rewrite C ls (without these e2 ++ js) rest)) in
        let s1 = spill_to M' C l (len_of l C.locals f.size) X ops g0 co ex these js e2 ops2 code f.room low fj hd in
        let same : length js ≤ length js = omega arith in
        (s1.0, s1.1, holds_set C l s1.0 js e2 ops2 x v s1.3, fits_within C [] ex s1.0 (length js) (length (e2 ++ js)) (awaits (pending kd)) Ls ss s1.2 same h.4, s1.2.1, s1.4)

  -- one operand is on top
  module _ (C : Ctx) (ex : List Value) (e1 : Place) (e : List Place) (ss : List (List Place)) (ws : List Wit) (ix cl : ℕ) (r : Option ValType) (l : List Value) (v : Value) (ops : List Value) (en : ℕ) (kd : Kind) (Ls : List Label) (Fs : List Frame) (g : World) (co : List CollectorCall) where
    abbrev esv : List Place
    esv = e ++ joined ss

    abbrev Xv : Shell
    Xv = shell W C r kd Ls ss Fs ws

    abbrev dv : ℕ
    dv = suc (length Ls)

    abbrev gv : World
    gv = flagged M g (values.I32 0)

    abbrev Fv : Nodes → Frame
    Fv rest = frame ix r cl l (label (v ∷ ops) rest en kd ∷ Ls)

    abbrev wv : Wit
    wv = wit C ex ((e1 ∷ e) ∷ ss)

    set_written : (o x : ℕ) (old : Value) (rest : Nodes) → slice_get l x ≡ Some old → type_of old ≡ type_of v → FitsFrame M E gl (running g) (Fv (basic o (LocalSet x) rest)) wv → FitsFrames M E gl W.result r Fs ws → WorldFits M gl g → Comes M M' E gl W (tgt M W C ex (e1 ∷ e) ss ws r l (v ∷ ops) kd Ls Fs g co (basic o (LocalSet x) rest)) (next (config (frame ix r cl (slice_set l x v) (label ops rest en kd ∷ Ls) ∷ Fs) g co))
    set_written o x old rest at ty f fs wf =
        let h = f.labels in
        let js = joined ss in
        let these = λ (y : ℕ). x == y in
        let low : length (e ++ js) ≤ C.slots = omega (arith, h.2.0) in
        let few : length e ≤ C.slots = omega (arith, length-append e js, low) in
        let fj = labels_fixed C ex (awaits (pending kd)) Ls ss h.4 in
        let sp : without these esv ≡ without these e ++ js = without_append these e js fj in
        let s1 = set_holds C ex (e1 ∷ e) ss ws ix cl r l (v ∷ ops) en kd Ls Fs g co o x (LocalSet x) v e ops rest (λ k. k) f low h.0.1 in
        let ex1 = s1.0 in
        let l' = slice_set l x v in
        let tl : types l' ≡ types l = types-slice_set l x (type_of old) v (types_get l x old at) (sym ty) in
        let k1 = rewrite C dv (without these e ++ js) rest in
        let s2 : To M' 1 1 (st Xv (l ++ ex1) (v ∷ ops) (basic 0 (LocalSet x) k1) gv co) (st Xv (l' ++ ex1) ops k1 gv co) =
        subst (λ z. To M' 1 1 (st Xv (l ++ ex1) (v ∷ ops) (basic 0 (LocalSet x) k1) gv co) (st Xv z ops k1 gv co)) (set-append_left l ex1 x v old at) (put_to M' x v old (get_own l ex1 x old at) ty) in (
          wit C ex1 (without these e ∷ ss) ∷ ws,
          (wf, (refit l' (label ops rest en kd ∷ Ls) ex1 (without these e ∷ ss) (running g) cl f tl s1.1 (loosened C (spare C rest) l' ex1 js (without these e) ops s1.2, (λ q. s1.4 ∙ h.1 q), subst (λ z. Room C z rest) sp h.2.3, h.3, s1.3), fs)),
          subst (λ z. To M' 1 E (st Xv (l ++ ex) (v ∷ ops) (spill C these esv (basic 0 (LocalSet x) (rewrite C dv z rest))) gv co) (st Xv (l' ++ ex1) ops k1 gv co)) (sym sp) (weaken M' (seq M' s1.5 s2) (omega arith) (omega (arith, f.small, few))),
        )

    tee_written : (o x : ℕ) (old : Value) (rest : Nodes) → slice_get l x ≡ Some old → type_of old ≡ type_of v → FitsFrame M E gl (running g) (Fv (basic o (LocalTee x) rest)) wv → FitsFrames M E gl W.result r Fs ws → WorldFits M gl g → Comes M M' E gl W (tgt M W C ex (e1 ∷ e) ss ws r l (v ∷ ops) kd Ls Fs g co (basic o (LocalTee x) rest)) (next (config (frame ix r cl (slice_set l x v) (label (v ∷ ops) rest en kd ∷ Ls) ∷ Fs) g co))
    tee_written o x old rest at ty f fs wf =
        let h = f.labels in
        let js = joined ss in
        let these = λ (y : ℕ). x == y in
        let low : length (e ++ js) ≤ C.slots = omega (arith, h.2.0) in
        let few : length e ≤ C.slots = omega (arith, length-append e js, low) in
        let fj = labels_fixed C ex (awaits (pending kd)) Ls ss h.4 in
        let sp : without these esv ≡ without these e ++ js = without_append these e js fj in
        let own : slice_get C.locals x ≡ Some (type_of v) = ap (λ q. slice_get q x) (sym f.size) ∙ types_get l x old at ∙ ap Some ty in
        let p = Copied (type_of v) x in
        let code = λ (q : Option ValType) (z : List Place). spill C these esv (basic 0 (LocalTee x) (keep (passes C rest) C (option_map (λ t. Copied t x) q) esv (rewrite C dv (pushed (option_map (λ t. Copied t x) q) z) rest))) in
        let k1 = rewrite C dv (p ∷ (without these e ++ js)) rest in
        let s1 = spill_to M' C l (len_of l C.locals f.size) Xv (v ∷ ops) gv co ex these js e ops (basic 0 (LocalTee x) k1) f.room low fj h.0.1 in
        let ex1 = s1.0 in
        let same : length js ≤ length js = omega arith in
        let outer = fits_within C [] ex ex1 (length js) (length (e ++ js)) (awaits (pending kd)) Ls ss s1.2 same h.4 in
        let own_holds = holds_set C l ex1 js e ops x v s1.3 in
        let l' = slice_set l x v in
        let tl : types l' ≡ types l = types-slice_set l x (type_of old) v (types_get l x old at) (sym ty) in
        let there : slice_get l' x ≡ Some v = slice_get-put_same l x (type_of old) v (types_get l x old at) in
        let s2 : To M' 1 1 (st Xv (l ++ ex1) (v ∷ ops) (basic 0 (LocalTee x) k1) gv co) (st Xv (l' ++ ex1) (v ∷ ops) k1 gv co) =
        subst (λ z. To M' 1 1 (st Xv (l ++ ex1) (v ∷ ops) (basic 0 (LocalTee x) k1) gv co) (st Xv z (v ∷ ops) k1 gv co)) (set-append_left l ex1 x v old at) (tee_to M' x v old (get_own l ex1 x old at) ty) in
        let rm : Room C (p ∷ (without these e ++ js)) rest = subst (λ z. Room C (p ∷ z) rest) sp (subst (λ q. Room C (pushed (option_map (λ t. Copied t x) q) (without these esv)) rest) own h.2.3) in (
          wit C ex1 ((p ∷ without these e) ∷ ss) ∷ ws,
          (wf, (refit l' (label (v ∷ ops) rest en kd ∷ Ls) ex1 ((p ∷ without these e) ∷ ss) (running g) cl f tl s1.1 (loosened C (spare C rest) l' ex1 js (p ∷ without these e) (v ∷ ops) ((there, refl), own_holds), (λ q. s1.2.1 ∙ h.1 q), rm, h.3, outer), fs)),
          subst₂ (λ q z. To M' 1 E (st Xv (l ++ ex) (v ∷ ops) (code q z) gv co) (st Xv (l' ++ ex1) (v ∷ ops) k1 gv co)) (sym own) (sym sp) (weaken M' (seq M' s1.4 s2) (omega arith) (omega (arith, f.small, few))),
        )

    -- an arm is entered
    arm_to : (a : Option ValType) (arm : Nodes) (n : ℕ) → v ≡ values.I32 n → (o : ℕ) (x : Nodes) (ea : Option ℕ) (y : Nodes) (en' : ℕ) (rest : Nodes) (en2 : ℕ) → FitsFrame M E gl (running g) (Fv (choose o a x ea y en' rest)) wv → FitsFrames M E gl W.result r Fs ws → WorldFits M gl g → Room C (under esv) arm
        → ((ex1 : List Value) (left : List Place) (k : Nodes) → To M' 1 1 (st Xv (l ++ ex1) (v ∷ ops) (choose 0 a (rewrite C (suc dv) left x) (option_map (λ at. 0) ea) (rewrite C (suc dv) left y) 0 k) gv co) (st (record { idx = Xv.idx; result = Xv.result; kind = leaves a; below = label ops k 0 Xv.kind ∷ Xv.below; frames = Xv.frames }) (l ++ ex1) [] (rewrite C (suc dv) left arm) gv co))
        → Comes M M' E gl W (tgt M W C ex (e1 ∷ e) ss ws r l (v ∷ ops) kd Ls Fs g co (choose o a x ea y en' rest)) (next (config (frame ix r cl l (label [] arm en2 (leaves a) ∷ label ops rest en kd ∷ Ls) ∷ Fs) g co))
    arm_to a arm n is o x ea y en' rest en2 f fs wf rm enters =
        let h = f.labels in
        let js = joined ss in
        let u = under e in
        let low : length (e ++ js) ≤ C.slots = omega (arith, h.2.0) in
        let few : length e ≤ C.slots = omega (arith, length-append e js, low) in
        let fj = labels_fixed C ex (awaits (pending kd)) Ls ss h.4 in
        let sp : under esv ≡ u ++ js = without_append (λ x. true) e js fj in
        let behind = λ (z : List Place). with_result C a z (passes C rest) (λ es'. rewrite C dv es' rest) in
        let code = λ (z : List Place). choose 0 a (rewrite C (suc dv) z x) (option_map (λ at. 0) ea) (rewrite C (suc dv) z y) 0 (behind z) in
        let s1 = spill_to M' C l (len_of l C.locals f.size) Xv (v ∷ ops) gv co ex (λ x. true) js e ops (code (u ++ js)) f.room low fj h.0.1 in
        let ex1 = s1.0 in
        let same : length js ≤ length js = omega arith in
        let outer = fits_within C [] ex ex1 (length js) (length esv) (awaits (pending kd)) Ls ss s1.2 same h.4 in
        let own = fixed_holds C l ex1 js u ops (fixed_under e) s1.3 in
        let Y : Shell = record { idx = Xv.idx; result = Xv.result; kind = leaves a; below = label ops (behind (u ++ js)) 0 Xv.kind ∷ Xv.below; frames = Xv.frames } in
        let s2 : To M' 1 1 (st Xv (l ++ ex1) (v ∷ ops) (code (u ++ js)) gv co) (st Y (l ++ ex1) [] (rewrite C (suc dv) (u ++ js) arm) gv co) = enters ex1 (u ++ js) (behind (u ++ js)) in (
          wit C ex1 ([] ∷ u ∷ ss) ∷ ws,
          (wf, (refit l _ ex1 ([] ∷ u ∷ ss) (running g) cl f refl s1.1 (loosened C (spare C arm) l ex1 (u ++ js) [] [] tt, (λ q. s1.2.1 ∙ h.1 q), subst (λ z. Room C z arm) sp rm, tt, (own, subst (FitsIn C a) sp h.2.3, subst (λ z. Room C (grown a z) rest) sp h.2.4, h.3, outer)), fs)),
          subst (λ z. To M' 1 E (st Xv (l ++ ex) (v ∷ ops) (spill C (λ x. true) esv (code z)) gv co) (st Y (l ++ ex1) [] (rewrite C (suc dv) (u ++ js) arm) gv co)) (sym sp) (weaken M' (seq M' s1.4 s2) (omega arith) (omega (arith, f.small, few))),
        )

  pub set_sim : (C : Ctx) (ex : List Value) (e : List Place) (ss : List (List Place)) (ws : List Wit) (ix cl : ℕ) (r : Option ValType) (l ops : List Value) (en : ℕ) (kd : Kind) (Ls : List Label) (Fs : List Frame) (g : World) (co : List CollectorCall) (o x : ℕ) (rest : Nodes) → FitsFrame M E gl (running g) (frame ix r cl l (label ops (basic o (LocalSet x) rest) en kd ∷ Ls)) (wit C ex (e ∷ ss)) → FitsFrames M E gl W.result r Fs ws → WorldFits M gl g → Comes M M' E gl W (tgt M W C ex e ss ws r l ops kd Ls Fs g co (basic o (LocalSet x) rest)) (does M (LocalSet x) (cut 1 ops) rest (frame ix r cl l (label ops (basic o (LocalSet x) rest) en kd ∷ Ls)) (label ops (basic o (LocalSet x) rest) en kd) Ls Fs g co)
  set_sim C ex e ss ws ix cl r l [] en kd Ls Fs g co o x rest f fs wf = tt
  set_sim C ex [] ss ws ix cl r l (v ∷ ops) en kd Ls Fs g co o x rest f fs wf = absurd f.labels.0
  set_sim C ex (e1 ∷ e) ss ws ix cl r l (v ∷ ops) en kd Ls Fs g co o x rest f fs wf = by_local (slice_get l x) refl
    where
      by_type : (old : Value) (q : Bool) → slice_get l x ≡ Some old → same_type (type_of old) (type_of v) ≡ q → Comes M M' E gl W (tgt M W C ex (e1 ∷ e) ss ws r l (v ∷ ops) kd Ls Fs g co (basic o (LocalSet x) rest)) (affects M (when q (gives g (slice_set l x v) [])) ops rest (frame ix r cl l (label (v ∷ ops) (basic o (LocalSet x) rest) en kd ∷ Ls)) (label (v ∷ ops) (basic o (LocalSet x) rest) en kd) Ls Fs g co)
      by_type old false at q = tt
      by_type old true at q = set_written C ex e1 e ss ws ix cl r l v ops en kd Ls Fs g co o x old rest at (same_type_is (type_of old) (type_of v) q) f fs wf

      by_local : (q : Option Value) → slice_get l x ≡ q → Comes M M' E gl W (tgt M W C ex (e1 ∷ e) ss ws r l (v ∷ ops) kd Ls Fs g co (basic o (LocalSet x) rest)) (affects M (over q v (gives g (slice_set l x v) [])) ops rest (frame ix r cl l (label (v ∷ ops) (basic o (LocalSet x) rest) en kd ∷ Ls)) (label (v ∷ ops) (basic o (LocalSet x) rest) en kd) Ls Fs g co)
      by_local None at = tt
      by_local (Some old) at = by_type old (same_type (type_of old) (type_of v)) at refl

  pub tee_sim : (C : Ctx) (ex : List Value) (e : List Place) (ss : List (List Place)) (ws : List Wit) (ix cl : ℕ) (r : Option ValType) (l ops : List Value) (en : ℕ) (kd : Kind) (Ls : List Label) (Fs : List Frame) (g : World) (co : List CollectorCall) (o x : ℕ) (rest : Nodes) → FitsFrame M E gl (running g) (frame ix r cl l (label ops (basic o (LocalTee x) rest) en kd ∷ Ls)) (wit C ex (e ∷ ss)) → FitsFrames M E gl W.result r Fs ws → WorldFits M gl g → Comes M M' E gl W (tgt M W C ex e ss ws r l ops kd Ls Fs g co (basic o (LocalTee x) rest)) (does M (LocalTee x) (cut 1 ops) rest (frame ix r cl l (label ops (basic o (LocalTee x) rest) en kd ∷ Ls)) (label ops (basic o (LocalTee x) rest) en kd) Ls Fs g co)
  tee_sim C ex e ss ws ix cl r l [] en kd Ls Fs g co o x rest f fs wf = tt
  tee_sim C ex [] ss ws ix cl r l (v ∷ ops) en kd Ls Fs g co o x rest f fs wf = absurd f.labels.0
  tee_sim C ex (e1 ∷ e) ss ws ix cl r l (v ∷ ops) en kd Ls Fs g co o x rest f fs wf = by_local (slice_get l x) refl
    where
      by_type : (old : Value) (q : Bool) → slice_get l x ≡ Some old → same_type (type_of old) (type_of v) ≡ q → Comes M M' E gl W (tgt M W C ex (e1 ∷ e) ss ws r l (v ∷ ops) kd Ls Fs g co (basic o (LocalTee x) rest)) (affects M (when q (gives g (slice_set l x v) (v ∷ []))) ops rest (frame ix r cl l (label (v ∷ ops) (basic o (LocalTee x) rest) en kd ∷ Ls)) (label (v ∷ ops) (basic o (LocalTee x) rest) en kd) Ls Fs g co)
      by_type old false at q = tt
      by_type old true at q = tee_written C ex e1 e ss ws ix cl r l v ops en kd Ls Fs g co o x old rest at (same_type_is (type_of old) (type_of v) q) f fs wf

      by_local : (q : Option Value) → slice_get l x ≡ q → Comes M M' E gl W (tgt M W C ex (e1 ∷ e) ss ws r l (v ∷ ops) kd Ls Fs g co (basic o (LocalTee x) rest)) (affects M (over q v (gives g (slice_set l x v) (v ∷ []))) ops rest (frame ix r cl l (label (v ∷ ops) (basic o (LocalTee x) rest) en kd ∷ Ls)) (label (v ∷ ops) (basic o (LocalTee x) rest) en kd) Ls Fs g co)
      by_local None at = tt
      by_local (Some old) at = by_type old (same_type (type_of old) (type_of v)) at refl

  pub if_sim : (C : Ctx) (ex : List Value) (e : List Place) (ss : List (List Place)) (ws : List Wit) (ix cl : ℕ) (r : Option ValType) (l ops : List Value) (en : ℕ) (kd : Kind) (Ls : List Label) (Fs : List Frame) (g : World) (co : List CollectorCall) (o : ℕ) (a : Option ValType) (x : Nodes) (ea : Option ℕ) (y : Nodes) (en' : ℕ) (rest : Nodes) → FitsFrame M E gl (running g) (frame ix r cl l (label ops (choose o a x ea y en' rest) en kd ∷ Ls)) (wit C ex (e ∷ ss)) → FitsFrames M E gl W.result r Fs ws → WorldFits M gl g → Comes M M' E gl W (tgt M W C ex e ss ws r l ops kd Ls Fs g co (choose o a x ea y en' rest)) (chooses M ops a x ea y en' rest (frame ix r cl l (label ops (choose o a x ea y en' rest) en kd ∷ Ls)) (label ops (choose o a x ea y en' rest) en kd) Ls Fs g co)
  if_sim C ex e ss ws ix cl r l [] en kd Ls Fs g co o a x ea y en' rest f fs wf = tt
  if_sim C ex e ss ws ix cl r l (values.I64 v ∷ ops) en kd Ls Fs g co o a x ea y en' rest f fs wf = tt
  if_sim C ex [] ss ws ix cl r l (values.I32 v ∷ ops) en kd Ls Fs g co o a x ea y en' rest f fs wf = absurd f.labels.0
  if_sim C ex (e1 ∷ e) ss ws ix cl r l (values.I32 zero ∷ ops) en kd Ls Fs g co o a x ea y en' rest f fs wf =
      arm_to C ex e1 e ss ws ix cl r l (values.I32 zero) ops en kd Ls Fs g co a y 0 refl o x ea y en' rest en' f fs wf f.labels.2.2 (λ ex1 left k. one_step M' _ _ refl)
  if_sim C ex (e1 ∷ e) ss ws ix cl r l (values.I32 (suc v) ∷ ops) en kd Ls Fs g co o a x ea y en' rest f fs wf =
      arm_to C ex e1 e ss ws ix cl r l (values.I32 (suc v)) ops en kd Ls Fs g co a x (suc v) refl o x ea y en' rest (unwrap_or ea en') f fs wf f.labels.2.1 (λ ex1 left k. one_step M' _ _ (rw (ends_zero ea) refl))
