-- What is collected of a trapped configuration is whole, and its dump is the image.
use Rattle.std.proofs.Common.{◌≡◌, ℕ, zero, suc, ◌+◌, ◌*◌, ◌<◌, ◌≤◌, List, [], ◌∷◌, ◌++◌, length, map, reverse, Option, Bool, true, false, refl, sym, ap, ◌∙◌, arith, append_assoc, append-nil, length-append, option_map, mul-le-mul}
use Rattle.wasm_syntax.specs.declared.value.ValType.{ValType}
use Rattle.wasm_syntax.specs.declared.value.Value.{Value}
use Rattle.wasm_syntax.specs.declared.host.CollectorCall.{CollectorCall}
use Rattle.wasm_syntax.specs.declared.host.CollectorCall.TheVariants as collector_calls
use Rattle.wasm_syntax.specs.Tree.{Nodes}
use Rattle.wasm_syntax.specs.Host.{World}
use Rattle.wasm_syntax.specs.Machine.{Label, Frame, Config, frame, Engine, calls, offset_of}
use Rattle.rewrite_bodies.specs.calls.Slots.{Place, Ctx, grown, greatest}
use Rattle.rewrite_bodies.specs.calls.Rewrite.{spare}
use Rattle.rewrite_bodies.specs.calls.Agreement.{awaits, pending, joined, UnderWay, Wit, HoldsBut, FitsLabels, FitsOpen, FitsFrame, FitsFrames, FitsTop, FitsConfig, Doing, Runs, Waits, running}
use Rattle.dump_write.specs.Collected.{value_call, Entry, entry_calls, calls_of, HaveKind, Whole, collected_dump}
use Rattle.rewrite_bodies.specs.calls.Telling.{tell_ops, tell_labels, tell_locals, tell_frame, tell_outer, tell_frames, collected}
use Rattle.std.proofs.lemmas.List.{map-append, reverse-append, length-reverse}
use Rattle.rewrite_bodies.proofs.Sim.{room_height, len_of, wit_under, grown_longer}
use Rattle.rewrite_bodies.proofs.Calls.{holds_len}
use Rattle.std.specs.Prelude.{flat_map}
use Rattle.dump_write.specs.Image.{frame_image, frame_images}
use Rattle.dump_write.specs.Image as dumps
use Rattle.wasm_syntax.specs.Machine as machine
use Rattle.std.specs.List.{AllByRecursion}

rev_ops : (ops : List Value) (co : List CollectorCall) → reverse (tell_ops ops co) ≡ reverse co ++ map value_call (reverse ops)
rev_ops [] co = sym (append-nil (reverse co))
rev_ops (v ∷ ops) co =
    reverse-append (value_call v ∷ []) (tell_ops ops co) ∙ ap (λ z. z ++ value_call v ∷ []) (rev_ops ops co)
    ∙ append_assoc (reverse co) (map value_call (reverse ops)) (value_call v ∷ [])
    ∙ ap (λ z. reverse co ++ z) (sym (map-append value_call (reverse ops) (v ∷ [])) ∙ ap (map value_call) (sym (reverse-append (v ∷ []) ops)))

rev_labels : (Ls : List Label) (co : List CollectorCall) → reverse (tell_labels Ls co) ≡ reverse co ++ map value_call (reverse (machine.joined Ls))
rev_labels [] co = sym (append-nil (reverse co))
rev_labels (L ∷ Ls) co =
    rev_ops L.operands (tell_labels Ls co) ∙ ap (λ z. z ++ map value_call (reverse L.operands)) (rev_labels Ls co)
    ∙ append_assoc (reverse co) (map value_call (reverse (machine.joined Ls))) (map value_call (reverse L.operands))
    ∙ ap (λ z. reverse co ++ z) (sym (map-append value_call (reverse (machine.joined Ls)) (reverse L.operands)) ∙ ap (map value_call) (sym (reverse-append L.operands (machine.joined Ls))))

rev_locals : (l : List Value) (co : List CollectorCall) → reverse (tell_locals l co) ≡ reverse co ++ map value_call l
rev_locals [] co = sym (append-nil (reverse co))
rev_locals (v ∷ l) co =
    rev_locals l (value_call v ∷ co) ∙ ap (λ z. z ++ map value_call l) (reverse-append (value_call v ∷ []) co)
    ∙ append_assoc (reverse co) (value_call v ∷ []) (map value_call l)

abbrev pub entry_of : ℕ → ℕ → Frame → Entry
entry_of k o F = record { kind = k; shown = frame_image o F }

rev_frame : (k o : ℕ) (F : Frame) (co : List CollectorCall) → reverse (tell_frame k o F co) ≡ reverse co ++ entry_calls (entry_of k o F)
rev_frame k o F co =
    let ops = reverse (machine.joined F.labels) in
    let end = collector_calls.Frame k F.function o (length F.locals) ∷ [] in
    reverse-append end (tell_locals F.locals (tell_labels F.labels co))
    ∙ ap (λ z. z ++ end) (rev_locals F.locals (tell_labels F.labels co) ∙ ap (λ z. z ++ map value_call F.locals) (rev_labels F.labels co) ∙ append_assoc (reverse co) (map value_call ops) (map value_call F.locals) ∙ ap (λ z. reverse co ++ z) (sym (map-append value_call ops F.locals)))
    ∙ append_assoc (reverse co) (map value_call (ops ++ F.locals)) end

abbrev pub outer_entries : List Frame → List Entry
outer_entries Fs = map (λ F. entry_of 0 F.call F) Fs

rev_outer : (Fs : List Frame) (co : List CollectorCall) → reverse (tell_outer Fs co) ≡ reverse co ++ flat_map entry_calls (outer_entries Fs)
rev_outer [] co = sym (append-nil (reverse co))
rev_outer (F ∷ Fs) co =
    rev_outer Fs (tell_frame 0 F.call F co) ∙ ap (λ z. z ++ flat_map entry_calls (outer_entries Fs)) (rev_frame 0 F.call F co)
    ∙ append_assoc (reverse co) (entry_calls (entry_of 0 F.call F)) (flat_map entry_calls (outer_entries Fs))

abbrev pub entries_of : ℕ → List Frame → List Entry
entries_of k [] = []
entries_of k (F ∷ Fs) = entry_of k (offset_of F.labels) F ∷ outer_entries Fs

rev_frames : (k : ℕ) (Fs : List Frame) (co : List CollectorCall) → reverse (tell_frames k Fs co) ≡ reverse co ++ flat_map entry_calls (entries_of k Fs)
rev_frames k [] co = sym (append-nil (reverse co))
rev_frames k (F ∷ Fs) co =
    rev_outer Fs (tell_frame k (offset_of F.labels) F co) ∙ ap (λ z. z ++ flat_map entry_calls (outer_entries Fs)) (rev_frame k (offset_of F.labels) F co)
    ∙ append_assoc (reverse co) (entry_calls (entry_of k (offset_of F.labels) F)) (flat_map entry_calls (outer_entries Fs))

pub rev_collected : (k : ℕ) (c : Config) → c.collected ≡ [] → reverse (collected k c) ≡ calls_of (entries_of k c.frames) c.world.globals
rev_collected k c e =
    let end = collector_calls.Frame 255 0 0 (length c.world.globals) ∷ [] in
    let f = flat_map entry_calls (entries_of k c.frames) in
    reverse-append end (tell_locals c.world.globals (tell_frames k c.frames c.collected))
    ∙ ap (λ z. z ++ end) (rev_locals c.world.globals (tell_frames k c.frames c.collected) ∙ ap (λ z. z ++ map value_call c.world.globals) (rev_frames k c.frames c.collected ∙ ap (λ z. reverse z ++ f) e))
    ∙ append_assoc f (map value_call c.world.globals) end

pub outer_zero : (Fs : List Frame) → AllByRecursion (λ e. e.kind ≡ 0) (outer_entries Fs)
outer_zero [] = tt
outer_zero (F ∷ Fs) = (refl, outer_zero Fs)

shown_outer : (Fs : List Frame) → map (λ e. e.shown) (outer_entries Fs) ≡ map (λ g. frame_image g.call g) Fs
shown_outer [] = refl
shown_outer (F ∷ Fs) = ap (λ z. frame_image F.call F ∷ z) (shown_outer Fs)

-- ---- how many they are

len_ops : (ops : List Value) (co : List CollectorCall) → length (tell_ops ops co) ≡ length ops + length co
len_ops [] co = omega arith
len_ops (v ∷ ops) co = omega (arith, len_ops ops co)

len_locals : (l : List Value) (co : List CollectorCall) → length (tell_locals l co) ≡ length l + length co
len_locals [] co = omega arith
len_locals (v ∷ l) co = omega (arith, len_locals l (value_call v ∷ co))

len_labels : (C : Ctx) (l ex : List Value) (a : Option ValType) (Ls : List Label) (ss : List (List Place)) (co : List CollectorCall) → FitsLabels C l ex a Ls ss → length (tell_labels Ls co) ≡ length (joined ss) + length co
len_labels C l ex a [] [] co h = omega arith
len_labels C l ex a [] (_ ∷ _) co h = absurd h
len_labels C l ex a (L ∷ Ls) [] co h = absurd h
len_labels C l ex a (L ∷ Ls) (e ∷ ss) co h =
    omega (arith, len_ops L.operands (tell_labels Ls co), holds_len C l ex (joined ss) e L.operands h.0, len_labels C [] ex (awaits (pending L.kind)) Ls ss co h.4, length-append e (joined ss))

-- of the operands of a label of which all but so many are kept
len_but : (C : Ctx) (n : ℕ) (l ex : List Value) (js e : List Place) (ops : List Value) → HoldsBut C n l ex js ops e → length ops ≡ length e
len_but C zero l ex js e ops h = holds_len C l ex js e ops h
len_but C (suc n) l ex js [] [] h = refl
len_but C (suc n) l ex js [] (v ∷ ops) h = absurd h
len_but C (suc n) l ex js (e ∷ es) [] h = absurd h
len_but C (suc n) l ex js (e ∷ es) (v ∷ ops) h = ap suc (len_but C n l ex js es ops h.1)

len_open : (C : Ctx) (l ex : List Value) (a : Doing) (L : Label) (Ls : List Label) (e : List Place) (ss : List (List Place)) (co : List CollectorCall) → FitsOpen C l ex a (L ∷ Ls) (e ∷ ss) → (length (tell_labels (L ∷ Ls) co) ≡ length (joined (e ∷ ss)) + length co) × (length (e ++ joined ss) ≤ C.slots)
len_open C l ex (Runs n) L Ls e ss co h = (
  omega (arith, len_ops L.operands (tell_labels Ls co), len_but C (spare C L.nodes) l ex (joined ss) e L.operands h.0, len_labels C [] ex (awaits (pending L.kind)) Ls ss co h.4, length-append e (joined ss)),
  room_height C (e ++ joined ss) L.nodes h.2,
)
len_open C l ex (Waits a) L Ls e ss co h =
    (len_labels C l ex a (L ∷ Ls) (e ∷ ss) co h, omega (arith, grown_longer a (e ++ joined ss), room_height C (grown a (e ++ joined ss)) L.nodes h.2))

len_frame_in : (M : Engine) (E : ℕ) (gl : List ValType) (a : Doing) (k o : ℕ) (C : Ctx) (ex : List Value) (ss : List (List Place)) (others : Option UnderWay) (ix cl : ℕ) (r : Option ValType) (l : List Value) (Ls : List Label) (co : List CollectorCall) → FitsFrame M E gl a (frame ix r cl l Ls) (wit_under C ex ss others) → length (tell_frame k o (frame ix r cl l Ls) co) ≤ suc ((greatest M.program).0 + (greatest M.program).1) + length co
len_frame_in M E gl a k o C ex ss others ix cl r l [] co f = absurd f.labels
len_frame_in M E gl a k o C ex [] others ix cl r l (L ∷ Ls) co f = absurd f.labels
len_frame_in M E gl a k o C ex (e ∷ ss) others ix cl r l (L ∷ Ls) co f =
    let h = len_open C l ex a L Ls e ss co f.labels in
    omega (arith, len_locals l (tell_labels (L ∷ Ls) co), h.0, h.1, f.narrow, len_of l C.locals f.size)

len_outer : (M : Engine) (E : ℕ) (gl : List ValType) (wr r : Option ValType) (Fs : List Frame) (ws : List Wit) (co : List CollectorCall) → FitsFrames M E gl wr r Fs ws → length (tell_outer Fs co) ≤ length Fs * suc ((greatest M.program).0 + (greatest M.program).1) + length co
len_outer M E gl wr r [] ws co h = omega arith
len_outer M E gl wr r (F ∷ Fs) [] co h = absurd h
len_outer M E gl wr r (F ∷ Fs) (w ∷ ws) co h =
    omega (arith, len_outer M E gl wr F.result Fs ws (tell_frame 0 F.call F co) h.1, len_frame_in M E gl (Waits r) 0 F.call w.ctx w.ex w.ss w.under_way F.function F.call F.result F.locals F.labels co h.0)

len_top : (M : Engine) (E : ℕ) (gl : List ValType) (g : World) (wr : Option ValType) (k : ℕ) (Fs : List Frame) (ws : List Wit) (co : List CollectorCall) → FitsTop M E gl g wr Fs ws → length (tell_frames k Fs co) ≤ length Fs * suc ((greatest M.program).0 + (greatest M.program).1) + length co
len_top M E gl g wr k [] ws co h = absurd h
len_top M E gl g wr k (F ∷ Fs) [] co h = absurd h
len_top M E gl g wr k (F ∷ Fs) (w ∷ ws) co h =
    omega (arith, len_outer M E gl wr F.result Fs ws (tell_frame k (offset_of F.labels) F co) h.1, len_frame_in M E gl (running g) k (offset_of F.labels) w.ctx w.ex w.ss w.under_way F.function F.call F.result F.locals F.labels co h.0)

pub few_calls : (M : Engine) (E : ℕ) (gl : List ValType) (wr : Option ValType) (k : ℕ) (c : Config) (ws : List Wit) → FitsConfig M E gl wr c ws → c.collected ≡ [] → length c.frames ≤ 10000 → (greatest M.program).0 ≤ 10000 → (greatest M.program).1 ≤ 1000 → length c.world.globals ≤ 20000000 → length (reverse (collected k c)) ≤ 134217728
few_calls M E gl wr k c ws h e d l s g =
    let t = len_top M E gl c.world wr k c.frames ws c.collected h.1 in
    let z : length c.collected ≡ 0 = ap length e in
    let narrow : suc ((greatest M.program).0 + (greatest M.program).1) ≤ 11001 = omega (arith, l, s) in
    let n : length c.frames * suc ((greatest M.program).0 + (greatest M.program).1) ≤ 10000 * 11001 = mul-le-mul d narrow in
    omega (arith, length-reverse (collected k c), len_locals c.world.globals (tell_frames k c.frames c.collected), t, z, n, g)

-- ---- the collected list is whole, and its dump is the image

module _ (k : ℕ) (c : Config) (e : c.collected ≡ []) (calls : List CollectorCall) (same : calls ≡ reverse (collected k c)) (kl : 1 ≤ k) (kh : k ≤ 7) (few : length calls ≤ 134217728) where
  pub kinds_of : (Fs : List Frame) → 0 < length Fs → HaveKind (entries_of k Fs) k
  kinds_of [] lt = absurd (omega (arith, lt))
  kinds_of (F ∷ Fs) lt = (refl, outer_zero Fs)

  abbrev pub whole_is : 0 < length c.frames → Whole calls
  whole_is lt = record { kind = k; entries = entries_of k c.frames; globals = c.world.globals; calls_are = same ∙ rev_collected k c e; kinds = kinds_of c.frames lt; kind_is = (kl, kh); few = few }

  images : (Fs : List Frame) → map (λ e. e.shown) (entries_of k Fs) ≡ frame_images Fs
  images [] = refl
  images (F ∷ Fs) = ap (λ z. frame_image (offset_of F.labels) F ∷ z) (shown_outer Fs)

  -- the dump of the list is the image of the configuration
  pub dump_is : (lt : 0 < length c.frames) (memory : Option (List ℕ)) (name : List ℕ) → memory ≡ option_map (λ m. m.bytes) c.world.memory → collected_dump (whole_is lt) memory name ≡ dumps.image c name
  dump_is lt memory name me = λ i. record { name = name; frames = images c.frames i; globals = c.world.globals; memory = me i }
