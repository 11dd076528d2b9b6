-- What whole calls hand over.
use Rattle.std.proofs.Common.{◌≡◌, ℕ, ◌-◌, ◌≤◌, List, [], ◌∷◌, ◌++◌, length, map, take, drop, refl, sym, ap, ◌∙◌, arith, append_assoc, append-nil, length-append, Option}
use Rattle.std.specs.Prelude.{flat_map, ◌==◌, false}
use Rattle.std.specs.List.{AllByRecursion}
use Rattle.std.proofs.lemmas.List.{take_at, drop_at}
use Rattle.std.proofs.lemmas.Bool.{ne_eqb, cond-false}
use Rattle.wasm_syntax.specs.declared.value.Value.{Value}
use Rattle.wasm_syntax.specs.declared.value.Value.TheVariants as values
use Rattle.wasm_syntax.specs.declared.value.Seen.{Seen}
use Rattle.wasm_syntax.specs.declared.value.Seen.TheVariants as seen
use Rattle.wasm_syntax.specs.declared.host.CollectorCall.{CollectorCall}
use Rattle.wasm_syntax.specs.declared.host.CollectorCall.TheVariants.{Frame}
use Rattle.dump_format.specs.declared.dump.Frame.{Frame as FormatFrame}
use Rattle.dump_write.specs.Image.{DumpFrame}
use Rattle.wasm_syntax.specs.Numbers.{seen_of}
use Rattle.dump_write.specs.ImageBytes.{frame_of}
use Rattle.dump_write.specs.Collected.{value_call, Entry, entry_calls, calls_of, HaveKind, Whole, collected_dump}
use Rattle.host_collector.specs.declared.gathered.Gathered.{Gathered}
use Rattle.host_collector.specs.inner.Gathering.{nothing, with_value, with_entry, with_call, gathered}

abbrev both : List FormatFrame → List Value → Gathered
both frames vs = record { frames = frames; values = vs }

in_turn : (g : Gathered) (xs ys : List CollectorCall) → gathered g (xs ++ ys) ≡ gathered (gathered g xs) ys
in_turn g [] ys = refl
in_turn g (x ∷ xs) ys = in_turn (with_call x g) xs ys

on_value : (g : Gathered) (v : Value) → with_call (value_call v) g ≡ with_value v g
on_value g (values.I32 n) = refl
on_value g (values.I64 n) = refl

over_values : (fs : List FormatFrame) (us vs : List Value) → gathered (both fs us) (map value_call vs) ≡ both fs (us ++ vs)
over_values fs us [] = ap (both fs) (sym (append-nil us))
over_values fs us (v ∷ vs) =
    ap (λ (g : Gathered). gathered g (map value_call vs)) (on_value (both fs us) v)
    ∙ over_values fs (us ++ v ∷ []) vs ∙ ap (both fs) (append_assoc us (v ∷ []) vs)

-- the last values are the locals, the others the operands
closed : (fs : List FormatFrame) (f : DumpFrame) → with_entry f.function f.offset (length f.locals) (both fs (f.operands ++ f.locals)) ≡ both (fs ++ frame_of f ∷ []) []
closed fs f =
    let n : length (f.operands ++ f.locals) - length f.locals ≡ length f.operands = omega (arith, length-append f.operands f.locals) in
    let locals : drop (length (f.operands ++ f.locals) - length f.locals) (f.operands ++ f.locals) ≡ f.locals =
    ap (λ (k : ℕ). drop k (f.operands ++ f.locals)) n ∙ drop_at f.operands f.locals (length f.operands) refl in
    let operands : take (length (f.operands ++ f.locals) - length f.locals) (f.operands ++ f.locals) ≡ f.operands =
    ap (λ (k : ℕ). take k (f.operands ++ f.locals)) n ∙ take_at f.operands f.locals (length f.operands) refl in
    λ i. both (fs ++ frame_of (record { function = f.function; offset = f.offset; locals = locals i; operands = operands i }) ∷ []) []

over_entry : (fs : List FormatFrame) (e : Entry) → (e.kind == 255) ≡ false → gathered (both fs []) (entry_calls e) ≡ both (fs ++ frame_of e.shown ∷ []) []
over_entry fs e other =
    let vs = e.shown.operands ++ e.shown.locals in
    let end = Frame e.kind e.shown.function e.shown.offset (length e.shown.locals) in
    in_turn (both fs []) (map value_call vs) (end ∷ [])
    ∙ ap (λ (g : Gathered). with_call end g) (over_values fs [] vs)
    ∙ cond-false (e.kind == 255) (both fs vs) (with_entry e.shown.function e.shown.offset (length e.shown.locals) (both fs vs)) other
    ∙ closed fs e.shown

over_entries : (fs : List FormatFrame) (es : List Entry) → AllByRecursion (λ e. (e.kind == 255) ≡ false) es → gathered (both fs []) (flat_map entry_calls es) ≡ both (fs ++ map frame_of (map (λ e. e.shown) es)) []
over_entries fs [] all = ap (λ (gs : List FormatFrame). both gs []) (sym (append-nil fs))
over_entries fs (e ∷ es) all =
    in_turn (both fs []) (entry_calls e) (flat_map entry_calls es)
    ∙ ap (λ (g : Gathered). gathered g (flat_map entry_calls es)) (over_entry fs e all.0)
    ∙ over_entries (fs ++ frame_of e.shown ∷ []) es all.1
    ∙ ap (λ (gs : List FormatFrame). both gs []) (append_assoc fs (frame_of e.shown ∷ []) (map frame_of (map (λ e. e.shown) es)))

zeros_other : (es : List Entry) → AllByRecursion (λ e. e.kind ≡ 0) es → AllByRecursion (λ e. (e.kind == 255) ≡ false) es
zeros_other [] all = tt
zeros_other (e ∷ es) all = let zero = all.0 in (ne_eqb e.kind 255 (λ last. omega (arith, zero, last)), zeros_other es all.1)

others : (es : List Entry) (kind : ℕ) → HaveKind es kind → kind ≤ 7 → AllByRecursion (λ e. (e.kind == 255) ≡ false) es
others [] kind have high = tt
others (e ∷ es) kind have high = let is = have.0 in (ne_eqb e.kind 255 (λ last. omega (arith, is, high, last)), zeros_other es have.1)

over_all : (es : List Entry) (gs : List Value) → AllByRecursion (λ e. (e.kind == 255) ≡ false) es → gathered nothing (calls_of es gs) ≡ both (map frame_of (map (λ e. e.shown) es)) gs
over_all es gs all =
    let fs = map frame_of (map (λ e. e.shown) es) in
    let end = Frame 255 0 0 (length gs) ∷ [] in
    in_turn nothing (flat_map entry_calls es) (map value_call gs ++ end)
    ∙ ap (λ (g : Gathered). gathered g (map value_call gs ++ end)) (over_entries [] es all)
    ∙ in_turn (both fs []) (map value_call gs) end
    ∙ ap (λ (g : Gathered). gathered g end) (over_values fs [] gs)

pub whole_gives : (calls : List CollectorCall) (w : Whole calls) → gathered nothing calls ≡ record { frames = map frame_of (map (λ e. e.shown) w.entries); values = w.globals }
whole_gives calls w =
    ap (λ (cs : List CollectorCall). gathered nothing cs) w.calls_are ∙ over_all w.entries w.globals (others w.entries w.kind w.kinds w.kind_is.1)

-- ---- one dump

abbrev value_back : Seen → Value
value_back (seen.I32 n) = values.I32 n
value_back (seen.I64 n) = values.I64 n
value_back seen.Missing = values.I32 0

values_back : (vs : List Value) → map value_back (map seen_of vs) ≡ vs
values_back [] = refl
values_back (values.I32 n ∷ vs) = ap (λ (us : List Value). values.I32 n ∷ us) (values_back vs)
values_back (values.I64 n ∷ vs) = ap (λ (us : List Value). values.I64 n ∷ us) (values_back vs)

abbrev frame_back : FormatFrame → DumpFrame
frame_back f = record { function = f.function; offset = f.offset; locals = map value_back f.locals; operands = map value_back f.operands }

frames_back : (fs : List DumpFrame) → map frame_back (map frame_of fs) ≡ fs
frames_back [] = refl
frames_back (f ∷ fs) =
    let locals = values_back f.locals in
    let operands = values_back f.operands in
    λ i. record { function = f.function; offset = f.offset; locals = locals i; operands = operands i } ∷ frames_back fs i

one_shown : (a b : List DumpFrame) → map frame_of a ≡ map frame_of b → a ≡ b
one_shown a b e = sym (frames_back a) ∙ ap (map frame_back) e ∙ frames_back b

pub one_dump : (calls : List CollectorCall) (v w : Whole calls) (memory : Option (List ℕ)) (name : List ℕ) → collected_dump v memory name ≡ collected_dump w memory name
one_dump calls v w memory name =
    let same = sym (whole_gives calls v) ∙ whole_gives calls w in
    let frames = one_shown (map (λ e. e.shown) v.entries) (map (λ e. e.shown) w.entries) (ap (λ (g : Gathered). g.frames) same) in
    let globals = ap (λ (g : Gathered). g.values) same in
    λ i. record { name = name; frames = frames i; globals = globals i; memory = memory }
