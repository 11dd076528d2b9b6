-- The frames that a machine shows are those of the configuration that it stands for.
use Rattle.std.proofs.Common.{◌≡◌, ℕ, zero, suc, ◌+◌, ◌-◌, ◌^◌, ◌<◌, ◌≤◌, List, [], ◌∷◌, ◌++◌, length, reverse, map, take, refl, sym, ap, subst, ◌∙◌, arith, append_assoc, length-append, Option, Some, None}
use Rattle.std.specs.Prelude.{slice_get, option_map, unwrap_or}
use Rattle.std.proofs.Math.Nat.{min-eq_left}
use Rattle.std.proofs.lemmas.List.{reverse-append, reverse-reverse, length-reverse, take_at, drop_at, append-nil}
use Rattle.std.proofs.lemmas.Option.{slice_get-map, slice_get_within}
use Rattle.wasm_syntax.specs.declared.value.Value.{Value}
use Rattle.wasm_syntax.specs.declared.value.ValType.{ValType}
use Rattle.wasm_syntax.specs.declared.instruction.Op.{Op}
use Rattle.wasm_syntax.specs.Tree.{Item, Placed, placed, item_of}
use Rattle.wasm_syntax.specs.Module.{Program, option_then}
use Rattle.wasm_syntax.specs.Machine.{Label, Frame, joined, offset_of}
use Rattle.machine_code.specs.declared.code.Code.{Code}
use Rattle.machine_code.specs.calls.Flat.{Is}
use Rattle.machine_code.specs.calls.Code.{items}
use Rattle.machine_steps.specs.declared.layout.Control.{Control}
use Rattle.machine_steps.specs.declared.layout.CallFrame.{CallFrame}
use Rattle.machine_steps.specs.declared.layout.CallStack.{CallStack}
use Rattle.machine_steps.specs.calls.Layout.{Level, Waiting, Frames}
use Rattle.machine_steps.proofs.PlaceLaws.{labels_at}
use Rattle.machine_steps.specs.declared.machine.Machine.{Machine}
use Rattle.machine_code.specs.declared.prepared.Prepared.{Prepared}
use Rattle.machine_code.specs.calls.Prepares.{IsPrepared}
use Rattle.machine_hosted.specs.calls.Answers.{KeepsFrames}
use Rattle.dump_write.specs.Image.{DumpFrame, frame_image, frame_images}
use Rattle.wasm_machine.specs.declared.frames.Extent.{Extent}
use Rattle.wasm_machine.specs.inner.Shown.{between, offset_at, numbered, frame_shown, frames_shown, all_shown, extent_under}
use Rattle.machine_steps.proofs.CallLaws.{as_many}
use Rattle.pm_text.proofs.Lists.{some_is}

-- ---- the values of a frame

-- the middle one of three parts
middle : (a b c : List Value) (from to : ℕ) → from ≡ length a → to ≡ length b + length a → between (a ++ (b ++ c)) from to ≡ b
middle a b c from to start finish =
    let count : length b ≡ to - from = omega arith in
    ap (λ (vs : List Value). take (to - from) vs) (drop_at a (b ++ c) from (sym start)) ∙ take_at b c (to - from) count

-- the lowest value first
lowest_first : (ops locals below above : List Value) → reverse (ops ++ (reverse locals ++ below)) ++ above ≡ reverse below ++ (locals ++ (reverse ops ++ above))
lowest_first ops locals below above =
    ap (λ (vs : List Value). vs ++ above) (reverse-append ops (reverse locals ++ below))
    ∙ ap (λ (vs : List Value). (vs ++ reverse ops) ++ above) (reverse-append (reverse locals) below)
    ∙ ap (λ (vs : List Value). ((reverse below ++ vs) ++ reverse ops) ++ above) (reverse-reverse locals)
    ∙ append_assoc (reverse below ++ locals) (reverse ops) above
    ∙ append_assoc (reverse below) locals (reverse ops ++ above)

-- ---- where a frame stands

offset_some : (o : Option Op) (ts : List ℕ) (offset : ℕ) (item : Item) → option_map (λ o. placed o.at (item_of ts o.code)) o ≡ Some (placed offset item) → unwrap_or (option_map (λ o. o.at) o) 0 ≡ offset
offset_some None ts offset item e = absurd (cc)
offset_some (Some op) ts offset item e = ap (λ (q : Placed). q.at) (some_is e)

offset_shown : (codes : List Code) (f at offset : ℕ) (code : Code) (item : Item) → slice_get codes f ≡ Some code → Is (items code) code.sides at offset item → offset_at codes f at ≡ offset
offset_shown codes f at offset code item is there =
    ap (λ (o : Option Code). unwrap_or (option_then o (λ (c : Code). option_map (λ o. o.at) (slice_get c.body.now.ops at))) 0) is
    ∙ offset_some (slice_get code.body.now.ops at) code.body.now.targets offset item (sym (slice_get-map (λ (o : Op). placed o.at (item_of code.body.now.targets o.code)) code.body.now.ops at) ∙ there)

-- ---- the index of a function

then_within : {A B : Type 0} (xs : List A) (i : ℕ) (go : A → Option B) (b : B) → option_then (slice_get xs i) go ≡ Some b → i < length xs
then_within {A = A} {B = B} xs i go b = by_option (slice_get xs i) refl
  where
    by_option : (o : Option A) → slice_get xs i ≡ o → option_then o go ≡ Some b → i < length xs
    by_option None is e = absurd (cc)
    by_option (Some x) is e = slice_get_within xs i x is

module _ (p : Program) (codes : List Code) (imports : ℕ) (count : imports ≡ length p.module_.imports) (few : length p.module_.imports + length p.module_.functions < 2 ^ 32) where
  number_shown : (f g : ℕ) → g ≡ length p.module_.imports + f → f < length p.module_.functions → numbered imports f ≡ g
  number_shown f g is within =
      let small : imports + f < 2 ^ 32 = omega (arith, few) in
      let low : imports + f ≤ 2 ^ 32 - 1 = omega arith in
      min-eq_left low ∙ omega arith

  -- a frame shows what it has
  level_shown : (function : ℕ) (result : Option ValType) (locals : List Value) (labels : List Label) (e : CallFrame) (code : Code) (pc : ℕ) (ks : List Control) (vs : List Value) (ks' : List Control) (vs' above : List Value) (at offset : ℕ) (item : Item)
      → Level p codes function result locals labels e code pc ks vs ks' vs' → Is (items code) code.sides at offset item
      → frame_shown imports codes (reverse vs ++ above) e (length vs) at ≡ record { function = function; offset = offset; locals = locals; operands = reverse (joined labels) }
  level_shown function result locals labels e code pc ks vs ks' vs' above at offset item level there =
      λ i. record { function = number i; offset = place i; locals = locals_are i; operands = operands_are i }
    where
      ops : List Value
      ops = joined labels

      values : reverse vs ++ above ≡ reverse vs' ++ (locals ++ (reverse (joined labels) ++ above))
      values = ap (λ (us : List Value). reverse us ++ above) level.vs_are ∙ lowest_first (joined labels) locals vs' above

      number : numbered imports e.function ≡ function
      number = number_shown e.function function level.index (then_within p.module_.functions e.function _ _ level.is_defined)

      place : offset_at codes e.function at ≡ offset
      place = offset_shown codes e.function at offset code item level.code_is there

      locals_are : between (reverse vs ++ above) e.base e.floor ≡ locals
      locals_are =
          ap (λ (us : List Value). between us e.base e.floor) values
          ∙ middle (reverse vs') locals (reverse (joined labels) ++ above) e.base e.floor (level.base ∙ sym (length-reverse vs')) (omega (arith, level.floor, length-reverse vs'))

      top : length vs ≡ length (reverse (joined labels)) + length (reverse vs' ++ locals)
      top = omega (arith, ap length level.vs_are, length-append (joined labels) (reverse locals ++ vs'), length-append (reverse locals) vs', length-reverse locals, length-reverse vs', length-reverse (joined labels), length-append (reverse vs') locals)

      operands_are : between (reverse vs ++ above) e.floor (length vs) ≡ reverse (joined labels)
      operands_are =
          ap (λ (us : List Value). between us e.floor (length vs)) (values ∙ sym (append_assoc (reverse vs') locals (reverse (joined labels) ++ above)))
          ∙ middle (reverse vs' ++ locals) (reverse (joined labels)) above e.floor (length vs) (omega (arith, level.floor, length-append (reverse vs') locals, length-reverse vs')) top

  abbrev waits : Frame → DumpFrame
  waits g = frame_image g.call g

  one_first : (x y : DumpFrame) (xs ys : List DumpFrame) → x ≡ y → xs ≡ ys → x ∷ xs ≡ y ∷ ys
  one_first x y xs ys one rest = λ i. one i ∷ rest i

  -- what stands above the values of the frames below
  below_are : (f : Frame) (vs vs' above : List Value) → vs ≡ joined f.labels ++ (reverse f.locals ++ vs') → reverse vs ++ above ≡ reverse vs' ++ (f.locals ++ (reverse (joined f.labels) ++ above))
  below_are f vs vs' above e = ap (λ (us : List Value). reverse us ++ above) e ∙ lowest_first (joined f.labels) f.locals vs' above

  waiting_shown : (fs : List Frame) (es : List CallFrame) (pc : ℕ) (ks : List Control) (vs above : List Value) → Waiting p codes fs es pc ks vs → frames_shown imports codes (reverse vs ++ above) es (length vs) (pc - 1) ≡ map waits fs
  waiting_shown [] [] pc ks vs above w = refl
  waiting_shown [] (e ∷ es) pc ks vs above w = absurd w
  waiting_shown (f ∷ fs) [] pc ks vs above w = absurd w
  waiting_shown (f ∷ fs) (e ∷ es) pc ks vs above w =
      let code = w.0 in
      let vs' = w.2 in
      let level = w.3 in
      let called = w.4 in
      let at : called.0 ≡ pc - 1 = omega (arith, called.2) in
      let there : Is (items code) code.sides (pc - 1) f.call called.1 = subst (λ (n : ℕ). Is (items code) code.sides n f.call called.1) at called.3 in
      let rest : frames_shown imports codes (reverse vs ++ above) es e.base (e.returns_to - 1) ≡ map waits fs =
      ap (λ (us : List Value). frames_shown imports codes us es e.base (e.returns_to - 1)) (below_are f vs vs' above level.vs_are)
      ∙ ap (λ (n : ℕ). frames_shown imports codes (reverse vs' ++ (f.locals ++ (reverse (joined f.labels) ++ above))) es n (e.returns_to - 1)) level.base
      ∙ waiting_shown fs es e.returns_to w.1 vs' (f.locals ++ (reverse (joined f.labels) ++ above)) w.5
      in
      one_first _ _ _ _ (level_shown f.function f.result f.locals f.labels e code pc ks vs w.1 vs' above (pc - 1) f.call called.1 level there) rest

  frames_are : (fs : List Frame) (es : List CallFrame) (pc : ℕ) (ks : List Control) (vs : List Value) → Frames p codes fs es pc ks vs → frames_shown imports codes (reverse vs) es (length vs) pc ≡ frame_images fs
  frames_are [] es pc ks vs w = absurd w
  frames_are (f ∷ fs) [] pc ks vs w = absurd w
  frames_are (f ∷ fs) (e ∷ es) pc ks vs w =
      let code = w.0 in
      let vs' = w.2 in
      let level = w.3 in
      let first = labels_at (items code) code.sides f.result (length f.locals + length vs') f.labels pc level.mine level.labels_are in
      let rest : frames_shown imports codes (reverse vs ++ []) es e.base (e.returns_to - 1) ≡ map waits fs =
      ap (λ (us : List Value). frames_shown imports codes us es e.base (e.returns_to - 1)) (below_are f vs vs' [] level.vs_are)
      ∙ ap (λ (n : ℕ). frames_shown imports codes (reverse vs' ++ (f.locals ++ (reverse (joined f.labels) ++ []))) es n (e.returns_to - 1)) level.base
      ∙ waiting_shown fs es e.returns_to w.1 vs' (f.locals ++ (reverse (joined f.labels) ++ [])) w.4
      in
      ap (λ (us : List Value). frames_shown imports codes us (e ∷ es) (length vs) pc) (sym (append-nil (reverse vs)))
      ∙ one_first _ _ _ _ (level_shown f.function f.result f.locals f.labels e code pc ks vs w.1 vs' [] pc (offset_of f.labels) first.0 level first.1) rest

-- the frames of a machine are those of each configuration that it keeps
pub frames_kept : (p : Program) (prepared : Prepared) (m : Machine) (fs : List Frame) → IsPrepared p prepared → length p.module_.imports + length p.module_.functions < 2 ^ 32 → KeepsFrames p prepared.codes.items m fs → all_shown prepared m ≡ frame_images fs
frames_kept p prepared m [] is few none = ap (λ (es : List CallFrame). frames_shown prepared.imports prepared.codes.items (reverse m.stack.values) es (length m.stack.values) m.stack.position) none
frames_kept p prepared m (f ∷ fs) is few stands = frames_are p prepared.codes.items prepared.imports is.imports few (f ∷ fs) m.stack.frames m.stack.position m.stack.controls m.stack.values stands

-- ---- as many frames

frames_count : (p : Program) (codes : List Code) (fs : List Frame) (es : List CallFrame) (pc : ℕ) (ks : List Control) (vs : List Value) → Frames p codes fs es pc ks vs → length es ≡ length fs
frames_count p codes [] es pc ks vs w = absurd w
frames_count p codes (f ∷ fs) [] pc ks vs w = absurd w
frames_count p codes (f ∷ fs) (e ∷ es) pc ks vs w = ap (λ (n : ℕ). suc n) (as_many p codes fs es e.returns_to w.1 w.2 w.4)

pub count_kept : (p : Program) (codes : List Code) (m : Machine) (fs : List Frame) → KeepsFrames p codes m fs → length m.stack.frames ≡ length fs
count_kept p codes m [] none = ap (λ (es : List CallFrame). length es) none
count_kept p codes m (f ∷ fs) stands = frames_count p codes (f ∷ fs) m.stack.frames m.stack.position m.stack.controls m.stack.values stands

-- ---- the frame at an index

module _ (imports : ℕ) (codes : List Code) (values : List Value) where
  pub shown_count : (es : List CallFrame) (top at : ℕ) → length (frames_shown imports codes values es top at) ≡ length es
  shown_count [] top at = refl
  shown_count (e ∷ es) top at = ap (λ (n : ℕ). suc n) (shown_count es e.base (e.returns_to - 1))

  pub first_shown : (es : List CallFrame) (e : CallFrame) (top at : ℕ) → slice_get es 0 ≡ Some e → slice_get (frames_shown imports codes values es top at) 0 ≡ Some (frame_shown imports codes values e top at)
  first_shown [] e top at is = absurd (cc)
  first_shown (a ∷ es) e top at is = ap (λ (b : CallFrame). Some (frame_shown imports codes values b top at)) (some_is is)

  pub later_shown : (es : List CallFrame) (i : ℕ) (above e : CallFrame) (top at : ℕ) → slice_get es i ≡ Some above → slice_get es (suc i) ≡ Some e → slice_get (frames_shown imports codes values es top at) (suc i) ≡ Some (frame_shown imports codes values e above.base (above.returns_to - 1))
  later_shown [] i above e top at is there = absurd (cc)
  later_shown (a ∷ es) zero above e top at is there =
      first_shown es e a.base (a.returns_to - 1) there
      ∙ ap (λ (b : CallFrame). Some (frame_shown imports codes values e b.base (b.returns_to - 1))) (some_is is)
  later_shown (a ∷ es) (suc i) above e top at is there = later_shown es i above e a.base (a.returns_to - 1) is there

some_below : (es : List CallFrame) (i : ℕ) (e : CallFrame) → slice_get es (suc i) ≡ Some e → (above : CallFrame) × (slice_get es i ≡ Some above)
some_below [] i e is = absurd (cc)
some_below (a ∷ es) zero e is = (a, refl)
some_below (a ∷ es) (suc i) e is = some_below es i e is

pub not_past : (es : List CallFrame) (i : ℕ) → i < length es → slice_get es i ≡ None → ⊥
not_past [] i inside is = omega arith
not_past (a ∷ es) zero inside is = cc
not_past (a ∷ es) (suc i) inside is = not_past es i (omega arith) is

pub indexed_shown : (imports : ℕ) (codes : List Code) (values : List Value) (m : CallStack) (i : ℕ) (e : CallFrame) (x : Extent) → slice_get m.frames i ≡ Some e
    → (i ≡ 0 → x ≡ record { top = length m.values; at = m.position }) → (0 < i → x ≡ extent_under (slice_get m.frames (i - 1)))
    → slice_get (frames_shown imports codes values m.frames (length m.values) m.position) i ≡ Some (frame_shown imports codes values e x.top x.at)
indexed_shown imports codes values m zero e x is first others =
    first_shown imports codes values m.frames e (length m.values) m.position is ∙ ap (λ (y : Extent). Some (frame_shown imports codes values e y.top y.at)) (sym (first refl))
indexed_shown imports codes values m (suc i) e x is first others =
    let below = some_below m.frames i e is in
    let before : suc i - 1 ≡ i = omega arith in
    let inside : 0 < suc i = omega arith in
    let reach : x ≡ extent_under (Some below.0) = others inside ∙ ap (λ (n : ℕ). extent_under (slice_get m.frames n)) before ∙ ap extent_under below.1 in
    later_shown imports codes values m.frames i below.0 e (length m.values) m.position below.1 is ∙ ap (λ (y : Extent). Some (frame_shown imports codes values e y.top y.at)) (sym reach)
