-- A function is left.
use Rattle.std.proofs.Common.{◌≡◌, ℕ, ◌-◌, List, [], ◌∷◌, ◌++◌, length, reverse, drop, refl, sym, ap, subst, ◌∙◌, append_assoc, length-append, arith}
use Rattle.std.proofs.lemmas.List.{drop_at, append-nil}
use Rattle.std.specs.Prelude.{Bool, true, Option, Some, None, slice_get, slice_set}
use Rattle.wasm_syntax.specs.declared.value.Value.{Value}
use Rattle.wasm_syntax.specs.Machine as steps
use Rattle.wasm_syntax.specs.Machine.{Label, label, Frame, joined, arrive, top, out_some}
use Rattle.machine_code.specs.declared.code.Code.{Code}
use Rattle.machine_code.specs.calls.Code.{gives_one}
use Rattle.machine_steps.specs.declared.layout.Control.{Control}
use Rattle.machine_steps.specs.declared.layout.CallFrame.{CallFrame}
use Rattle.machine_steps.specs.declared.layout.CallStack.{CallStack}
use Rattle.machine_steps.specs.declared.layout.Stepped.{Stepped}
use Rattle.machine_steps.specs.declared.layout.Stepped.TheVariants.{Next, Ended, Trap, NoMemory, Stuck}
use Rattle.machine_steps.specs.calls.Layout.{Level, Waiting}
use Rattle.machine_steps.specs.calls.FramesMeet.{Point, Meets, Inner, return_at}
use Rattle.machine_steps.specs.inner.Moves.{Carried, Leaves}
use Rattle.pm_text.proofs.Lists.{some_is}
use Rattle.machine_steps.proofs.Labels.{top_splits}
use Rattle.machine_steps.proofs.Points.{stuck_meets}

regroup : {A : Type 0} (taken gone outer locals below : List A) → ((taken ++ gone) ++ outer) ++ (locals ++ below) ≡ taken ++ ((gone ++ (outer ++ locals)) ++ below)
regroup taken gone outer locals below = simp append_assoc refl

-- the lowest elements of a stack
pub lowest : {A : Type 0} (all above below : List A) (n : ℕ) → all ≡ above ++ below → length below ≡ n → drop (length all - n) all ≡ below
lowest all above below n e l =
    let k : length all - n ≡ length above = omega (arith, ap length e, length-append above below) in
    ap (λ j. drop j all) k ∙ ap (drop (length above)) e ∙ drop_at above below (length above) refl

-- the topmost value takes the place of the deepest one above the others
set_last : (v u : Value) (over below : List Value) → slice_set (drop (length over) (u ∷ (over ++ below))) 0 v ≡ v ∷ below
set_last v u [] below = refl
set_last v u (o ∷ os) below = set_last v o os below

pub over_last : (v x : Value) (old kept over below : List Value) (height : ℕ) → old ≡ kept ++ (over ++ below) → kept ≡ x ∷ [] → length below ≡ height → Some v ≡ slice_get old 0 → slice_set (drop (length old - height - 1) old) 0 v ≡ kept ++ below
over_last v x old kept over below height e k h p =
    let all : old ≡ x ∷ (over ++ below) = e ∙ ap (λ l. l ++ (over ++ below)) k in
    let same : v ≡ x = some_is (p ∙ ap (λ l. slice_get l 0) all) in
    let n : length old - height - 1 ≡ length over = omega (arith, ap length all, length-append over below, h) in
    ap (λ j. slice_set (drop j old) 0 v) n ∙ ap (λ l. slice_set (drop (length over) l) 0 v) all ∙ set_last v x over below ∙ ap (λ y. y ∷ below) same ∙ sym (ap (λ l. l ++ below) k)

-- one value carried along
pub carried_top : (kept over below : List Value) (v : Value) (popped : List Value) → Carried true kept → v ∷ popped ≡ kept ++ (over ++ below) → (kept ≡ v ∷ []) × (popped ≡ over ++ below)
carried_top kept over below v popped c e =
    let q : v ∷ popped ≡ c.0 ∷ (over ++ below) = e ∙ ap (λ k. k ++ (over ++ below)) c.1 in
    let head : c.0 ≡ v = cc in
    let tail : popped ≡ over ++ below = cc in
    (c.1 ∙ ap (λ u. u ∷ []) head, tail)

pub carried_none : (kept over below : List Value) → Carried true kept → [] ≡ kept ++ (over ++ below) → ⊥
carried_none kept over below c e = let q : [] ≡ c.0 ∷ (over ++ below) = e ∙ ap (λ k. k ++ (over ++ below)) c.1 in cc

pub leaves_ended : (es : List CallFrame) (m to : CallStack) → length es ≡ 0 → m ≡ to → Leaves Ended es m to
leaves_ended [] m to n e = e
leaves_ended (f ∷ es) m to n e = absurd (omega arith)

pub leaves_next : (es : List CallFrame) (m to : CallStack) → (length es ≡ 0 → ⊥) → m ≡ to → Leaves Next es m to
leaves_next [] m to n e = absurd (n refl)
leaves_next (f ∷ es) m to n e = e

module _ (x : Point) (m : CallStack) (code : Code) (h : Inner x m code) (a : Stepped) (m' : CallStack) where
  -- the callers, under the results
  abbrev after : List Value → CallStack
  after taken = record { values = taken ++ h.vs_below; controls = h.ks_below; frames = h.es; position = h.e.returns_to }

  hand_over : (taken : List Value) (f : Frame) (fs : List Frame) (e : CallFrame) (es : List CallFrame) (pc : ℕ) (ks : List Control) (vs : List Value) → m' ≡ record { values = taken ++ vs; controls = ks; frames = e ∷ es; position = pc } →
      Waiting x.engine.program x.codes (f ∷ fs) (e ∷ es) pc ks vs → Meets x Next (steps.goes_to x.engine (arrive taken f.labels) f fs x.world x.collected) m'
  hand_over taken f fs e es pc ks vs q w = subst (λ k. Meets x Next (steps.goes_to x.engine (arrive taken f.labels) f fs x.world x.collected) k) (sym q) (by_labels f.labels w.3)
    where
      by_labels : (ls : List Label) → Level x.engine.program x.codes f.function f.result f.locals ls e w.0 pc ks vs w.1 w.2 → Meets x Next (steps.goes_to x.engine (arrive taken ls) f fs x.world x.collected) (record { values = taken ++ vs; controls = ks; frames = e ∷ es; position = pc })
      by_labels [] lv = absurd lv.labels_are
      by_labels (l ∷ ls) lv =
          let level : Level x.engine.program x.codes f.function f.result f.locals (label (taken ++ l.operands) l.nodes l.end l.kind ∷ ls) e w.0 pc ks (taken ++ vs) w.1 w.2 =
          record {
            tree = lv.tree;
            type = lv.type;
            is_defined = lv.is_defined;
            index = lv.index;
            code_is = lv.code_is;
            fits = lv.fits;
            result_is = lv.result_is;
            base = lv.base;
            controls = lv.controls;
            floor = lv.floor;
            mine = lv.mine;
            ks_are = lv.ks_are;
            vs_are = rw lv.vs_are (simp append_assoc refl);
            labels_are = lv.labels_are;
          } in
          record { frames = (w.0, w.1, w.2, level, w.5); world = refl; collected = refl }

  delivers : (taken : List Value) (fs : List Frame) (es : List CallFrame) (pc : ℕ) (ks : List Control) (vs : List Value) → Waiting x.engine.program x.codes fs es pc ks vs →
      (a : Stepped) → Leaves a es m' (record { values = taken ++ vs; controls = ks; frames = es; position = pc }) → Meets x a (steps.deliver x.engine taken fs x.world x.collected) m'
  delivers taken fs es pc ks vs w NoMemory l = tt
  delivers taken fs es pc ks vs w (Trap kind) l = absurd l
  delivers taken fs es pc ks vs w Stuck l = absurd l
  delivers taken [] [] pc ks vs w Next l = absurd l
  delivers taken [] [] pc ks vs w Ended l = record {
    values = ap (λ (k : CallStack). k.values) l ∙ ap (λ k. taken ++ k) w.1 ∙ append-nil taken;
    controls = ap (λ (k : CallStack). k.controls) l ∙ w.0;
    frames = ap (λ (k : CallStack). k.frames) l;
    world = refl;
    collected = refl;
  }
  delivers taken [] (e ∷ es) pc ks vs w Next l = absurd w
  delivers taken [] (e ∷ es) pc ks vs w Ended l = absurd w
  delivers taken (f ∷ fs) [] pc ks vs w Next l = absurd w
  delivers taken (f ∷ fs) [] pc ks vs w Ended l = absurd w
  delivers taken (f ∷ fs) (e ∷ es) pc ks vs w Ended l = absurd l
  delivers taken (f ∷ fs) (e ∷ es) pc ks vs w Next l = hand_over taken f fs e es pc ks vs l w

  gives_is : code.gives ≡ gives_one x.frame.result
  gives_is = h.level.fits.gives ∙ ap gives_one (sym h.level.result_is)

  pub leave_meets : (gives : Bool) → gives ≡ code.gives →
      ((kept over below : List Value) (above ks : List Control) (e : CallFrame) (es : List CallFrame) → m.values ≡ kept ++ (over ++ below) → Carried gives kept → length below ≡ e.base → m.controls ≡ above ++ ks → length ks ≡ e.controls → m.frames ≡ e ∷ es →
      Leaves a es m' (record { values = kept ++ below; controls = ks; frames = es; position = e.returns_to })) → Meets x a (return_at x) m'
  leave_meets gives g l = by_top (top x.frame.result x.label.operands) refl
    where
      by_top : (o : Option (List Value)) → top x.frame.result x.label.operands ≡ o → Meets x a (return_at x) m'
      by_top None q = stuck_meets x a (return_at x) m' (ap (λ o. steps.moved x.engine (out_some o) x.frame x.callers x.world x.collected) q)
      by_top (Some taken) q =
          let s = top_splits x.frame.result x.label.operands taken q in
          let over : List Value = s.gone ++ (joined x.outer ++ reverse x.frame.locals) in
          let vs : m.values ≡ taken ++ (over ++ h.vs_below) = h.level.vs_are ∙ ap (λ z. (z ++ joined x.outer) ++ (reverse x.frame.locals ++ h.vs_below)) s.parts ∙ regroup taken s.gone (joined x.outer) (reverse x.frame.locals) h.vs_below in
          let carried : Carried gives taken = subst (λ b. Carried b taken) (sym (g ∙ gives_is)) s.carried in
          subst (λ z. Meets x a z m') (sym (ap (λ o. steps.moved x.engine (out_some o) x.frame x.callers x.world x.collected) q))
          (delivers taken x.callers h.es h.e.returns_to h.ks_below h.vs_below h.waiting a
          (l taken over h.vs_below h.level.mine h.ks_below h.e h.es vs carried (sym h.level.base) h.level.ks_are (sym h.level.controls) h.es_are))
