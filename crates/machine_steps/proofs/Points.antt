-- A stack of calls at a point, put together again.
use Rattle.std.proofs.Common.{◌≡◌, ℕ, ◌+◌, List, [], ◌∷◌, ◌++◌, length, reverse, refl, sym, ap, subst, ◌∙◌, inl, inr, length-append}
use Rattle.std.proofs.lemmas.List.{length-reverse}
use Rattle.std.specs.Prelude.{◌⊎◌}
use Rattle.wasm_syntax.specs.declared.value.Value.{Value}
use Rattle.wasm_syntax.specs.Tree.{Item}
use Rattle.wasm_syntax.specs.Machine as steps
use Rattle.wasm_syntax.specs.Machine.{Label, label, config, joined}
use Rattle.machine_code.specs.declared.code.Code.{Code}
use Rattle.machine_code.specs.calls.Code.{items}
use Rattle.machine_steps.specs.declared.layout.Control.{Control}
use Rattle.machine_steps.specs.declared.layout.CallStack.{CallStack}
use Rattle.machine_steps.specs.declared.layout.Stepped.{Stepped}
use Rattle.machine_steps.specs.declared.layout.Stepped.TheVariants.{Next, Ended, Trap, NoMemory, Stuck}
use Rattle.machine_steps.specs.calls.Layout.{Level, Frames, StandsFor, Labels}
use Rattle.machine_steps.specs.calls.FramesMeet.{Point, with_labels, Meets, Inner, Reads}
use Rattle.machine_steps.specs.inner.Moves.{Becomes}
use Rattle.machine_steps.proofs.Labels.{First, first_is}

pub stuck_meets : (x : Point) (a : Stepped) (s : steps.Stepped) (m : CallStack) → s ≡ steps.stuck → Meets x a s m
stuck_meets x a s m e = subst (λ t. Meets x a t m) (sym e) (all a)
  where
    all : (a : Stepped) → Meets x a steps.stuck m
    all Next = tt
    all Ended = tt
    all (Trap kind) = tt
    all NoMemory = tt
    all Stuck = tt

-- an answer that goes on with a stack of calls which is as it has to be
pub becomes : (x : Point) (a : Stepped) (s : steps.Stepped) (m to : CallStack) → Becomes a m to → Meets x Next s to → Meets x a s m
becomes x Next s m to e h = subst (λ k. Meets x Next s k) (sym e) h
becomes x NoMemory s m to e h = tt
becomes x Ended s m to e h = absurd e
becomes x (Trap kind) s m to e h = absurd e
becomes x Stuck s m to e h = absurd e

module _ (x : Point) (m : CallStack) (code : Code) (h : Inner x m code) where
  abbrev pub floor_at : ℕ
  floor_at = length x.frame.locals + length h.vs_below

  abbrev pub LabelsAt : List Label → ℕ → List Control → Type 0
  LabelsAt ls pc ks = Labels (items code) code.sides x.frame.result floor_at ls pc ks

  pub labels_are : LabelsAt (x.label ∷ x.outer) m.position h.level.mine
  labels_are = h.level.labels_are

  -- what the first node is
  pub first_at : (i : Item) → Reads m code i → First x.label.nodes i
  first_at i r = first_is (items code) code.sides x.frame.result floor_at x.label.nodes x.label x.outer m.position r.0 i h.level.mine labels_are.0 labels_are.1 r.1

  -- the same frame moves
  pub moves : (labels : List Label) (mine : List Control) (m' : CallStack) → LabelsAt labels m'.position mine →
      m'.frames ≡ m.frames → m'.controls ≡ mine ++ h.ks_below → m'.values ≡ joined labels ++ (reverse x.frame.locals ++ h.vs_below) →
      StandsFor x.engine.program x.codes m' (with_labels x.frame labels ∷ x.callers)
  moves labels mine m' ok fr kr vr =
      let lv = h.level in
      let level : Level x.engine.program x.codes x.frame.function x.frame.result x.frame.locals labels h.e code m'.position m'.controls m'.values h.ks_below h.vs_below =
      record {
        tree = lv.tree;
        type = lv.type;
        is_defined = lv.is_defined;
        index = lv.index;
        code_is = lv.code_is;
        fits = lv.fits;
        result_is = lv.result_is;
        base = lv.base;
        controls = lv.controls;
        floor = lv.floor;
        mine = mine;
        ks_are = kr;
        vs_are = vr;
        labels_are = ok;
      } in
      subst (λ es. Frames x.engine.program x.codes (with_labels x.frame labels ∷ x.callers) es m'.position m'.controls m'.values) (sym (fr ∙ h.es_are)) (code, h.ks_below, h.vs_below, level, h.waiting)

  -- and so does the step
  pub goes_on : (labels : List Label) (mine : List Control) (m' : CallStack) → LabelsAt labels m'.position mine →
      m'.frames ≡ m.frames → m'.controls ≡ mine ++ h.ks_below → m'.values ≡ joined labels ++ (reverse x.frame.locals ++ h.vs_below) →
      Meets x Next (steps.next (config (with_labels x.frame labels ∷ x.callers) x.world x.collected)) m'
  goes_on labels mine m' ok fr kr vr = record { frames = moves labels mine m' ok fr kr vr; world = refl; collected = refl }

  -- the height of the operands of all labels
  pub height_of : (labels : List Label) (vs : List Value) → vs ≡ joined labels ++ (reverse x.frame.locals ++ h.vs_below) → length vs ≡ length (joined labels) + floor_at
  height_of labels vs e = rw (e, length-append (joined labels) (reverse x.frame.locals ++ h.vs_below), length-append (reverse x.frame.locals) h.vs_below, length-reverse x.frame.locals) refl

  -- what the innermost label's operands are, where a value is on top of all
  pub top_is : (v : Value) (popped : List Value) → m.values ≡ v ∷ popped →
      (x.label.operands ≡ []) ⊎ ((vs : List Value) × (x.label.operands ≡ v ∷ vs) × (popped ≡ joined (label vs x.label.nodes x.label.end x.label.kind ∷ x.outer) ++ (reverse x.frame.locals ++ h.vs_below)))
  top_is v popped e = by_operands x.label.operands (sym e ∙ h.level.vs_are)
    where
      by_operands : (vs : List Value) → v ∷ popped ≡ (vs ++ joined x.outer) ++ (reverse x.frame.locals ++ h.vs_below) → (vs ≡ []) ⊎ ((ws : List Value) × (vs ≡ v ∷ ws) × (popped ≡ (ws ++ joined x.outer) ++ (reverse x.frame.locals ++ h.vs_below)))
      by_operands [] q = inl refl
      by_operands (w ∷ ws) q =
          let head : v ≡ w = cc in
          let tail : popped ≡ (ws ++ joined x.outer) ++ (reverse x.frame.locals ++ h.vs_below) = cc in
          inr (ws, ap (λ u. u ∷ ws) (sym head), tail)

  -- without operands, or with an i64 on top, an instruction that takes an i32 is stuck
  pub no_top : m.values ≡ [] → x.label.operands ≡ []
  no_top e = empty x.label.operands (sym e ∙ h.level.vs_are)
    where
      empty : (vs : List Value) → [] ≡ (vs ++ joined x.outer) ++ (reverse x.frame.locals ++ h.vs_below) → vs ≡ []
      empty [] q = refl
      empty (v ∷ vs) q = absurd (cc)
