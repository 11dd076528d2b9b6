-- A reply goes on behind the call.
use Rattle.std.proofs.Common.{◌≡◌, ℕ, suc, ◌+◌, List, [], ◌∷◌, ◌++◌, length, reverse, drop, refl, sym, ap, subst, ◌∙◌, append_assoc, arith}
use Rattle.std.proofs.lemmas.List.{drop_at}
use Rattle.std.specs.Prelude.{Bool, true, false, Option, option_to_list}
use Rattle.wasm_syntax.specs.declared.value.Value.{Value}
use Rattle.wasm_syntax.specs.declared.value.Value.TheVariants as values
use Rattle.wasm_syntax.specs.declared.host.CollectorCall.{CollectorCall}
use Rattle.wasm_syntax.specs.Tree.{Jump, Nodes, jump}
use Rattle.wasm_syntax.specs.Host.{World}
use Rattle.wasm_syntax.specs.Module.{Program}
use Rattle.wasm_syntax.specs.Machine.{Engine, Config, Stepped, Label, label, Frame, joined}
use Rattle.machine_code.specs.declared.code.Code.{Code}
use Rattle.machine_code.specs.calls.Code.{items}
use Rattle.machine_steps.specs.declared.layout.CallFrame.{CallFrame}
use Rattle.machine_steps.specs.declared.layout.CallStack.{CallStack}
use Rattle.machine_steps.specs.declared.layout.Control.{Control}
use Rattle.machine_steps.specs.calls.Layout.{Level, Frames, Labels}
use Rattle.machine_steps.specs.calls.FramesMeet.{with_labels}
use Rattle.machine_steps.proofs.Labels.{behind_jump}
use Rattle.machine_steps.specs.declared.machine.Machine.{Machine}
use Rattle.machine_steps.specs.declared.machine.ImportCall.{ImportCall}
use Rattle.machine_steps.specs.calls.Meets.{UnderIndex, Shares, CallsImport}
use Rattle.machine_hosted.specs.inner.Replies.{Taken, Finished}

-- what is taken from the operands
pub taken_parts : (indirect : Bool) (operands vs args below : List Value) → UnderIndex indirect operands vs → vs ≡ args ++ below → (taken : List Value) × (operands ≡ taken ++ below) × Taken indirect (length args) taken
taken_parts false operands vs args below u e = (args, u ∙ e, refl)
taken_parts true operands vs args below u e = (values.I32 u.0 ∷ args, u.1 ∙ ap (λ l. values.I32 u.0 ∷ l) e, refl)

regroup : (taken below outer under : List Value) → ((taken ++ below) ++ outer) ++ under ≡ taken ++ ((below ++ outer) ++ under)
regroup taken below outer under = ap (λ l. l ++ under) (append_assoc taken below outer) ∙ append_assoc taken (below ++ outer) under

-- frames at a call go on behind it, with results in place of what it took
pub behind_call : (p : Program) (codes : List Code) (f : Frame) (l : Label) (ls : List Label) (fs : List Frame) (at : ℕ) (j : Jump) (rest : Nodes) (taken below results : List Value) (es : List CallFrame) (pc : ℕ) (ks : List Control) (vs : List Value) →
    l.nodes ≡ jump at j rest → l.operands ≡ taken ++ below → Frames p codes (with_labels f (l ∷ ls) ∷ fs) es pc ks vs →
    (under : List Value) × (vs ≡ taken ++ under) × Frames p codes (with_labels f (label (results ++ below) rest l.end l.kind ∷ ls) ∷ fs) es (suc pc) ks (results ++ under)
behind_call p codes f l ls fs at j rest taken below results [] pc ks vs n o h = absurd h
behind_call p codes f l ls fs at j rest taken below results (e ∷ es) pc ks vs n o h =
    let lv = h.3 in
    let rest_of : List Value = reverse f.locals ++ h.2 in
    let under : List Value = (below ++ joined ls) ++ (reverse f.locals ++ h.2) in
    let vs_is : vs ≡ taken ++ ((below ++ joined ls) ++ (reverse f.locals ++ h.2)) = lv.vs_are ∙ ap (λ z. (z ++ joined ls) ++ (reverse f.locals ++ h.2)) o ∙ regroup taken below (joined ls) (reverse f.locals ++ h.2) in
    let level : Level p codes f.function f.result f.locals (label (results ++ below) rest l.end l.kind ∷ ls) e h.0 (suc pc) ks (results ++ ((below ++ joined ls) ++ (reverse f.locals ++ h.2))) h.1 h.2 =
    record {
      tree = lv.tree;
      type = lv.type;
      is_defined = lv.is_defined;
      index = lv.index;
      code_is = lv.code_is;
      fits = lv.fits;
      result_is = lv.result_is;
      base = lv.base;
      controls = lv.controls;
      floor = lv.floor;
      mine = lv.mine;
      ks_are = lv.ks_are;
      vs_are = sym (regroup results below (joined ls) (reverse f.locals ++ h.2));
      labels_are = behind_jump (items h.0) h.0.sides f.result (length f.locals + length h.2) l.operands (results ++ below) at j rest l.end l.kind ls pc lv.mine
          (subst (λ ns. Labels (items h.0) h.0.sides f.result (length f.locals + length h.2) (label l.operands ns l.end l.kind ∷ ls) pc lv.mine) n lv.labels_are);
    } in
    (under, vs_is, (h.0, h.1, h.2, level, h.4))

module _ (M : Engine) (codes : List Code) (c : Config) (call : ImportCall) (s : Stepped) (m : Machine) (h : CallsImport M codes c call s m) (args below : List Value) (operands : h.operands ≡ args ++ below) where
  pub parts : (taken : List Value) × (h.label.operands ≡ taken ++ below) × Taken call.indirect (length args) taken
  parts = taken_parts call.indirect h.label.operands h.operands args below h.under operands

  frames : Frames M.program codes (with_labels h.frame (h.label ∷ h.outer) ∷ h.callers) m.stack.frames m.stack.position m.stack.controls m.stack.values
  frames = subst (λ fs. Frames M.program codes fs m.stack.frames m.stack.position m.stack.controls m.stack.values) h.frames_are h.stands.frames

  -- the values without what was taken
  pub left : (value : Option Value) → (under : List Value) × (m.stack.values ≡ parts.0 ++ under) × Frames M.program codes (with_labels h.frame (label (option_to_list value ++ below) h.rest h.label.end h.label.kind ∷ h.outer) ∷ h.callers) m.stack.frames (suc m.stack.position) m.stack.controls (option_to_list value ++ under)
  left value = behind_call M.program codes h.frame h.label h.outer h.callers h.at h.jumps h.rest parts.0 below (option_to_list value) m.stack.frames m.stack.position m.stack.controls m.stack.values h.node parts.1 frames

  pub finished : (w : World) (co : List CollectorCall) (value : Option Value) (later : Machine) (under now : List Value) → later.stack ≡ m.stack → Shares later w → under ≡ (left value).0 → now ≡ option_to_list value ++ under →
      Finished M codes c call s m h w co value below (record later { stack = record later.stack { values = now; position = call.next } })
  finished w co value later under now same shares u n = record {
    frames = subst (λ (k : CallStack). Frames M.program codes (with_labels h.frame (label (option_to_list value ++ below) h.rest h.label.end h.label.kind ∷ h.outer) ∷ h.callers) k.frames call.next k.controls now) (sym same)
        (subst (λ k. Frames M.program codes (with_labels h.frame (label (option_to_list value ++ below) h.rest h.label.end h.label.kind ∷ h.outer) ∷ h.callers) m.stack.frames k m.stack.controls now) (sym h.next)
        (subst (λ vs. Frames M.program codes (with_labels h.frame (label (option_to_list value ++ below) h.rest h.label.end h.label.kind ∷ h.outer) ∷ h.callers) m.stack.frames (suc m.stack.position) m.stack.controls vs) (sym (n ∙ ap (λ l. option_to_list value ++ l) u)) (left value).2));
    shares = record { holds = shares.holds; table = shares.table };
  }

pub without : (count : ℕ) (taken below old new : List Value) → Taken false count taken → old ≡ taken ++ below → new ≡ drop count old → new ≡ below
without count taken below old new t e n = n ∙ ap (drop count) e ∙ drop_at taken below count t

pub without_index : (count : ℕ) (taken below old new : List Value) → Taken true count taken → old ≡ taken ++ below → new ≡ drop count (drop 1 old) → new ≡ below
without_index count [] below old new t e n = absurd (omega (arith, t))
without_index count (v ∷ taken) below old new t e n = let l : length taken ≡ count = omega (arith, t) in n ∙ ap (λ z. drop count (drop 1 z)) e ∙ drop_at taken below count l
