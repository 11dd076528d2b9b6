-- Steps of a machine from steps of its frames, of its values and of what frames share.
use Rattle.std.proofs.Common.{◌≡◌, ℕ, zero, suc, ◌+◌, List, [], ◌∷◌, ◌++◌, length, reverse, refl, sym, ap, subst, ◌∙◌, ⊎_elim, append_assoc}
use Rattle.std.specs.Prelude.{Some, None, slice_get}
use Rattle.wasm_syntax.specs.declared.value.Value.{Value}
use Rattle.wasm_syntax.specs.declared.instruction.Basic.{Basic}
use Rattle.wasm_syntax.specs.declared.instruction.Op.{Op}
use Rattle.wasm_syntax.specs.declared.host.CollectorCall.{CollectorCall}
use Rattle.wasm_syntax.specs.Tree.{Nodes, stop, basic, jump, block, loop, choose, Plain, item_of, placed, code_of}
use Rattle.wasm_syntax.specs.Host.{World}
use Rattle.wasm_syntax.specs.Effect.{Effect, gives, fails, unfit, effect, takes}
use Rattle.wasm_syntax.specs.Machine as steps
use Rattle.wasm_syntax.specs.Machine.{Engine, Cut, short, parts, cut, Label, label, Frame, frame, Config, config, joined, in_frame, runs}
use Rattle.machine_basics.specs.declared.answer.Performed.{Performed}
use Rattle.machine_basics.specs.declared.answer.Performed.TheVariants as performed
use Rattle.machine_basics.specs.declared.answer.TrapKind.{TrapKind}
use Rattle.machine_basics.specs.declared.shared.Shared.{Shared}
use Rattle.machine_basics.specs.calls.Traps.{trap_code}
use Rattle.machine_basics.specs.calls.Performs.{Holds, Did, on_operands, on_cut, above, laid_out}
use Rattle.machine_code.specs.declared.code.Code.{Code}
use Rattle.machine_code.specs.calls.Code.{items, Prepares}
use Rattle.machine_steps.specs.declared.layout.CallFrame.{CallFrame}
use Rattle.machine_steps.specs.declared.layout.CallStack.{CallStack}
use Rattle.machine_steps.specs.declared.layout.Stepped.{Stepped}
use Rattle.machine_steps.specs.declared.layout.Stepped.TheVariants as stepped
use Rattle.machine_steps.specs.calls.Layout.{Level, Frames, Labels}
use Rattle.machine_steps.specs.calls.FramesMeet as moved
use Rattle.machine_steps.specs.calls.FramesMeet.{Point, with_labels, step_at, Inner, Reads}
use Rattle.machine_steps.proofs.Labels.{First, some_item, behind_basic}
use Rattle.machine_steps.proofs.Points.{floor_at, LabelsAt, labels_are, first_at, moves}
use Rattle.machine_steps.specs.declared.machine.Machine.{Machine}
use Rattle.machine_steps.specs.declared.machine.Outcome.{Outcome}
use Rattle.machine_steps.specs.declared.machine.Outcome.TheVariants.{Next, Ended, Trap, Import, NoMemory, Stuck}
use Rattle.machine_steps.specs.calls.Meets.{outcome_of, Shares, StandsFor, Then, Meets, MeetsAt, Here, config_at}
use Rattle.machine_basics.specs.calls.Keeps.{Keeps, EffectKeeps}
use Rattle.machine_basics.proofs.Keeping.{operands_keep}
use Rattle.machine_basics.proofs.InFrames.{cut_more}
use Rattle.pm_text.proofs.Lists.{some_is}
use Rattle.wasm_syntax.proofs.Bodies.{code_at}

pub stuck_meets : (x : Point) (o : Outcome) (s : steps.Stepped) (m : Machine) → s ≡ steps.stuck → MeetsAt x o s m
stuck_meets x o s m e = subst (λ t. MeetsAt x o t m) (sym e) (all o)
  where
    all : (o : Outcome) → MeetsAt x o steps.stuck m
    all Next = tt
    all Ended = tt
    all (Trap kind) = tt
    all (Import call) = tt
    all NoMemory = tt
    all Stuck = tt

module _ (x : Point) (m : Machine) (code : Code) (h : Here x m code) where
  -- ---- what the frames do

  abbrev with_stack : CallStack → Machine
  with_stack k = record m { stack = k }

  shares_as : (k : CallStack) (w : World) → w ≡ x.world → Shares (record m { stack = k }) w
  shares_as k w e = subst (λ v. Shares (record m { stack = k }) v) (sym e) (record { holds = h.shares.holds; table = h.shares.table })

  then_as : (k : CallStack) (c : Config) → moved.Then x.engine.program x.codes x.world x.collected k c → Then x.engine.program x.codes x.world x.collected (record m { stack = k }) c
  then_as k c t = record {
    stands = record { frames = t.frames; shares = shares_as k c.world t.world };
    host = record { replies = ap (λ (w : World). w.replies) t.world; served = ap (λ (w : World). w.served) t.world; collected = t.collected };
  }

  -- what is outside of the frames is not touched
  pub lifted : (a : Stepped) (s : steps.Stepped) (k : CallStack) → moved.Meets x a s k → MeetsAt x (outcome_of a) s (record m { stack = k })
  lifted stepped.NoMemory s k t = tt
  lifted stepped.Next (steps.next c) k t = then_as k c t
  lifted stepped.Next (steps.ends w vs co) k t = absurd t
  lifted stepped.Next (steps.traps kind c) k t = absurd t
  lifted stepped.Next (steps.no_reply call c) k t = absurd t
  lifted stepped.Next (steps.bad_reply call r c) k t = absurd t
  lifted stepped.Next steps.stuck k t = tt
  lifted stepped.Ended (steps.next c) k t = absurd t
  lifted stepped.Ended (steps.ends w vs co) k t = record {
    values = t.values;
    controls = t.controls;
    frames = t.frames;
    shares = shares_as k w t.world;
    host = record { replies = ap (λ (w : World). w.replies) t.world; served = ap (λ (w : World). w.served) t.world; collected = t.collected };
  }
  lifted stepped.Ended (steps.traps kind c) k t = absurd t
  lifted stepped.Ended (steps.no_reply call c) k t = absurd t
  lifted stepped.Ended (steps.bad_reply call r c) k t = absurd t
  lifted stepped.Ended steps.stuck k t = tt
  lifted (stepped.Trap kind) (steps.next c) k t = absurd t
  lifted (stepped.Trap kind) (steps.ends w vs co) k t = absurd t
  lifted (stepped.Trap kind) (steps.traps j c) k t = (t.0, then_as k c t.1)
  lifted (stepped.Trap kind) (steps.no_reply call c) k t = absurd t
  lifted (stepped.Trap kind) (steps.bad_reply call r c) k t = absurd t
  lifted (stepped.Trap kind) steps.stuck k t = tt
  lifted stepped.Stuck (steps.next c) k t = absurd t
  lifted stepped.Stuck (steps.ends w vs co) k t = absurd t
  lifted stepped.Stuck (steps.traps kind c) k t = absurd t
  lifted stepped.Stuck (steps.no_reply call c) k t = absurd t
  lifted stepped.Stuck (steps.bad_reply call r c) k t = absurd t
  lifted stepped.Stuck steps.stuck k t = tt

  pub lifts : (a : Stepped) (o : Outcome) (s : steps.Stepped) (k : CallStack) → o ≡ outcome_of a → moved.Meets x a s k → MeetsAt x o s (record m { stack = k })
  lifts a o s k e t = subst (λ p. MeetsAt x p s (record m { stack = k })) (sym e) (lifted a s k t)

  -- ---- nothing is changed

  pub stands_here : StandsFor x.engine.program x.codes m (config_at x)
  stands_here = record {
    frames = moves x m.stack code h.inner (x.label ∷ x.outer) h.inner.level.mine m.stack (labels_are x m.stack code h.inner) refl h.inner.level.ks_are h.inner.level.vs_are;
    shares = h.shares;
  }

  pub traps_here : (kind : TrapKind) (k : ℕ) → trap_code kind ≡ k → MeetsAt x (Trap kind) (steps.trapped x.engine k x.frame x.label x.outer x.callers x.world x.collected) m
  traps_here kind k e = (e, record { stands = stands_here; host = record { replies = refl; served = refl; collected = refl } })

  -- ---- an instruction behind which the next one is run

  regroup : (results below outer under : List Value) → (results ++ (below ++ outer)) ++ under ≡ ((results ++ below) ++ outer) ++ under
  regroup results below outer under = ap (λ l. l ++ under) (sym (append_assoc results below outer))

  -- then the frame has other locals and operands
  done : (w : World) (ls vs below : List Value) (at : ℕ) (i : Basic) (rest : Nodes) (values : List Value) (shared : Shared) (pos : ℕ) → pos ≡ suc m.stack.position → x.label.nodes ≡ basic at i rest →
      Keeps x.world x.frame.locals w ls → values ≡ laid_out (vs ++ (below ++ joined x.outer)) ls h.inner.vs_below → Holds shared w →
      Then x.engine.program x.codes x.world x.collected (record m { stack = record m.stack { values = values; position = pos }; shared = shared }) (config (frame x.frame.function x.frame.result x.frame.call ls (label (vs ++ below) rest x.label.end x.label.kind ∷ x.outer) ∷ x.callers) w x.collected)
  done w ls vs below at i rest values shared pos p n kept v holds =
      let lv = h.inner.level in
      let labels : List Label = label (vs ++ below) rest x.label.end x.label.kind ∷ x.outer in
      let there : LabelsAt x m.stack code h.inner labels (suc m.stack.position) lv.mine =
      behind_basic (items code) code.sides x.frame.result (floor_at x m.stack code h.inner) x.label.operands (vs ++ below) at i rest x.label.end x.label.kind x.outer m.stack.position lv.mine
      (subst (λ ns. LabelsAt x m.stack code h.inner (label x.label.operands ns x.label.end x.label.kind ∷ x.outer) m.stack.position lv.mine) n (labels_are x m.stack code h.inner)) in
      let level : Level x.engine.program x.codes x.frame.function x.frame.result ls labels h.inner.e code pos m.stack.controls values h.inner.ks_below h.inner.vs_below =
      record {
        tree = lv.tree;
        type = lv.type;
        is_defined = lv.is_defined;
        index = lv.index;
        code_is = lv.code_is;
        fits = lv.fits;
        result_is = lv.result_is;
        base = lv.base;
        controls = lv.controls;
        floor = lv.floor ∙ ap (λ k. k + length h.inner.vs_below) (sym kept.locals_count);
        mine = lv.mine;
        ks_are = lv.ks_are;
        vs_are = v ∙ regroup vs below (joined x.outer) (reverse ls ++ h.inner.vs_below);
        labels_are = subst (λ q. Labels (items code) code.sides x.frame.result (length ls + length h.inner.vs_below) labels q lv.mine) (sym p)
            (subst (λ k. Labels (items code) code.sides x.frame.result (k + length h.inner.vs_below) labels (suc m.stack.position) lv.mine) (sym kept.locals_count) there);
      } in
      record {
        stands = record {
          frames = subst (λ es. Frames x.engine.program x.codes (frame x.frame.function x.frame.result x.frame.call ls labels ∷ x.callers) es pos m.stack.controls values) (sym h.inner.es_are) (code, h.inner.ks_below, h.inner.vs_below, level, h.inner.waiting);
          shares = record { holds = holds; table = kept.table ∙ h.shares.table };
        };
        host = record { replies = kept.replies; served = kept.served; collected = refl };
      }

  -- what was done to all operands, by the effect on those that are taken
  taken_is : (i : Basic) (t u : List Value) (e : Effect) → cut (takes i) x.label.operands ≡ parts t u → effect i x.world x.frame.locals t ≡ e → on_operands i x.world x.frame.locals (joined (x.label ∷ x.outer)) ≡ above (u ++ joined x.outer) e
  taken_is i t u e c q = ap (on_cut i x.world x.frame.locals) (cut_more (takes i) x.label.operands (joined x.outer) t u c) ∙ ap (above (u ++ joined x.outer)) q

  by_taken : (i : Basic) (a : Performed) (values : List Value) (shared : Shared) (t u : List Value) (e : Effect) → cut (takes i) x.label.operands ≡ parts t u → effect i x.world x.frame.locals t ≡ e →
      Did (on_operands i x.world x.frame.locals (joined (x.label ∷ x.outer))) a h.inner.vs_below values shared → Did (above (u ++ joined x.outer) e) a h.inner.vs_below values shared
  by_taken i a values shared t u e c q d = subst (λ e'. Did e' a h.inner.vs_below values shared) (taken_is i t u e c q) d

  kept_by : (i : Basic) (t u : List Value) (e : Effect) → cut (takes i) x.label.operands ≡ parts t u → effect i x.world x.frame.locals t ≡ e → EffectKeeps x.world x.frame.locals (above (u ++ joined x.outer) e)
  kept_by i t u e c q = subst (λ e'. EffectKeeps x.world x.frame.locals e') (taken_is i t u e c q) (operands_keep x.world x.frame.locals i (joined (x.label ∷ x.outer)))

  pub basic_done : (i : Basic) (values : List Value) (shared : Shared) (pos : ℕ) → Reads m.stack code (Plain i) → pos ≡ suc m.stack.position → Did (on_operands i x.world x.frame.locals (joined (x.label ∷ x.outer))) performed.Done h.inner.vs_below values shared →
      MeetsAt x Next (step_at x) (record m { stack = record m.stack { values = values; position = pos }; shared = shared })
  basic_done i values shared pos r p d = by_nodes x.label.nodes refl (first_at x m.stack code h.inner (Plain i) r)
    where
      by_effect : (at : ℕ) (rest : Nodes) (t u : List Value) (e : Effect) → x.label.nodes ≡ basic at i rest → cut (takes i) x.label.operands ≡ parts t u → effect i x.world x.frame.locals t ≡ e → MeetsAt x Next (steps.affects x.engine e u rest x.frame x.label x.outer x.callers x.world x.collected) (record m { stack = record m.stack { values = values; position = pos }; shared = shared })
      by_effect at rest t u (gives w ls vs) n c q =
          let d' = by_taken i performed.Done values shared t u (gives w ls vs) c q d in
          done w ls vs u at i rest values shared pos p n (kept_by i t u (gives w ls vs) c q) d'.0 d'.1
      by_effect at rest t u (fails kind) n c q = absurd (by_taken i performed.Done values shared t u (fails kind) c q d)
      by_effect at rest t u unfit n c q = tt

      by_cut : (at : ℕ) (rest : Nodes) (c : Cut) → x.label.nodes ≡ basic at i rest → cut (takes i) x.label.operands ≡ c → MeetsAt x Next (steps.does x.engine i c rest x.frame x.label x.outer x.callers x.world x.collected) (record m { stack = record m.stack { values = values; position = pos }; shared = shared })
      by_cut at rest short n c = tt
      by_cut at rest (parts t u) n c = by_effect at rest t u (effect i x.world x.frame.locals t) n c refl

      by_nodes : (ns : Nodes) → x.label.nodes ≡ ns → First ns (Plain i) → MeetsAt x Next (runs x.engine ns x.frame x.label x.outer x.callers x.world x.collected) (record m { stack = record m.stack { values = values; position = pos }; shared = shared })
      by_nodes stop n f = ⊎_elim (λ q. absurd (cc)) (λ q. absurd (cc)) f
      by_nodes (jump o j rest) n f = absurd (cc)
      by_nodes (block o t body end rest) n f = absurd (cc)
      by_nodes (loop o t body end rest) n f = absurd (cc)
      by_nodes (choose o t a ea b end rest) n f = absurd (cc)
      by_nodes (basic o b rest) n f =
          let same : i ≡ b = cc in
          subst (λ j. MeetsAt x Next (runs x.engine (basic o j rest) x.frame x.label x.outer x.callers x.world x.collected) (record m { stack = record m.stack { values = values; position = pos }; shared = shared })) same
          (by_cut o rest (cut (takes i) x.label.operands) (n ∙ ap (λ j. basic o j rest) (sym same)) refl)

  pub basic_traps : (i : Basic) (kind : TrapKind) (values : List Value) (shared : Shared) → Reads m.stack code (Plain i) → Did (on_operands i x.world x.frame.locals (joined (x.label ∷ x.outer))) (performed.Trap kind) h.inner.vs_below values shared → MeetsAt x (Trap kind) (step_at x) m
  basic_traps i kind values shared r d = by_nodes x.label.nodes (first_at x m.stack code h.inner (Plain i) r)
    where
      by_effect : (rest : Nodes) (t u : List Value) (e : Effect) → cut (takes i) x.label.operands ≡ parts t u → effect i x.world x.frame.locals t ≡ e → MeetsAt x (Trap kind) (steps.affects x.engine e u rest x.frame x.label x.outer x.callers x.world x.collected) m
      by_effect rest t u (gives w ls vs) c q = absurd (by_taken i (performed.Trap kind) values shared t u (gives w ls vs) c q d)
      by_effect rest t u (fails k) c q = traps_here kind k (by_taken i (performed.Trap kind) values shared t u (fails k) c q d)
      by_effect rest t u unfit c q = tt

      by_cut : (rest : Nodes) (c : Cut) → cut (takes i) x.label.operands ≡ c → MeetsAt x (Trap kind) (steps.does x.engine i c rest x.frame x.label x.outer x.callers x.world x.collected) m
      by_cut rest short c = tt
      by_cut rest (parts t u) c = by_effect rest t u (effect i x.world x.frame.locals t) c refl

      by_nodes : (ns : Nodes) → First ns (Plain i) → MeetsAt x (Trap kind) (runs x.engine ns x.frame x.label x.outer x.callers x.world x.collected) m
      by_nodes stop f = ⊎_elim (λ q. absurd (cc)) (λ q. absurd (cc)) f
      by_nodes (jump o j rest) f = absurd (cc)
      by_nodes (block o t body end rest) f = absurd (cc)
      by_nodes (loop o t body end rest) f = absurd (cc)
      by_nodes (choose o t a ea b end rest) f = absurd (cc)
      by_nodes (basic o b rest) f =
          let same : i ≡ b = cc in
          subst (λ j. MeetsAt x (Trap kind) (runs x.engine (basic o j rest) x.frame x.label x.outer x.callers x.world x.collected) m) same (by_cut rest (cut (takes i) x.label.operands) refl)

-- ---- from a configuration to its innermost label

module _ (M : Engine) (codes : List Code) (prepares : Prepares M.program codes) (m : Machine) (o : Outcome) (m' : Machine) where
  from_frames : (fs : List Frame) (es : List CallFrame) (w : World) (co : List CollectorCall) (entry : CallFrame) (code : Code) → Shares m w → m.stack.frames ≡ es → Frames M.program codes fs es m.stack.position m.stack.controls m.stack.values →
      slice_get es 0 ≡ Some entry → slice_get codes entry.function ≡ Some code → ((x : Point) → Here x m code → x.engine ≡ M → x.codes ≡ codes → MeetsAt x o (step_at x) m') → Meets M codes (config fs w co) o (steps.steps M fs w co) m'
  from_frames [] es w co entry code sh q h e k go = absurd h
  from_frames (f ∷ fs) [] w co entry code sh q h e k go = absurd h
  from_frames (f ∷ fs) (e' ∷ es) w co entry code sh q h e k go = by_labels f.labels h.3
    where
      by_labels : (labels : List Label) → Level M.program codes f.function f.result f.locals labels e' h.0 m.stack.position m.stack.controls m.stack.values h.1 h.2 → Meets M codes (config (with_labels f labels ∷ fs) w co) o (in_frame M labels f fs w co) m'
      by_labels [] lv = absurd lv.labels_are
      by_labels (l ∷ ls) lv =
          let same : h.0 ≡ code = some_is (sym lv.code_is ∙ ap (slice_get codes) (ap (λ (e : CallFrame). e.function) (some_is e)) ∙ k) in
          let level : Level M.program codes f.function f.result f.locals (l ∷ ls) e' code m.stack.position m.stack.controls m.stack.values h.1 h.2 = subst (λ c. Level M.program codes f.function f.result f.locals (l ∷ ls) e' c m.stack.position m.stack.controls m.stack.values h.1 h.2) same lv in
          go (record { engine = M; codes = codes; frame = f; label = l; outer = ls; callers = fs; world = w; collected = co })
          (record {
            inner = record { prepares = prepares; e = e'; es = es; es_are = q; ks_below = h.1; vs_below = h.2; level = level; waiting = h.4 };
            shares = sh;
          })
          refl refl

  pub from_config : (c : Config) (entry : CallFrame) (code : Code) → StandsFor M.program codes m c → slice_get m.stack.frames 0 ≡ Some entry → slice_get codes entry.function ≡ Some code →
      ((x : Point) → Here x m code → x.engine ≡ M → x.codes ≡ codes → MeetsAt x o (step_at x) m') → Meets M codes c o (steps.step M c) m'
  from_config c entry code st e k go = from_frames c.frames m.stack.frames c.world c.collected entry code st.shares refl st.frames e k go

pub no_frame : (M : Engine) (codes : List Code) (m : Machine) (c : Config) → StandsFor M.program codes m c → slice_get m.stack.frames 0 ≡ None → ⊥
no_frame M codes m c st e = by_frames c.frames m.stack.frames st.frames e
  where
    by_frames : (fs : List Frame) (es : List CallFrame) → Frames M.program codes fs es m.stack.position m.stack.controls m.stack.values → slice_get es 0 ≡ None → ⊥
    by_frames [] es h e = h
    by_frames (f ∷ fs) [] h e = h
    by_frames (f ∷ fs) (e' ∷ es) h e = cc

pub no_code : (M : Engine) (codes : List Code) (m : Machine) (c : Config) (entry : CallFrame) → StandsFor M.program codes m c → slice_get m.stack.frames 0 ≡ Some entry → slice_get codes entry.function ≡ None → ⊥
no_code M codes m c entry st q e = by_frames c.frames m.stack.frames st.frames q
  where
    by_frames : (fs : List Frame) (es : List CallFrame) → Frames M.program codes fs es m.stack.position m.stack.controls m.stack.values → slice_get es 0 ≡ Some entry → ⊥
    by_frames [] es h q = h
    by_frames (f ∷ fs) [] h q = h
    by_frames (f ∷ fs) (e' ∷ es) h q =
        let no : None ≡ Some h.0 = sym e ∙ ap (slice_get codes) (ap (λ (e : CallFrame). e.function) (sym (some_is q))) ∙ h.3.code_is in cc

-- ---- the instruction at the position

get_none : (ts : List ℕ) (ops : List Op) (k : ℕ) → slice_get ops k ≡ None → slice_get (code_of ts ops) k ≡ None
get_none ts [] k e = refl
get_none ts (o ∷ os) zero e = absurd (cc)
get_none ts (o ∷ os) (suc k) e = get_none ts os k e

pub reads : (m : CallStack) (code : Code) (op : Op) → slice_get code.body.now.ops m.position ≡ Some op → Reads m code (item_of code.body.now.targets op.code)
reads m code op e = (op.at, code_at code.body.now.targets code.body.now.ops m.position op e)

pub has_op : (x : Point) (m : CallStack) (code : Code) → Inner x m code → slice_get code.body.now.ops m.position ≡ None → ⊥
has_op x m code h e =
    let s = some_item (items code) code.sides x.frame.result (floor_at x m code h) x.label.nodes x.label x.outer m.position h.level.mine (labels_are x m code h).0 (labels_are x m code h).1 in
    let no : None ≡ Some (placed s.0 s.1) = sym (get_none code.body.now.targets code.body.now.ops m.position e) ∙ s.2 in cc
