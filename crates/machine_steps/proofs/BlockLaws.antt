-- Blocks are opened and left.
use Rattle.std.proofs.Common.{◌≡◌, ℕ, zero, suc, ◌+◌, List, [], ◌∷◌, ◌++◌, length, reverse, refl, sym, ap, subst, ◌∙◌, inl, inr, ⊎_elim}
use Rattle.std.specs.Prelude.{◌⊎◌, ◌==◌, if◌then◌else◌, Option, Some, None, slice_get, unwrap_or}
use Rattle.wasm_syntax.specs.declared.value.ValType.{ValType}
use Rattle.wasm_syntax.specs.declared.value.Value.{Value}
use Rattle.wasm_syntax.specs.declared.value.Value.TheVariants as values
use Rattle.wasm_syntax.specs.Tree.{Nodes, stop, basic, jump, block, loop, choose, Opens, OpensLoop, OpensIf}
use Rattle.wasm_syntax.specs.Machine as steps
use Rattle.wasm_syntax.specs.Machine.{Kind, leaves, again, Label, label, config, joined, runs}
use Rattle.machine_code.specs.declared.sides.Side.{Side}
use Rattle.machine_code.specs.declared.code.Code.{Code}
use Rattle.machine_code.specs.calls.Code.{items, gives_one}
use Rattle.machine_steps.specs.declared.layout.CallStack.{CallStack}
use Rattle.machine_steps.specs.declared.layout.Stepped.TheVariants.{Next, Stuck}
use Rattle.machine_steps.specs.calls.Layout.{control}
use Rattle.machine_steps.specs.calls.FramesMeet.{Point, with_labels, step_at, Meets, Inner, Reads}
use Rattle.machine_steps.proofs.Labels.{First, enters_block, enters_loop, enters_then, enters_else}
use Rattle.machine_steps.proofs.Points.{stuck_meets, floor_at, LabelsAt, labels_are, first_at, goes_on, height_of, top_is}
use Rattle.std.proofs.Math.Dec.{eqb-suc-zero}

module _ (x : Point) (m : CallStack) (code : Code) (h : Inner x m code) where
  -- the stack of calls with a block opened
  abbrev pub opened : List Value → ℕ → Option ValType → ℕ → CallStack
  opened vs goes t pos = record m { values = vs; controls = record { goes_to = goes; height = length vs; carries = gives_one t } ∷ m.controls; position = pos }

  pub opens : (ns : Nodes) (e : ℕ) (kind : Kind) (outer : Label) (goes pos : ℕ) (t : Option ValType) (vs : List Value) → vs ≡ joined (outer ∷ x.outer) ++ (reverse x.frame.locals ++ h.vs_below) →
      LabelsAt x m code h (label [] ns e kind ∷ outer ∷ x.outer) pos (control goes (length (joined (outer ∷ x.outer)) + floor_at x m code h) t ∷ h.level.mine) →
      Meets x Next (steps.next (config (with_labels x.frame (label [] ns e kind ∷ outer ∷ x.outer) ∷ x.callers) x.world x.collected)) (opened vs goes t pos)
  opens ns e kind outer goes pos t vs v ok =
      let height : length vs ≡ length (joined (outer ∷ x.outer)) + floor_at x m code h = height_of x m code h (outer ∷ x.outer) vs v in
      goes_on x m code h (label [] ns e kind ∷ outer ∷ x.outer) (control goes (length (joined (outer ∷ x.outer)) + floor_at x m code h) t ∷ h.level.mine) (opened vs goes t pos)
      ok refl (ap (λ n. control goes n t ∷ m.controls) height ∙ ap (λ ks. control goes (length (joined (outer ∷ x.outer)) + floor_at x m code h) t ∷ ks) h.level.ks_are) v

  pub block_meets : (t : Option ValType) (side : Side) (pos : ℕ) → Reads m code (Opens t) → slice_get code.sides m.position ≡ Some side → pos ≡ suc m.position → Meets x Next (step_at x) (opened m.values side.end t pos)
  block_meets t side pos r s p = by_nodes x.label.nodes (first_at x m code h (Opens t) r) (labels_are x m code h)
    where
      by_nodes : (ns : Nodes) → First ns (Opens t) → LabelsAt x m code h (label x.label.operands ns x.label.end x.label.kind ∷ x.outer) m.position h.level.mine → Meets x Next (runs x.engine ns x.frame x.label x.outer x.callers x.world x.collected) (opened m.values side.end t pos)
      by_nodes stop f ls = ⊎_elim (λ q. absurd (cc)) (λ q. absurd (cc)) f
      by_nodes (basic o b rest) f ls = absurd (cc)
      by_nodes (jump o j rest) f ls = absurd (cc)
      by_nodes (loop o u body e rest) f ls = absurd (cc)
      by_nodes (choose o u a ea b e rest) f ls = absurd (cc)
      by_nodes (block o u body e rest) f ls =
          let same : u ≡ t = cc in
          subst (λ v. Meets x Next (runs x.engine (block o u body e rest) x.frame x.label x.outer x.callers x.world x.collected) (opened m.values side.end v pos)) same
          (opens body e (leaves u) (label x.label.operands rest x.label.end x.label.kind) side.end pos u m.values h.level.vs_are
          (subst (λ n. LabelsAt x m code h (label [] body e (leaves u) ∷ label x.label.operands rest x.label.end x.label.kind ∷ x.outer) n (control side.end (length (x.label.operands ++ joined x.outer) + floor_at x m code h) u ∷ h.level.mine)) (sym p)
          (enters_block (items code) code.sides x.frame.result (floor_at x m code h) o u body e rest x.label.operands x.label.operands x.label.end x.label.kind x.outer m.position side h.level.mine ls s)))

  pub loop_meets : (t : Option ValType) (pos : ℕ) → Reads m code (OpensLoop t) → pos ≡ suc m.position → Meets x Next (step_at x) (opened m.values m.position None pos)
  loop_meets t pos r p = by_nodes x.label.nodes (first_at x m code h (OpensLoop t) r) (labels_are x m code h)
    where
      by_nodes : (ns : Nodes) → First ns (OpensLoop t) → LabelsAt x m code h (label x.label.operands ns x.label.end x.label.kind ∷ x.outer) m.position h.level.mine → Meets x Next (runs x.engine ns x.frame x.label x.outer x.callers x.world x.collected) (opened m.values m.position None pos)
      by_nodes stop f ls = ⊎_elim (λ q. absurd (cc)) (λ q. absurd (cc)) f
      by_nodes (basic o b rest) f ls = absurd (cc)
      by_nodes (jump o j rest) f ls = absurd (cc)
      by_nodes (block o u body e rest) f ls = absurd (cc)
      by_nodes (choose o u a ea b e rest) f ls = absurd (cc)
      by_nodes (loop o u body e rest) f ls =
          opens body e (again o u body e) (label x.label.operands rest x.label.end x.label.kind) m.position pos None m.values h.level.vs_are
          (subst (λ n. LabelsAt x m code h (label [] body e (again o u body e) ∷ label x.label.operands rest x.label.end x.label.kind ∷ x.outer) n (control m.position (length (x.label.operands ++ joined x.outer) + floor_at x m code h) None ∷ h.level.mine)) (sym p)
          (enters_loop (items code) code.sides x.frame.result (floor_at x m code h) o u body e rest x.label.operands x.label.operands x.label.end x.label.kind x.outer m.position h.level.mine ls))

  -- ---- `if`

  abbrev pub chosen : ℕ → Side → ℕ → ℕ
  chosen n side next = if n == 0 then side.arm else next

  pub if_meets : (t : Option ValType) (side : Side) (n : ℕ) (popped : List Value) (next : ℕ) → Reads m code (OpensIf t) → slice_get code.sides m.position ≡ Some side → m.values ≡ values.I32 n ∷ popped → next ≡ suc m.position →
      Meets x Next (step_at x) (opened popped side.end t (chosen n side next))
  if_meets t side n popped next r s v p = by_nodes x.label.nodes (first_at x m code h (OpensIf t) r) (labels_are x m code h)
    where
      to : CallStack
      to = opened popped side.end t (chosen n side next)

      by_nodes : (ns : Nodes) → First ns (OpensIf t) → LabelsAt x m code h (label x.label.operands ns x.label.end x.label.kind ∷ x.outer) m.position h.level.mine → Meets x Next (runs x.engine ns x.frame x.label x.outer x.callers x.world x.collected) (opened popped side.end t (chosen n side next))
      by_nodes stop f ls = ⊎_elim (λ q. absurd (cc)) (λ q. absurd (cc)) f
      by_nodes (basic o b rest) f ls = absurd (cc)
      by_nodes (jump o j rest) f ls = absurd (cc)
      by_nodes (block o u body e rest) f ls = absurd (cc)
      by_nodes (loop o u body e rest) f ls = absurd (cc)
      by_nodes (choose o u a ea b e rest) f ls = ⊎_elim
          (λ q. stuck_meets x Next (runs x.engine (choose o u a ea b e rest) x.frame x.label x.outer x.callers x.world x.collected) (opened popped side.end t (chosen n side next)) (ap (λ vs. steps.chooses x.engine vs u a ea b e rest x.frame x.label x.outer x.callers x.world x.collected) q))
          (λ w. subst (λ s. Meets x Next s (opened popped side.end t (chosen n side next))) (ap (λ vs. steps.chooses x.engine vs u a ea b e rest x.frame x.label x.outer x.callers x.world x.collected) (sym w.1)) (by_test n w.0 w.2))
          (top_is x m code h (values.I32 n) popped v)
        where
          same : u ≡ t
          same = cc

          by_test : (k : ℕ) (vs : List Value) → popped ≡ joined (label vs x.label.nodes x.label.end x.label.kind ∷ x.outer) ++ (reverse x.frame.locals ++ h.vs_below) → Meets x Next (steps.chooses x.engine (values.I32 k ∷ vs) u a ea b e rest x.frame x.label x.outer x.callers x.world x.collected) (opened popped side.end t (chosen k side next))
          by_test zero vs q =
              subst (λ y. Meets x Next (steps.chooses x.engine (values.I32 0 ∷ vs) u a ea b e rest x.frame x.label x.outer x.callers x.world x.collected) (opened popped side.end y side.arm)) same
              (opens b e (leaves u) (label vs rest x.label.end x.label.kind) side.end side.arm u popped q
              (enters_else (items code) code.sides x.frame.result (floor_at x m code h) o u a ea b e rest vs x.label.operands x.label.end x.label.kind x.outer m.position side h.level.mine ls s))
          by_test (suc k) vs q =
              let pos : chosen (suc k) side next ≡ suc m.position = ap (λ z. if z then side.arm else next) (eqb-suc-zero k) ∙ p in
              subst (λ y. Meets x Next (steps.chooses x.engine (values.I32 (suc k) ∷ vs) u a ea b e rest x.frame x.label x.outer x.callers x.world x.collected) (opened popped side.end y (chosen (suc k) side next))) same
              (opens a (unwrap_or ea e) (leaves u) (label vs rest x.label.end x.label.kind) side.end (chosen (suc k) side next) u popped q
              (subst (λ z. LabelsAt x m code h (label [] a (unwrap_or ea e) (leaves u) ∷ label vs rest x.label.end x.label.kind ∷ x.outer) z (control side.end (length (vs ++ joined x.outer) + floor_at x m code h) u ∷ h.level.mine)) (sym pos)
              (enters_then (items code) code.sides x.frame.result (floor_at x m code h) o u a ea b e rest vs x.label.operands x.label.end x.label.kind x.outer m.position side h.level.mine ls s)))

  -- without an i32 on top an `if` is stuck
  pub if_stuck : (t : Option ValType) (m' : CallStack) → Reads m code (OpensIf t) → (x.label.operands ≡ []) ⊎ ((n : ℕ) × (vs : List Value) × (x.label.operands ≡ values.I64 n ∷ vs)) → Meets x Stuck (step_at x) m'
  if_stuck t m' r o = by_nodes x.label.nodes (first_at x m code h (OpensIf t) r)
    where
      by_nodes : (ns : Nodes) → First ns (OpensIf t) → Meets x Stuck (runs x.engine ns x.frame x.label x.outer x.callers x.world x.collected) m'
      by_nodes stop f = ⊎_elim (λ q. absurd (cc)) (λ q. absurd (cc)) f
      by_nodes (basic o b rest) f = absurd (cc)
      by_nodes (jump o j rest) f = absurd (cc)
      by_nodes (block o u body e rest) f = absurd (cc)
      by_nodes (loop o u body e rest) f = absurd (cc)
      by_nodes (choose o' u a ea b e rest) f = stuck_meets x Stuck (runs x.engine (choose o' u a ea b e rest) x.frame x.label x.outer x.callers x.world x.collected) m'
          (⊎_elim (λ q. ap (λ vs. steps.chooses x.engine vs u a ea b e rest x.frame x.label x.outer x.callers x.world x.collected) q)
          (λ w. ap (λ vs. steps.chooses x.engine vs u a ea b e rest x.frame x.label x.outer x.callers x.world x.collected) w.2) o)

-- what is on top where it is no i32
pub other_top : (x : Point) (m : CallStack) (code : Code) → Inner x m code → (n : ℕ) (popped : List Value) → m.values ≡ values.I64 n ∷ popped → (x.label.operands ≡ []) ⊎ ((n : ℕ) × (vs : List Value) × (x.label.operands ≡ values.I64 n ∷ vs))
other_top x m code h n popped e = ⊎_elim (λ q. inl q) (λ w. inr (n, w.0, w.1)) (top_is x m code h (values.I64 n) popped e)
