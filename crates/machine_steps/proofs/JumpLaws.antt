-- Instructions that may go elsewhere, by their operands.
use Rattle.std.proofs.Common.{◌≡◌, ℕ, zero, suc, List, [], ◌∷◌, ◌++◌, reverse, refl, sym, ap, subst, ◌∙◌, ⊎_elim}
use Rattle.std.specs.Prelude.{◌⊎◌, Bool, true, false}
use Rattle.wasm_syntax.specs.declared.value.Value.{Value}
use Rattle.wasm_syntax.specs.declared.value.Value.TheVariants as values
use Rattle.wasm_syntax.specs.Tree.{Jump, BrIf, BrTable, Nodes, stop, basic, jump, block, loop, choose, Goes}
use Rattle.wasm_syntax.specs.Machine as steps
use Rattle.wasm_syntax.specs.Machine.{label, joined, runs, branch, moved, jumps, pick, same_carry, carry}
use Rattle.machine_code.specs.declared.code.Code.{Code}
use Rattle.machine_code.specs.calls.Code.{items}
use Rattle.machine_steps.specs.declared.layout.CallStack.{CallStack}
use Rattle.machine_steps.specs.declared.layout.Stepped.{Stepped}
use Rattle.machine_steps.specs.declared.layout.Stepped.TheVariants.{Next, Stuck}
use Rattle.machine_steps.specs.calls.FramesMeet.{Point, with_operands, step_at, Meets, Inner, Reads, branch_at}
use Rattle.machine_steps.proofs.Labels.{First, by_kind, behind_jump}
use Rattle.machine_steps.proofs.Points.{stuck_meets, floor_at, LabelsAt, labels_are, first_at, goes_on, top_is}

-- the nodes begin with this jump
pub record IsJump (j : Jump) (ns : Nodes) : Type 0 where
  pub at : ℕ
  pub rest : Nodes
  pub is : ns ≡ jump at j rest

is_jump : (j : Jump) (ns : Nodes) → First ns (Goes j) → IsJump j ns
is_jump j stop f = ⊎_elim (λ q. absurd (cc)) (λ q. absurd (cc)) f
is_jump j (basic at i rest) f = absurd (cc)
is_jump j (jump at k rest) f = let same : j ≡ k = cc in record { at = at; rest = rest; is = ap (λ k. jump at k rest) (sym same) }
is_jump j (block at t body end rest) f = absurd (cc)
is_jump j (loop at t body end rest) f = absurd (cc)
is_jump j (choose at t a ea b end rest) f = absurd (cc)

module _ (x : Point) (m : CallStack) (code : Code) (h : Inner x m code) where
  pub jump_at : (j : Jump) → Reads m code (Goes j) → IsJump j x.label.nodes
  jump_at j r = is_jump j x.label.nodes (first_at x m code h (Goes j) r)

  -- the step is the jump's
  pub step_jumps : (j : Jump) (i : IsJump j x.label.nodes) → step_at x ≡ jumps x.engine j i.at i.rest x.frame x.label x.outer x.callers x.world x.collected
  step_jumps j i = ap (λ ns. runs x.engine ns x.frame x.label x.outer x.callers x.world x.collected) i.is

  pub behind : (j : Jump) (i : IsJump j x.label.nodes) (vs : List Value) → LabelsAt x m code h (label vs i.rest x.label.end x.label.kind ∷ x.outer) (suc m.position) h.level.mine
  behind j i vs = behind_jump (items code) code.sides x.frame.result (floor_at x m code h) x.label.operands vs i.at j i.rest x.label.end x.label.kind x.outer m.position h.level.mine
      (subst (λ ns. LabelsAt x m code h (label x.label.operands ns x.label.end x.label.kind ∷ x.outer) m.position h.level.mine) i.is (labels_are x m code h))

  -- the same point with its topmost operand popped
  pub popped_inner : (vs popped : List Value) → popped ≡ joined (label vs x.label.nodes x.label.end x.label.kind ∷ x.outer) ++ (reverse x.frame.locals ++ h.vs_below) → Inner (with_operands x vs) (record m { values = popped }) code
  popped_inner vs popped e =
      let lv = h.level in
      record {
        prepares = h.prepares;
        e = h.e;
        es = h.es;
        es_are = h.es_are;
        ks_below = h.ks_below;
        vs_below = h.vs_below;
        level = record {
          tree = lv.tree;
          type = lv.type;
          is_defined = lv.is_defined;
          index = lv.index;
          code_is = lv.code_is;
          fits = lv.fits;
          result_is = lv.result_is;
          base = lv.base;
          controls = lv.controls;
          floor = lv.floor;
          mine = lv.mine;
          ks_are = lv.ks_are;
          vs_are = e;
          labels_are = lv.labels_are;
        };
        waiting = h.waiting;
      }

  -- a branch looks at no more of the innermost label than its kind
  branch_same : (n : ℕ) (vs : List Value) → branch n vs (x.label ∷ x.outer) ≡ branch n vs (label vs x.label.nodes x.label.end x.label.kind ∷ x.outer)
  branch_same n vs = by_kind (items code) code.sides x.frame.result (floor_at x m code h) n vs x.label (label vs x.label.nodes x.label.end x.label.kind) x.outer refl

  -- what a branch from any point without the topmost operand came to
  abbrev pub Branched : Stepped → CallStack → List Value → ℕ → Type 0
  Branched a m' popped n = (y : Point) → Inner y (record m { values = popped }) code → Meets y a (branch_at y n) m'

  branched : (n : ℕ) (vs popped : List Value) (a : Stepped) (m' : CallStack) → popped ≡ joined (label vs x.label.nodes x.label.end x.label.kind ∷ x.outer) ++ (reverse x.frame.locals ++ h.vs_below) →
      Meets (with_operands x vs) a (branch_at (with_operands x vs) n) m' → Meets x a (moved x.engine (branch n vs (x.label ∷ x.outer)) x.frame x.callers x.world x.collected) m'
  branched n vs popped a m' e b = subst (λ w. Meets x a (moved x.engine w x.frame x.callers x.world x.collected) m') (sym (branch_same n vs)) b

  -- ---- `br_if`

  pub branch_if_on : (n : ℕ) (popped : List Value) (pos : ℕ) → Reads m code (Goes (BrIf n)) → m.values ≡ values.I32 0 ∷ popped → pos ≡ suc m.position → Meets x Next (step_at x) (record m { values = popped; position = pos })
  branch_if_on n popped pos r e p =
      let i = jump_at (BrIf n) r in
      subst (λ s. Meets x Next s (record m { values = popped; position = pos })) (sym (step_jumps (BrIf n) i))
      (⊎_elim
      (λ o. stuck_meets x Next _ _ (ap (λ vs. steps.branch_if x.engine n vs i.rest x.frame x.label x.outer x.callers x.world x.collected) o))
      (λ w. subst (λ s. Meets x Next s (record m { values = popped; position = pos })) (sym (ap (λ vs. steps.branch_if x.engine n vs i.rest x.frame x.label x.outer x.callers x.world x.collected) w.1))
      (goes_on x m code h (label w.0 i.rest x.label.end x.label.kind ∷ x.outer) h.level.mine (record m { values = popped; position = pos })
      (subst (λ q. LabelsAt x m code h (label w.0 i.rest x.label.end x.label.kind ∷ x.outer) q h.level.mine) (sym p) (behind (BrIf n) i w.0)) refl h.level.ks_are w.2))
      (top_is x m code h (values.I32 0) popped e))

  pub branch_if_takes : (n c : ℕ) (popped : List Value) (a : Stepped) (m' : CallStack) → Reads m code (Goes (BrIf n)) → (c ≡ 0 → ⊥) → m.values ≡ values.I32 c ∷ popped → Branched a m' popped n → Meets x a (step_at x) m'
  branch_if_takes n c popped a m' r nz e br =
      let i = jump_at (BrIf n) r in
      subst (λ s. Meets x a s m') (sym (step_jumps (BrIf n) i))
      (⊎_elim
      (λ o. stuck_meets x a _ m' (ap (λ vs. steps.branch_if x.engine n vs i.rest x.frame x.label x.outer x.callers x.world x.collected) o))
      (λ w. subst (λ s. Meets x a s m') (sym (ap (λ vs. steps.branch_if x.engine n vs i.rest x.frame x.label x.outer x.callers x.world x.collected) w.1))
      (by_count c nz i.rest w.0 (branched n w.0 popped a m' w.2 (br (with_operands x w.0) (popped_inner w.0 popped w.2)))))
      (top_is x m code h (values.I32 c) popped e))
    where
      by_count : (c : ℕ) → (c ≡ 0 → ⊥) → (rest : Nodes) (vs : List Value) → Meets x a (moved x.engine (branch n vs (x.label ∷ x.outer)) x.frame x.callers x.world x.collected) m' → Meets x a (steps.branch_if x.engine n (values.I32 c ∷ vs) rest x.frame x.label x.outer x.callers x.world x.collected) m'
      by_count zero nz rest vs b = absurd (nz refl)
      by_count (suc c) nz rest vs b = b

  -- what is on top where it is no i32
  abbrev pub NoI32 : Type 0
  NoI32 = (x.label.operands ≡ []) ⊎ ((n : ℕ) × (vs : List Value) × (x.label.operands ≡ values.I64 n ∷ vs))

  pub branch_if_stuck : (n : ℕ) (m' : CallStack) → Reads m code (Goes (BrIf n)) → NoI32 → Meets x Stuck (step_at x) m'
  branch_if_stuck n m' r o =
      let i = jump_at (BrIf n) r in
      stuck_meets x Stuck (step_at x) m' (step_jumps (BrIf n) i ∙
      ⊎_elim (λ q. ap (λ vs. steps.branch_if x.engine n vs i.rest x.frame x.label x.outer x.callers x.world x.collected) q)
      (λ w. ap (λ vs. steps.branch_if x.engine n vs i.rest x.frame x.label x.outer x.callers x.world x.collected) w.2) o)

  -- ---- `br_table`

  pub branch_table_takes : (ts : List ℕ) (d c n : ℕ) (popped : List Value) (a : Stepped) (m' : CallStack) → Reads m code (Goes (BrTable ts d)) → m.values ≡ values.I32 c ∷ popped → n ≡ pick ts d c → Branched a m' popped n → Meets x a (step_at x) m'
  branch_table_takes ts d c n popped a m' r e p br =
      let i = jump_at (BrTable ts d) r in
      subst (λ s. Meets x a s m') (sym (step_jumps (BrTable ts d) i))
      (⊎_elim
      (λ o. stuck_meets x a _ m' (ap (λ vs. steps.branch_table x.engine ts d vs x.frame x.label x.outer x.callers x.world x.collected) o))
      (λ w. subst (λ s. Meets x a s m') (sym (ap (λ vs. steps.branch_table x.engine ts d vs x.frame x.label x.outer x.callers x.world x.collected) w.1))
      (by_carry (same_carry (carry (pick ts d c) (x.label ∷ x.outer)) (carry d (x.label ∷ x.outer))) w.0
      (subst (λ k. Meets x a (moved x.engine (branch k w.0 (x.label ∷ x.outer)) x.frame x.callers x.world x.collected) m') p (branched n w.0 popped a m' w.2 (br (with_operands x w.0) (popped_inner w.0 popped w.2))))))
      (top_is x m code h (values.I32 c) popped e))
    where
      by_carry : (b : Bool) (vs : List Value) → Meets x a (moved x.engine (branch (pick ts d c) vs (x.label ∷ x.outer)) x.frame x.callers x.world x.collected) m' →
          Meets x a (steps.moved_if x.engine b (branch (pick ts d c) vs (x.label ∷ x.outer)) x.frame x.callers x.world x.collected) m'
      by_carry false vs q = stuck_meets x a _ m' refl
      by_carry true vs q = q

  pub branch_table_stuck : (ts : List ℕ) (d : ℕ) (m' : CallStack) → Reads m code (Goes (BrTable ts d)) → NoI32 → Meets x Stuck (step_at x) m'
  branch_table_stuck ts d m' r o =
      let i = jump_at (BrTable ts d) r in
      stuck_meets x Stuck (step_at x) m' (step_jumps (BrTable ts d) i ∙
      ⊎_elim (λ q. ap (λ vs. steps.branch_table x.engine ts d vs x.frame x.label x.outer x.callers x.world x.collected) q)
      (λ w. ap (λ vs. steps.branch_table x.engine ts d vs x.frame x.label x.outer x.callers x.world x.collected) w.2) o)
