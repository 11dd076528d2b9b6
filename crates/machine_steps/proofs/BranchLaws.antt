-- Branches, and the ends of blocks.
use Rattle.std.proofs.Common.{◌≡◌, ℕ, zero, suc, ◌+◌, ◌-◌, ◌<◌, ◌≤◌, List, [], ◌∷◌, ◌++◌, length, reverse, take, drop, refl, sym, ap, subst, ◌∙◌, ⊎_elim, append_assoc, length-append, arith}
use Rattle.std.proofs.lemmas.List.{length-reverse, take-append-drop, length-drop}
use Rattle.std.specs.Prelude.{Option, Some, None, slice_get}
use Rattle.wasm_syntax.specs.declared.value.ValType.{ValType}
use Rattle.wasm_syntax.specs.declared.value.Value.{Value}
use Rattle.wasm_syntax.specs.Tree.{Nodes, stop, basic, jump, block, loop, choose, Else, End}
use Rattle.wasm_syntax.specs.Machine as steps
use Rattle.wasm_syntax.specs.Machine.{Kind, leaves, again, returns, Label, label, config, joined, runs, branch, exactly, arrive_some, out_some, moved}
use Rattle.machine_code.specs.declared.code.Code.{Code}
use Rattle.machine_code.specs.calls.Flat.{Is}
use Rattle.machine_code.specs.calls.Code.{items}
use Rattle.machine_steps.specs.declared.layout.Control.{Control}
use Rattle.machine_steps.specs.declared.layout.CallFrame.{CallFrame}
use Rattle.machine_steps.specs.declared.layout.CallStack.{CallStack}
use Rattle.machine_steps.specs.declared.layout.Stepped.{Stepped}
use Rattle.machine_steps.specs.declared.layout.Stepped.TheVariants.{Next}
use Rattle.machine_steps.specs.calls.FramesMeet.{Point, with_labels, step_at, Meets, Inner, Reads, return_at, branch_at}
use Rattle.machine_steps.specs.inner.Moves.{Becomes, Carried}
use Rattle.machine_steps.proofs.Labels.{First, Branches, exactly_all, exactly_top, not_both, leaves_end, leaves_loop, leaves_else, branches, leaves_body, by_kind}
use Rattle.machine_steps.proofs.Points.{stuck_meets, becomes, floor_at, LabelsAt, labels_are, first_at, goes_on}
use Rattle.pm_text.proofs.Lists.{some_is}

-- the first of a list
pub first_of : {A : Type 0} (xs : List A) (e f : A) (es : List A) → xs ≡ e ∷ es → slice_get xs 0 ≡ Some f → e ≡ f
first_of xs e f es q s = some_is (sym (ap (λ l. slice_get l 0) q) ∙ s)

get_left : {A : Type 0} (xs ys : List A) (n : ℕ) (x : A) → n < length xs → slice_get (xs ++ ys) n ≡ Some x → slice_get xs n ≡ Some x
get_left [] ys n x lt e = absurd (omega arith)
get_left (y ∷ xs) ys zero x lt e = e
get_left (y ∷ xs) ys (suc n) x lt e = get_left xs ys n x (omega arith) e

pub get_some : {A : Type 0} (xs : List A) (n : ℕ) → n < length xs → slice_get xs n ≡ None → ⊥
get_some [] n lt e = omega arith
get_some (y ∷ xs) zero lt e = cc
get_some (y ∷ xs) (suc n) lt e = get_some xs n (omega arith) e

regroup : {A : Type 0} (kept gone over below under : List A) → ((kept ++ gone) ++ (over ++ below)) ++ under ≡ kept ++ ((gone ++ over) ++ (below ++ under))
regroup kept gone over below under = simp append_assoc refl

module _ (x : Point) (m : CallStack) (code : Code) (h : Inner x m code) where
  -- ---- the end of a block

  abbrev LabelsOf : Kind → List Label → List Control → Type 0
  LabelsOf kind ls ks = LabelsAt x m code h (label x.label.operands stop x.label.end kind ∷ ls) m.position ks

  own_count : (ks : List Control) → h.level.mine ≡ ks → length m.controls ≡ length ks + h.e.controls
  own_count ks e = ap length h.level.ks_are ∙ length-append h.level.mine h.ks_below ∙ ap (λ l. length l + length h.ks_below) e ∙ ap (λ n. length ks + n) (sym h.level.controls)

  -- results go on in the block outside
  left_to : (taken : List Value) (l : Label) (ls : List Label) (k : Control) (ks : List Control) (pos : ℕ) → x.label.operands ≡ taken → x.outer ≡ l ∷ ls → h.level.mine ≡ k ∷ ks →
      LabelsAt x m code h (label (taken ++ l.operands) l.nodes l.end l.kind ∷ ls) pos ks →
      (m' : CallStack) → m' ≡ record m { controls = drop 1 m.controls; position = pos } →
      Meets x Next (steps.next (config (with_labels x.frame (label (taken ++ l.operands) l.nodes l.end l.kind ∷ ls) ∷ x.callers) x.world x.collected)) m'
  left_to taken l ls k ks pos v o mi ok m' q =
      subst (λ z. Meets x Next (steps.next (config (with_labels x.frame (label (taken ++ l.operands) l.nodes l.end l.kind ∷ ls) ∷ x.callers) x.world x.collected)) z) (sym q)
      (goes_on x m code h (label (taken ++ l.operands) l.nodes l.end l.kind ∷ ls) ks (record m { controls = drop 1 m.controls; position = pos }) ok refl
      (ap (drop 1) (h.level.ks_are ∙ ap (λ z. z ++ h.ks_below) mi))
      (h.level.vs_are ∙ ap (λ z. (z ++ joined x.outer) ++ (reverse x.frame.locals ++ h.vs_below)) v ∙ ap (λ z. (taken ++ joined z) ++ (reverse x.frame.locals ++ h.vs_below)) o ∙ ap (λ z. z ++ (reverse x.frame.locals ++ h.vs_below)) (sym (append_assoc taken l.operands (joined ls)))))

  -- at an `end`, with an open block
  pub end_inside : (pos : ℕ) (frame : CallFrame) → Reads m code End → slice_get m.frames 0 ≡ Some frame → frame.controls < length m.controls → pos ≡ suc m.position →
      Meets x Next (step_at x) (record m { controls = drop 1 m.controls; position = pos })
  end_inside pos frame r fr lt p = by_nodes x.label.nodes (first_at x m code h End r) (labels_are x m code h)
    where
      to : CallStack
      to = record m { controls = drop 1 m.controls; position = pos }

      many : h.level.mine ≡ [] → ⊥
      many e = let c : h.e.controls ≡ frame.controls = ap (λ (f : CallFrame). f.controls) (first_of m.frames h.e frame h.es h.es_are fr) in omega (arith, own_count [] e)

      by_taken : (t : Option ValType) (l : Label) (ls : List Label) (k : Control) (ks : List Control) → x.outer ≡ l ∷ ls → h.level.mine ≡ k ∷ ks →
          ((ws : List Value) → LabelsAt x m code h (label ws l.nodes l.end l.kind ∷ ls) (suc m.position) ks) → (o : Option (List Value)) → exactly t x.label.operands ≡ o →
          Meets x Next (moved x.engine (arrive_some o (l ∷ ls)) x.frame x.callers x.world x.collected) (record m { controls = drop 1 m.controls; position = pos })
      by_taken t l ls k ks o mi ok None q = tt
      by_taken t l ls k ks o mi ok (Some taken) q =
          left_to taken l ls k ks pos (exactly_all t x.label.operands taken q) o mi (subst (λ z. LabelsAt x m code h (label (taken ++ l.operands) l.nodes l.end l.kind ∷ ls) z ks) (sym p) (ok (taken ++ l.operands))) _ refl

      by_kind_of : (kind : Kind) (ls : List Label) (ks : List Control) → x.outer ≡ ls → h.level.mine ≡ ks → LabelsOf kind ls ks → Meets x Next (moved x.engine (steps.leave kind x.label.operands ls) x.frame x.callers x.world x.collected) (record m { controls = drop 1 m.controls; position = pos })
      by_kind_of (returns t) ls ks o mi w = absurd (many (mi ∙ w.1.3))
      by_kind_of (leaves t) [] ks o mi w = absurd w.1
      by_kind_of (leaves t) (l ∷ ls) [] o mi w = absurd w.1
      by_kind_of (leaves t) (l ∷ ls) (k ∷ ks) o mi w =
          by_taken t l ls k ks o mi (λ ws. leaves_end (items code) code.sides x.frame.result (floor_at x m code h) x.label.operands ws x.label.end t l ls m.position r.0 k ks w r.1) (exactly t x.label.operands) refl
      by_kind_of (again a t body e) [] ks o mi w = absurd w.1
      by_kind_of (again a t body e) (l ∷ ls) [] o mi w = absurd w.1
      by_kind_of (again a t body e) (l ∷ ls) (k ∷ ks) o mi w =
          by_taken t l ls k ks o mi (λ ws. leaves_loop (items code) code.sides x.frame.result (floor_at x m code h) x.label.operands ws x.label.end a t body e l ls m.position k ks w) (exactly t x.label.operands) refl

      by_nodes : (ns : Nodes) → First ns End → LabelsAt x m code h (label x.label.operands ns x.label.end x.label.kind ∷ x.outer) m.position h.level.mine → Meets x Next (runs x.engine ns x.frame x.label x.outer x.callers x.world x.collected) (record m { controls = drop 1 m.controls; position = pos })
      by_nodes stop f w = by_kind_of x.label.kind x.outer h.level.mine refl refl w
      by_nodes (basic o b rest) f w = absurd (cc)
      by_nodes (jump o j rest) f w = absurd (cc)
      by_nodes (block o u body e rest) f w = absurd (cc)
      by_nodes (loop o u body e rest) f w = absurd (cc)
      by_nodes (choose o u a ea b e rest) f w = absurd (cc)

  -- at the `end` of the body
  pub end_out : (a : Stepped) (m' : CallStack) (frame : CallFrame) → Reads m code End → slice_get m.frames 0 ≡ Some frame → length m.controls ≤ frame.controls → Meets x a (return_at x) m' → Meets x a (step_at x) m'
  end_out a m' frame r fr le ret = by_nodes x.label.nodes (first_at x m code h End r) (labels_are x m code h)
    where
      none : (k : Control) (ks : List Control) → h.level.mine ≡ k ∷ ks → ⊥
      none k ks e = let c : h.e.controls ≡ frame.controls = ap (λ (f : CallFrame). f.controls) (first_of m.frames h.e frame h.es h.es_are fr) in omega (arith, own_count (k ∷ ks) e)

      by_kind_of : (kind : Kind) (ls : List Label) (ks : List Control) → h.level.mine ≡ ks → LabelsOf kind ls ks → Meets x a (moved x.engine (steps.leave kind x.label.operands ls) x.frame x.callers x.world x.collected) m'
      by_kind_of (returns t) ls ks mi w =
          subst (λ t'. Meets x a (moved x.engine (out_some (exactly t' x.label.operands)) x.frame x.callers x.world x.collected) m') (sym w.1.1)
          (⊎_elim (λ q. stuck_meets x a _ m' (ap (λ o. moved x.engine (out_some o) x.frame x.callers x.world x.collected) q))
          (λ q. subst (λ o. Meets x a (moved x.engine (out_some o) x.frame x.callers x.world x.collected) m') (sym q) ret)
          (exactly_top x.frame.result x.label.operands))
      by_kind_of (leaves t) [] ks mi w = absurd w.1
      by_kind_of (leaves t) (l ∷ ls) [] mi w = absurd w.1
      by_kind_of (leaves t) (l ∷ ls) (k ∷ ks) mi w = absurd (none k ks mi)
      by_kind_of (again o t body e) [] ks mi w = absurd w.1
      by_kind_of (again o t body e) (l ∷ ls) [] mi w = absurd w.1
      by_kind_of (again o t body e) (l ∷ ls) (k ∷ ks) mi w = absurd (none k ks mi)

      by_nodes : (ns : Nodes) → First ns End → LabelsAt x m code h (label x.label.operands ns x.label.end x.label.kind ∷ x.outer) m.position h.level.mine → Meets x a (runs x.engine ns x.frame x.label x.outer x.callers x.world x.collected) m'
      by_nodes stop f w = by_kind_of x.label.kind x.outer h.level.mine refl w
      by_nodes (basic o b rest) f w = absurd (cc)
      by_nodes (jump o j rest) f w = absurd (cc)
      by_nodes (block o u body e rest) f w = absurd (cc)
      by_nodes (loop o u body e rest) f w = absurd (cc)
      by_nodes (choose o u a' ea b e rest) f w = absurd (cc)

  -- ---- at an `else`

  -- the block that it closes
  pub record AtElse : Type 0 where
    pub t : Option ValType
    pub l : Label
    pub ls : List Label
    pub k : Control
    pub ks : List Control
    pub outer_is : x.outer ≡ l ∷ ls
    pub mine_is : h.level.mine ≡ k ∷ ks
    pub nodes_are : x.label.nodes ≡ stop
    pub kind_is : x.label.kind ≡ leaves t
    pub stands : LabelsOf (leaves t) (l ∷ ls) (k ∷ ks)

  pub at_else : Reads m code Else → AtElse
  at_else r = by_nodes x.label.nodes refl (first_at x m code h Else r) (labels_are x m code h)
    where
      no_end : (kind : Kind) (ls : List Label) (ks : List Control) → LabelsOf kind ls ks → Is (items code) code.sides (m.position + 0) x.label.end End → ⊥
      no_end kind ls ks w e = let z : m.position + 0 ≡ m.position = omega arith in not_both (items code) code.sides m.position x.label.end r.0 (subst (λ n. Is (items code) code.sides n x.label.end End) z e) r.1

      by_kind_of : (kind : Kind) (ls : List Label) (ks : List Control) → x.label.nodes ≡ stop → x.label.kind ≡ kind → x.outer ≡ ls → h.level.mine ≡ ks → LabelsOf kind ls ks → AtElse
      by_kind_of (returns t) ls ks n ki o mi w = absurd (no_end (returns t) ls ks w w.1.0)
      by_kind_of (leaves t) [] ks n ki o mi w = absurd w.1
      by_kind_of (leaves t) (l ∷ ls) [] n ki o mi w = absurd w.1
      by_kind_of (leaves t) (l ∷ ls) (k ∷ ks) n ki o mi w = record { t = t; l = l; ls = ls; k = k; ks = ks; outer_is = o; mine_is = mi; nodes_are = n; kind_is = ki; stands = w }
      by_kind_of (again a t body e) [] ks n ki o mi w = absurd w.1
      by_kind_of (again a t body e) (l ∷ ls) [] n ki o mi w = absurd w.1
      by_kind_of (again a t body e) (l ∷ ls) (k ∷ ks) n ki o mi w = absurd (no_end (again a t body e) (l ∷ ls) (k ∷ ks) w w.1.1)

      by_nodes : (ns : Nodes) → x.label.nodes ≡ ns → First ns Else → LabelsAt x m code h (label x.label.operands ns x.label.end x.label.kind ∷ x.outer) m.position h.level.mine → AtElse
      by_nodes stop n f w = by_kind_of x.label.kind x.outer h.level.mine n refl refl refl w
      by_nodes (basic o b rest) n f w = absurd (cc)
      by_nodes (jump o j rest) n f w = absurd (cc)
      by_nodes (block o u body e rest) n f w = absurd (cc)
      by_nodes (loop o u body e rest) n f w = absurd (cc)
      by_nodes (choose o u a ea b e rest) n f w = absurd (cc)

  pub else_meets : (k : Control) (popped : List Control) → Reads m code Else → m.controls ≡ k ∷ popped → Meets x Next (step_at x) (record m { controls = popped; position = k.goes_to })
  else_meets k popped r c =
      let a = at_else r in
      let same : k ∷ popped ≡ a.k ∷ (a.ks ++ h.ks_below) = sym c ∙ h.level.ks_are ∙ ap (λ z. z ++ h.ks_below) a.mine_is in
      let k_is : a.k ≡ k = cc in
      let goes : k.goes_to ≡ a.k.goes_to = ap (λ (k : Control). k.goes_to) (sym k_is) in
      let m_is : record m { controls = popped; position = k.goes_to } ≡ record m { controls = drop 1 m.controls; position = a.k.goes_to } = ap (λ z. record m { controls = popped; position = z }) goes ∙ ap (λ z. record m { controls = z; position = a.k.goes_to }) (sym (ap (drop 1) c)) in
      subst (λ z. Meets x Next z (record m { controls = popped; position = k.goes_to })) (sym (step_is a)) (by_taken a m_is (exactly a.t x.label.operands) refl)
    where
      step_is : (a : AtElse) → step_at x ≡ moved x.engine (arrive_some (exactly a.t x.label.operands) (a.l ∷ a.ls)) x.frame x.callers x.world x.collected
      step_is a =
          ap (λ ns. runs x.engine ns x.frame x.label x.outer x.callers x.world x.collected) a.nodes_are
          ∙ ap (λ kind. moved x.engine (steps.leave kind x.label.operands x.outer) x.frame x.callers x.world x.collected) a.kind_is
          ∙ ap (λ ls. moved x.engine (arrive_some (exactly a.t x.label.operands) ls) x.frame x.callers x.world x.collected) a.outer_is

      by_taken : (a : AtElse) → record m { controls = popped; position = k.goes_to } ≡ record m { controls = drop 1 m.controls; position = a.k.goes_to } → (o : Option (List Value)) → exactly a.t x.label.operands ≡ o →
          Meets x Next (moved x.engine (arrive_some o (a.l ∷ a.ls)) x.frame x.callers x.world x.collected) (record m { controls = popped; position = k.goes_to })
      by_taken a m_is None q = tt
      by_taken a m_is (Some taken) q =
          left_to taken a.l a.ls a.k a.ks a.k.goes_to (exactly_all a.t x.label.operands taken q) a.outer_is a.mine_is
          (leaves_else (items code) code.sides x.frame.result (floor_at x m code h) x.label.operands (taken ++ a.l.operands) x.label.end a.t a.l a.ls m.position a.k a.ks a.stands) _ m_is

  pub else_some : Reads m code Else → m.controls ≡ [] → ⊥
  else_some r c = let a = at_else r in let no : [] ≡ a.k ∷ (a.ks ++ h.ks_below) = sym c ∙ h.level.ks_are ∙ ap (λ z. z ++ h.ks_below) a.mine_is in cc

  -- ---- a branch

  kind_alone : (n : ℕ) → branch_at x n ≡ moved x.engine (branch n x.label.operands (label [] stop 0 x.label.kind ∷ x.outer)) x.frame x.callers x.world x.collected
  kind_alone n = ap (λ w. moved x.engine w x.frame x.callers x.world x.collected) (by_kind (items code) code.sides x.frame.result (floor_at x m code h) n x.label.operands x.label (label [] stop 0 x.label.kind) x.outer refl)

  pub branch_inside : (n left : ℕ) (k : Control) (frame : CallFrame) (a : Stepped) (m' : CallStack) → slice_get m.frames 0 ≡ Some frame → n < length m.controls - frame.controls → slice_get m.controls n ≡ Some k → left ≡ length m.controls - n - 1 →
      ((kept over below : List Value) (above ks : List Control) → m.values ≡ kept ++ (over ++ below) → Carried k.carries kept → length below ≡ k.height → m.controls ≡ above ++ ks → length ks ≡ left → Becomes a m' (record m { values = kept ++ below; controls = ks; position = k.goes_to })) →
      Meets x a (branch_at x n) m'
  branch_inside n left k frame a m' fr lt s l go =
      let c : h.e.controls ≡ frame.controls = ap (λ (f : CallFrame). f.controls) (first_of m.frames h.e frame h.es h.es_are fr) in
      let within : n < length h.level.mine = omega (arith, own_count h.level.mine refl) in
      let k_is : slice_get h.level.mine n ≡ Some k = get_left h.level.mine h.ks_below n k within (sym (ap (λ z. slice_get z n) h.level.ks_are) ∙ s) in
      subst (λ z. Meets x a z m') (sym (kind_alone n))
      (⊎_elim
      (λ q. stuck_meets x a _ m' (ap (λ w. moved x.engine w x.frame x.callers x.world x.collected) q))
      (λ b. subst (λ z. Meets x a z m') (sym (ap (λ w. moved x.engine w x.frame x.callers x.world x.collected) b.goes)) (lands b within))
      (branches (items code) code.sides x.frame.result (floor_at x m code h) n x.label.operands x.label.kind x.outer _ _ k h.level.mine (labels_are x m code h).1 k_is))
    where
      lands : (b : Branches (items code) code.sides x.frame.result (floor_at x m code h) n x.label.operands x.label.kind x.outer h.level.mine k) → n < length h.level.mine →
          Meets x a (steps.next (config (with_labels x.frame b.labels ∷ x.callers) x.world x.collected)) m'
      lands b within =
          let under : List Value = reverse x.frame.locals ++ h.vs_below in
          let vs : m.values ≡ b.kept ++ ((b.gone ++ b.over) ++ (b.below ++ under)) = h.level.vs_are ∙ ap (λ z. (z ++ joined x.outer) ++ under) b.taken_is ∙ ap (λ z. ((b.kept ++ b.gone) ++ z) ++ under) b.joined_is ∙ regroup b.kept b.gone b.over b.below under in
          let height : length (b.below ++ under) ≡ k.height = rw (length-append b.below under, length-append (reverse x.frame.locals) h.vs_below, length-reverse x.frame.locals) (sym b.height) in
          let ks : m.controls ≡ take (suc n) h.level.mine ++ (drop (suc n) h.level.mine ++ h.ks_below) =
          h.level.ks_are ∙ ap (λ z. z ++ h.ks_below) (sym (take-append-drop (suc n) h.level.mine)) ∙ append_assoc (take (suc n) h.level.mine) (drop (suc n) h.level.mine) h.ks_below in
          let count : length (drop (suc n) h.level.mine ++ h.ks_below) ≡ left =
          omega (arith, l, length-append (drop (suc n) h.level.mine) h.ks_below, length-drop (suc n) h.level.mine, ap length h.level.ks_are, length-append h.level.mine h.ks_below) in
          let to : CallStack = record m { values = b.kept ++ (b.below ++ under); controls = drop (suc n) h.level.mine ++ h.ks_below; position = k.goes_to } in
          becomes x a _ m' to (go b.kept (b.gone ++ b.over) (b.below ++ under) (take (suc n) h.level.mine) (drop (suc n) h.level.mine ++ h.ks_below) vs b.carried height ks count)
          (goes_on x m code h b.labels (drop (suc n) h.level.mine) to b.stand refl refl (sym (ap (λ z. z ++ under) b.values ∙ append_assoc b.kept b.below under)))

  pub branch_out : (n : ℕ) (frame : CallFrame) (a : Stepped) (m' : CallStack) → slice_get m.frames 0 ≡ Some frame → length m.controls - frame.controls ≤ n → Meets x a (return_at x) m' → Meets x a (branch_at x n) m'
  branch_out n frame a m' fr le ret =
      let c : h.e.controls ≡ frame.controls = ap (λ (f : CallFrame). f.controls) (first_of m.frames h.e frame h.es h.es_are fr) in
      let few : length h.level.mine ≤ n = omega (arith, own_count h.level.mine refl) in
      subst (λ z. Meets x a z m') (sym (kind_alone n))
      (⊎_elim
      (λ q. stuck_meets x a _ m' (ap (λ w. moved x.engine w x.frame x.callers x.world x.collected) q))
      (λ q. subst (λ z. Meets x a z m') (sym (ap (λ w. moved x.engine w x.frame x.callers x.world x.collected) q)) ret)
      (leaves_body (items code) code.sides x.frame.result (floor_at x m code h) n x.label.operands x.label.kind x.outer _ _ h.level.mine (labels_are x m code h).1 few))
