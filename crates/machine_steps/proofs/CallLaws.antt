-- A function is called.
use Rattle.std.proofs.Common.{◌≡◌, ℕ, zero, suc, ◌+◌, ◌-◌, ◌<◌, ◌≤◌, List, [], ◌∷◌, ◌++◌, length, reverse, drop, refl, sym, ap, subst, ◌∙◌, inl, inr, ⊎_elim, append_assoc, length-append, arith}
use Rattle.std.proofs.lemmas.List.{length-reverse, reverse-append, reverse-reverse}
use Rattle.std.proofs.lemmas.Bool.Decides.{nat_tests}
use Rattle.std.specs.Prelude.{◌⊎◌, Bool, true, false, nat_lt, if◌then◌else◌, Option, Some, None, slice_get, option_map}
use Rattle.wasm_syntax.specs.declared.value.Value.{Value}
use Rattle.wasm_syntax.specs.declared.parts.FuncType.{FuncType}
use Rattle.wasm_syntax.specs.declared.parts.Body.{Body}
use Rattle.wasm_syntax.specs.declared.parts.Import.{Import}
use Rattle.wasm_syntax.specs.Numbers.{types}
use Rattle.wasm_syntax.specs.Tree.{Jump, Call, Nodes, Tree, Goes, End}
use Rattle.wasm_syntax.specs.Module.{Program, Function, imported, defined, function_at, defined_at, imported_at, declared_locals, same_types, option_then}
use Rattle.wasm_syntax.specs.Machine as steps
use Rattle.wasm_syntax.specs.Machine.{returns, label, Frame, frame, joined, Cut, short, parts, cut, one_more, zeros, result_of, entered}
use Rattle.machine_code.specs.declared.code.Code.{Code}
use Rattle.machine_code.specs.calls.Flat.{Is, size}
use Rattle.machine_code.specs.calls.Code.{items, FitsCode, Prepares}
use Rattle.machine_steps.specs.declared.layout.Control.{Control}
use Rattle.machine_steps.specs.declared.layout.CallFrame.{CallFrame}
use Rattle.machine_steps.specs.declared.layout.CallStack.{CallStack}
use Rattle.machine_steps.specs.declared.layout.Stepped.{Stepped}
use Rattle.machine_steps.specs.declared.layout.Stepped.TheVariants.{Next, Trap}
use Rattle.machine_basics.specs.declared.answer.TrapKind.TheVariants.{StackExhausted}
use Rattle.machine_steps.specs.calls.Layout.{Level, Waiting}
use Rattle.machine_steps.specs.calls.FramesMeet.{Point, with_operands, step_at, call_at, Meets, Inner, Reads, Site, CallPlace}
use Rattle.machine_steps.specs.inner.Moves.{Becomes}
use Rattle.machine_steps.proofs.Points.{stuck_meets, becomes, LabelsAt, labels_are, moves}
use Rattle.machine_steps.proofs.JumpLaws.{IsJump, jump_at, step_jumps, behind, popped_inner}
use Rattle.pm_text.proofs.Lists.{some_is}

-- the operands that are cut off
pub cut_parts : (n : ℕ) (vs a b : List Value) → cut n vs ≡ parts a b → (vs ≡ a ++ b) × (length a ≡ n)
cut_parts zero vs a b e = let q : parts [] vs ≡ parts a b = e in let q0 : [] ≡ a = cc in let q1 : vs ≡ b = cc in (q1 ∙ ap (λ l. l ++ b) q0, ap length (sym q0))
cut_parts (suc n) [] a b e = absurd (cc)
cut_parts (suc n) (v ∷ vs) a b e = by_cut (cut_parts n vs) (cut n vs) refl e
  where
    by_cut : ((a b : List Value) → cut n vs ≡ parts a b → (vs ≡ a ++ b) × (length a ≡ n)) → (c : Cut) → cut n vs ≡ c → one_more v c ≡ parts a b → (v ∷ vs ≡ a ++ b) × (length a ≡ suc n)
    by_cut ih short q e = absurd (cc)
    by_cut ih (parts t u) q e =
        let r = ih t u q in
        let q0 : v ∷ t ≡ a = cc in
        let q1 : u ≡ b = cc in
        (ap (λ l. v ∷ l) r.0 ∙ ap (λ l. l ++ u) q0 ∙ ap (λ l. a ++ l) q1, ap length (sym q0) ∙ ap suc r.1)

-- a defined function, by its index among the defined ones
pub function_is : (p : Program) (i : ℕ) → function_at p (length p.module_.imports + i) ≡ defined_at p i
function_is p i =
    let n = length p.module_.imports in
    let test : nat_lt (n + i) n ≡ false = grind (arith, nat_tests) in
    let minus : (n + i) - n ≡ i = omega arith in
    ap (λ b. if b then imported_at p.module_ (n + i) else defined_at p ((n + i) - n)) test ∙ ap (defined_at p) minus

-- as many entries as frames
pub as_many : (p : Program) (codes : List Code) (fs : List Frame) (es : List CallFrame) (pc : ℕ) (ks : List Control) (vs : List Value) → Waiting p codes fs es pc ks vs → length es ≡ length fs
as_many p codes [] [] pc ks vs w = refl
as_many p codes [] (e ∷ es) pc ks vs w = absurd w
as_many p codes (f ∷ fs) [] pc ks vs w = absurd w
as_many p codes (f ∷ fs) (e ∷ es) pc ks vs w = ap suc (as_many p codes fs es e.returns_to w.1 w.2 w.5)

regroup : {A : Type 0} (taken below outer under : List A) → ((taken ++ below) ++ outer) ++ under ≡ taken ++ ((below ++ outer) ++ under)
regroup taken below outer under = simp append_assoc refl

-- a function that is defined is no import
pub no_import : (p : Program) (i : ℕ) (import : Import) (type : FuncType) → defined_at p i ≡ Some (imported import type) → ⊥
no_import p i import type e = by_index (slice_get p.module_.functions i) e
  where
    by_tree : (body : Body) (u : FuncType) (o : Option Tree) → option_map (λ tree. defined body tree u) o ≡ Some (imported import type) → ⊥
    by_tree body u None e = cc
    by_tree body u (Some tree) e = cc

    by_body : (u : FuncType) (o : Option Body) → option_then o (λ body. option_map (λ tree. defined body tree u) (slice_get p.trees i)) ≡ Some (imported import type) → ⊥
    by_body u None e = cc
    by_body u (Some body) e = by_tree body u (slice_get p.trees i) e

    by_type : (o : Option FuncType) → option_then o (λ u. option_then (slice_get p.module_.bodies i) (λ body. option_map (λ tree. defined body tree u) (slice_get p.trees i))) ≡ Some (imported import type) → ⊥
    by_type None e = cc
    by_type (Some u) e = by_body u (slice_get p.module_.bodies i) e

    by_index : (o : Option ℕ) → option_then o (λ t. option_then (slice_get p.module_.types t) (λ u. option_then (slice_get p.module_.bodies i) (λ body. option_map (λ tree. defined body tree u) (slice_get p.trees i)))) ≡ Some (imported import type) → ⊥
    by_index None e = cc
    by_index (Some t) e = by_type (slice_get p.module_.types t) e

module _ (x : Point) (vs : List Value) (at : ℕ) (rest : Nodes) (function : ℕ) (callee : Code) (prepares : Prepares x.engine.program x.codes) (callee_is : slice_get x.codes function ≡ Some callee) where
  abbrev called : steps.Stepped
  called = call_at x (length x.engine.program.module_.imports + function) vs at rest

  abbrev pub caller : List Value → Frame
  caller below = frame x.frame.function x.frame.result at x.frame.locals (label below rest x.label.end x.label.kind ∷ x.outer)

  -- what a step that calls this code comes to, where it is not stuck
  pub record Calls : Type 0 where
    pub tree : Tree
    pub type : FuncType
    pub is : defined_at x.engine.program function ≡ Some (defined callee.body.now tree type)
    pub fits : FitsCode tree type callee
    pub taken : List Value
    pub below : List Value
    pub operands : vs ≡ taken ++ below
    pub count : length taken ≡ callee.params
    pub step : called ≡ steps.enters x.engine (nat_lt (suc (length x.callers)) x.engine.depth) (entered (length x.engine.program.module_.imports + function) callee.body.now tree type (reverse taken)) below at rest x.frame x.label x.outer x.callers x.world x.collected

  pub calls_or : (called ≡ steps.stuck) ⊎ Calls
  calls_or = by_function (defined_at x.engine.program function) refl
    where
      number : ℕ
      number = length x.engine.program.module_.imports + function

      at_function : (o : Option Function) → defined_at x.engine.program function ≡ o → called ≡ steps.calls x.engine o (length x.engine.program.module_.imports + function) vs at rest x.frame x.label x.outer x.callers x.world x.collected
      at_function o e = ap (λ f. steps.calls x.engine f (length x.engine.program.module_.imports + function) vs at rest x.frame x.label x.outer x.callers x.world x.collected) (function_is x.engine.program function ∙ e)

      by_types : (tree : Tree) (type : FuncType) → defined_at x.engine.program function ≡ Some (defined callee.body.now tree type) → FitsCode tree type callee → (taken below : List Value) → cut (length type.params) vs ≡ parts taken below →
          (b : Bool) → same_types (types (reverse taken)) type.params ≡ b → (called ≡ steps.stuck) ⊎ Calls
      by_types tree type e fits taken below c false t = inl (at_function (Some (defined callee.body.now tree type)) e
          ∙ ap (λ c. steps.calls_on x.engine (defined callee.body.now tree type) (length x.engine.program.module_.imports + function) c at rest x.frame x.label x.outer x.callers x.world x.collected) c
          ∙ ap (λ b. steps.applied_if x.engine b (defined callee.body.now tree type) (length x.engine.program.module_.imports + function) (reverse taken) below at rest x.frame x.label x.outer x.callers x.world x.collected) t)
      by_types tree type e fits taken below c true t =
          let q = cut_parts (length type.params) vs taken below c in
          inr (record {
            tree = tree;
            type = type;
            is = e;
            fits = fits;
            taken = taken;
            below = below;
            operands = q.0;
            count = q.1 ∙ sym fits.params;
            step = at_function (Some (defined callee.body.now tree type)) e
                ∙ ap (λ c. steps.calls_on x.engine (defined callee.body.now tree type) (length x.engine.program.module_.imports + function) c at rest x.frame x.label x.outer x.callers x.world x.collected) c
                ∙ ap (λ b. steps.applied_if x.engine b (defined callee.body.now tree type) (length x.engine.program.module_.imports + function) (reverse taken) below at rest x.frame x.label x.outer x.callers x.world x.collected) t;
          })

      by_cut : (tree : Tree) (type : FuncType) → defined_at x.engine.program function ≡ Some (defined callee.body.now tree type) → FitsCode tree type callee → (c : Cut) → cut (length type.params) vs ≡ c → (called ≡ steps.stuck) ⊎ Calls
      by_cut tree type e fits short c = inl (at_function (Some (defined callee.body.now tree type)) e
          ∙ ap (λ c. steps.calls_on x.engine (defined callee.body.now tree type) (length x.engine.program.module_.imports + function) c at rest x.frame x.label x.outer x.callers x.world x.collected) c)
      by_cut tree type e fits (parts taken below) c = by_types tree type e fits taken below c (same_types (types (reverse taken)) type.params) refl

      by_function : (o : Option Function) → defined_at x.engine.program function ≡ o → (called ≡ steps.stuck) ⊎ Calls
      by_function None e = inl (at_function None e)
      by_function (Some (imported i type)) e = absurd (no_import x.engine.program function i type e)
      by_function (Some (defined body tree type)) e =
          let k = prepares.at function body tree type e in
          let same : k.0 ≡ callee = some_is (sym k.1 ∙ callee_is) in
          let body_is : body ≡ callee.body.now = sym k.2 ∙ ap (λ (c : Code). c.body.now) same in
          by_cut tree type (e ∙ ap (λ b. Some (defined b tree type)) body_is) (subst (λ (c : Code). FitsCode tree type c) same k.3) (cut (length type.params) vs) refl

  -- ---- with room for a frame, the function is entered

  module _ (m : CallStack) (code : Code) (site : Site x m code vs at rest) (pos : ℕ) (pos_is : pos ≡ suc m.position) where
    abbrev pub zeros_of : List Value
    zeros_of = reverse (zeros (declared_locals callee.body.now.groups))

    -- the stack of calls in the called function
    abbrev pub inside : CallStack
    inside = record {
      values = zeros_of ++ m.values;
      controls = m.controls;
      frames = record { function = function; base = length m.values - callee.params; floor = length (zeros_of ++ m.values); controls = length m.controls; returns_to = pos } ∷ m.frames;
      position = 0;
    }

    call_item : Is (items code) code.sides m.position at (Goes site.j)
    call_item = (subst (λ ns. LabelsAt (with_operands x vs) m code site.inner (label vs ns x.label.end x.label.kind ∷ x.outer) m.position site.inner.level.mine) site.node (labels_are (with_operands x vs) m code site.inner)).0.0

    -- the caller, which waits without the arguments
    caller_level : (below : List Value) → Level x.engine.program x.codes x.frame.function x.frame.result x.frame.locals (label below rest x.label.end x.label.kind ∷ x.outer) site.inner.e code pos m.controls ((below ++ joined x.outer) ++ (reverse x.frame.locals ++ site.inner.vs_below)) site.inner.ks_below site.inner.vs_below
    caller_level below =
        let lv = site.inner.level in
        record {
          tree = lv.tree;
          type = lv.type;
          is_defined = lv.is_defined;
          index = lv.index;
          code_is = lv.code_is;
          fits = lv.fits;
          result_is = lv.result_is;
          base = lv.base;
          controls = lv.controls;
          floor = lv.floor;
          mine = lv.mine;
          ks_are = lv.ks_are;
          vs_are = refl;
          labels_are = subst (λ q. LabelsAt (with_operands x vs) m code site.inner (label below rest x.label.end x.label.kind ∷ x.outer) q lv.mine) (sym pos_is)
              (behind (with_operands x vs) m code site.inner site.j (record { at = at; rest = rest; is = site.node }) below);
        }

    pub enters_frame : Calls → nat_lt (suc (length x.callers)) x.engine.depth ≡ true → Meets x Next called inside
    enters_frame c room =
        let below : List Value = (c.below ++ joined x.outer) ++ (reverse x.frame.locals ++ site.inner.vs_below) in
        let vs_is : m.values ≡ c.taken ++ below = site.inner.level.vs_are ∙ ap (λ z. (z ++ joined x.outer) ++ (reverse x.frame.locals ++ site.inner.vs_below)) c.operands ∙ regroup c.taken c.below (joined x.outer) (reverse x.frame.locals ++ site.inner.vs_below) in
        let base : length m.values - callee.params ≡ length below = omega (arith, ap length vs_is, length-append c.taken below, c.count) in
        let locals : List Value = reverse c.taken ++ zeros (declared_locals callee.body.now.groups) in
        let values : zeros_of ++ m.values ≡ reverse locals ++ below = ap (λ z. zeros_of ++ z) vs_is ∙ sym (append_assoc zeros_of c.taken below) ∙ ap (λ z. z ++ below) (sym (reverse-append (reverse c.taken) (zeros (declared_locals callee.body.now.groups)) ∙ ap (λ z. zeros_of ++ z) (reverse-reverse c.taken))) in
        let zero_plus : 0 + size c.tree.nodes ≡ size c.tree.nodes = omega arith in
        let level : Level x.engine.program x.codes (length x.engine.program.module_.imports + function) (result_of c.type) locals (label [] c.tree.nodes c.tree.end (returns (result_of c.type)) ∷ []) (record { function = function; base = length m.values - callee.params; floor = length (zeros_of ++ m.values); controls = length m.controls; returns_to = pos }) callee 0 m.controls (zeros_of ++ m.values) m.controls below =
        record {
          tree = c.tree;
          type = c.type;
          is_defined = c.is;
          index = refl;
          code_is = callee_is;
          fits = c.fits;
          result_is = refl;
          base = base;
          controls = refl;
          floor = ap length values ∙ length-append (reverse locals) below ∙ ap (λ n. n + length below) (length-reverse locals);
          mine = [];
          ks_are = refl;
          vs_are = values;
          labels_are = (c.fits.stands.nodes, (subst (λ n. Is (items callee) callee.sides n c.tree.end End) (sym zero_plus) c.fits.stands.end, refl, refl, refl));
        } in
        let waiting : Waiting x.engine.program x.codes (caller c.below ∷ x.callers) m.frames pos m.controls below =
        subst (λ es. Waiting x.engine.program x.codes (caller c.below ∷ x.callers) es pos m.controls below) (sym site.inner.es_are)
        (code, site.inner.ks_below, site.inner.vs_below, caller_level c.below, (m.position, Goes site.j, pos_is, call_item), site.inner.waiting) in
        subst (λ s. Meets x Next s inside) (sym (c.step ∙ ap (λ b. steps.enters x.engine b (entered (length x.engine.program.module_.imports + function) callee.body.now c.tree c.type (reverse c.taken)) c.below at rest x.frame x.label x.outer x.callers x.world x.collected) room))
        (record { frames = (callee, m.controls, below, level, waiting); world = refl; collected = refl })

    pub frames_count : length m.frames ≡ suc (length x.callers)
    frames_count = ap length site.inner.es_are ∙ ap suc (as_many x.engine.program x.codes x.callers site.inner.es site.inner.e.returns_to site.inner.ks_below site.inner.vs_below site.inner.waiting)

    pub call_meets : (a : Stepped) (m' : CallStack) → length m.frames < x.engine.depth → Becomes a m' inside → Meets x a called m'
    call_meets a m' lt b = ⊎_elim
        (λ e. stuck_meets x a called m' e)
        (λ c.
        let n = frames_count in
        let lt' : suc (length x.callers) < x.engine.depth = omega arith in
        let room : nat_lt (suc (length x.callers)) x.engine.depth ≡ true = grind (arith, nat_tests) in
        becomes x a called m' inside b (enters_frame c room))
        calls_or

  -- without room for a frame, it traps with the operands as they are
  pub call_full : (m : CallStack) (code : Code) → Inner x m code → x.engine.depth ≤ length m.frames → Meets x (Trap StackExhausted) called m
  call_full m code h le = ⊎_elim
      (λ e. stuck_meets x (Trap StackExhausted) called m e)
      (λ c.
      let n : length m.frames ≡ suc (length x.callers) = ap length h.es_are ∙ ap suc (as_many x.engine.program x.codes x.callers h.es h.e.returns_to h.ks_below h.vs_below h.waiting) in
      let ge : x.engine.depth ≤ suc (length x.callers) = omega arith in
      let room : nat_lt (suc (length x.callers)) x.engine.depth ≡ false = grind (arith, nat_tests) in
      subst (λ s. Meets x (Trap StackExhausted) s m) (sym (c.step ∙ ap (λ b. steps.enters x.engine b (entered (length x.engine.program.module_.imports + function) callee.body.now c.tree c.type (reverse c.taken)) c.below at rest x.frame x.label x.outer x.callers x.world x.collected) room))
      (refl, record { frames = moves x m code h (x.label ∷ x.outer) h.level.mine m (labels_are x m code h) refl h.level.ks_are h.level.vs_are; world = refl; collected = refl }))
      calls_or

-- without code for it, a function can't be called
pub no_code : (x : Point) (vs : List Value) (at : ℕ) (rest : Nodes) (function : ℕ) → Prepares x.engine.program x.codes → slice_get x.codes function ≡ None → call_at x (length x.engine.program.module_.imports + function) vs at rest ≡ steps.stuck
no_code x vs at rest function prepares e = by_function (defined_at x.engine.program function) refl
  where
    by_function : (o : Option Function) → defined_at x.engine.program function ≡ o → call_at x (length x.engine.program.module_.imports + function) vs at rest ≡ steps.stuck
    by_function None q = ap (λ f. steps.calls x.engine f (length x.engine.program.module_.imports + function) vs at rest x.frame x.label x.outer x.callers x.world x.collected) (function_is x.engine.program function ∙ q)
    by_function (Some (imported i type)) q = absurd (no_import x.engine.program function i type q)
    by_function (Some (defined body tree type)) q = let k = prepares.at function body tree type q in let no : None ≡ Some k.0 = sym e ∙ k.1 in absurd (cc)

-- ---- a direct call

module _ (x : Point) (m : CallStack) (code : Code) (h : Inner x m code) where
  pub site_of : (j : Jump) (i : IsJump j x.label.nodes) → Site x m code x.label.operands i.at i.rest
  site_of j i = record { inner = h; j = j; node = i.is }

  pub step_calls : (g : ℕ) (r : Reads m code (Goes (Call g))) → step_at x ≡ call_at x g x.label.operands (jump_at x m code h (Call g) r).at (jump_at x m code h (Call g) r).rest
  step_calls g r = step_jumps x m code h (Call g) (jump_at x m code h (Call g) r)

-- ---- a call under the index of a table's entry

module _ (x : Point) (m : CallStack) (code : Code) (h : Inner x m code) (place : CallPlace x) where
  -- without the index
  pub popped_site : Site x (record m { values = drop 1 m.values }) code place.operands place.at place.rest
  popped_site = record {
    inner = popped_inner x m code h place.operands (drop 1 m.values) (ap (drop 1) (h.level.vs_are ∙ ap (λ vs. (vs ++ joined x.outer) ++ (reverse x.frame.locals ++ h.vs_below)) place.operands_are));
    j = place.j;
    node = place.node;
  }
