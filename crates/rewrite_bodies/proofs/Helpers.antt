-- A call of a type's helper gives the kind with which a call of an entry traps.
use Rattle.std.proofs.Common.{◌≡◌, ◌≢◌, ℕ, suc, Bool, true, false, List, [], ◌∷◌, length, map, Option, Some, None, refl, sym, ap, subst, ◌∙◌, ◌⊎◌, inl, inr, arith, nat_lt, slice_get, unwrap_or, option_map}
use Rattle.wasm_syntax.specs.declared.value.ValType.TheVariants.{I32}
use Rattle.wasm_syntax.specs.declared.value.Value.{Value}
use Rattle.wasm_syntax.specs.declared.value.Value.TheVariants as values
use Rattle.wasm_syntax.specs.declared.parts.FuncType.{FuncType}
use Rattle.wasm_syntax.specs.declared.module.ModuleParts.{ModuleParts as Module}
use Rattle.wasm_syntax.specs.declared.host.CollectorCall.{CollectorCall}
use Rattle.wasm_syntax.specs.declared.host.HostCall.{HostCall}
use Rattle.wasm_syntax.specs.Tree.{BrTable, Nodes, stop, jump}
use Rattle.wasm_syntax.specs.Module.{Function, imported, defined, function_at, type_at, same_functype, option_then}
use Rattle.wasm_syntax.specs.Host.{World, Answer, replied, told, silent, misfit}
use Rattle.wasm_syntax.specs.Machine.{leaves, returns, Label, Frame, Config, label, frame, config, Engine, Stepped, next, stuck, Cut, short, parts, cut, pick, step, host, enters, applied_if, calls_on, calls, calls_if, calls_entry, calls_typed, calls_indirect, runs, in_frame, steps, function_type}
use Rattle.rewrite_bodies.specs.calls.Pieces.{call}
use Rattle.rewrite_bodies.specs.calls.Guards.{helper, says, type_label, entry_label, first_table}
use Rattle.rewrite_bodies.specs.calls.Steps.{To, Shell, st}
use Rattle.rewrite_bodies.proofs.Run.{one_step, seq, weaken}
use Rattle.rewrite_bodies.specs.calls.Verdicts.{kind_of_step, CallsEntry, IsHelper}

-- the label of a kind
abbrev pub LabelOf : ℕ → ℕ → Type 0
LabelOf lbl kind = (lbl ≡ 0) × (kind ≡ 0) ⊎ (lbl ≡ 1) × (kind ≡ 5) ⊎ (lbl ≡ 2) × (kind ≡ 6) ⊎ (lbl ≡ 3) × (kind ≡ 7)

-- ---- the run of a helper

module _ (M : Engine) (m : Module) (t index : ℕ) (k : IsHelper M m t index) where
  module _ (X : Shell) (tl s : List Value) (kk : Nodes) (g : World) (co : List CollectorCall) (n : ℕ) where
    abbrev inner : Nodes
    inner = jump 0 (BrTable (map (entry_label m t) (first_table m)) 1) stop

    abbrev in_helper : List Label → Config
    in_helper Ls = config (frame index (Some I32) 0 (values.I32 n ∷ []) Ls ∷ frame X.idx X.result 0 tl (label s kk 0 X.kind ∷ X.below) ∷ X.frames) g co

    abbrev at_start : Config
    at_start = in_helper (label [] (helper m t) 0 (returns (Some I32)) ∷ [])

    abbrev at_table : Config
    at_table = in_helper (label (values.I32 n ∷ []) inner 0 (leaves None) ∷ label [] (says 0) 0 (leaves None) ∷ label [] (says 5) 0 (leaves None) ∷ label [] (says 6) 0 (leaves None) ∷ label [] (says 7) 0 (returns (Some I32)) ∷ [])

    starts : nat_lt (suc (length X.frames)) M.depth ≡ true → To M 1 1 (st X tl (values.I32 n ∷ s) (call index kk) g co) at_start
    starts d = one_step M _ _ (rw (k.1, d, k.2) refl)

    opened : To M 5 5 at_start at_table
    opened = seq M (one_step M _ _ refl) (seq M (one_step M _ _ refl) (seq M (one_step M _ _ refl) (seq M (one_step M _ _ refl) (one_step M _ _ refl))))

    said : (lbl kind : ℕ) → pick (map (entry_label m t) (first_table m)) 1 n ≡ lbl → LabelOf lbl kind → To M 3 3 at_table (st X tl (values.I32 kind ∷ s) kk g co)
    said lbl kind e (inl x) = rw x.1 (seq M (one_step M at_table (next (in_helper (label [] (says 0) 0 (leaves None) ∷ label [] (says 5) 0 (leaves None) ∷ label [] (says 6) 0 (leaves None) ∷ label [] (says 7) 0 (returns (Some I32)) ∷ []))) (rw (e ∙ x.0) refl)) (seq M (one_step M _ _ refl) (one_step M _ _ refl)))
    said lbl kind e (inr (inl x)) = rw x.1 (seq M (one_step M at_table (next (in_helper (label [] (says 5) 0 (leaves None) ∷ label [] (says 6) 0 (leaves None) ∷ label [] (says 7) 0 (returns (Some I32)) ∷ []))) (rw (e ∙ x.0) refl)) (seq M (one_step M _ _ refl) (one_step M _ _ refl)))
    said lbl kind e (inr (inr (inl x))) = rw x.1 (seq M (one_step M at_table (next (in_helper (label [] (says 6) 0 (leaves None) ∷ label [] (says 7) 0 (returns (Some I32)) ∷ []))) (rw (e ∙ x.0) refl)) (seq M (one_step M _ _ refl) (one_step M _ _ refl)))
    said lbl kind e (inr (inr (inr x))) = rw x.1 (seq M (one_step M at_table (next (in_helper (label [] (says 7) 0 (returns (Some I32)) ∷ []))) (rw (e ∙ x.0) refl)) (seq M (one_step M _ _ refl) (one_step M _ _ refl)))

    pub helper_in : (lbl kind : ℕ) → nat_lt (suc (length X.frames)) M.depth ≡ true → pick (map (entry_label m t) (first_table m)) 1 n ≡ lbl → LabelOf lbl kind → To M 1 12 (st X tl (values.I32 n ∷ s) (call index kk) g co) (st X tl (values.I32 kind ∷ s) kk g co)
    helper_in lbl kind d e lk = weaken M (seq M (starts d) (seq M opened (said lbl kind e lk))) (omega arith) (omega arith)

-- ---- the call in the original

module _ (N : Engine) where
  -- a call of a function traps with kind 8 alone
  host_kind : (a : Answer) (call : HostCall) (below : List Value) (rest : Nodes) (f : Frame) (l : Label) (ls : List Label) (fs : List Frame) (w : World) (co : List CollectorCall) → kind_of_step (host N a call below rest f l ls fs w co) ≡ 0
  host_kind (replied w' v) call below rest f l ls fs w co = refl
  host_kind (told k) call below rest f l ls fs w co = refl
  host_kind silent call below rest f l ls fs w co = refl
  host_kind (misfit reply) call below rest f l ls fs w co = refl

  enters_kind : (b : Bool) (new : Frame) (below : List Value) (at : ℕ) (rest : Nodes) (f : Frame) (l : Label) (ls : List Label) (fs : List Frame) (w : World) (co : List CollectorCall) → kind_of_step (enters N b new below at rest f l ls fs w co) ≡ 0
  enters_kind true new below at rest f l ls fs w co = refl
  enters_kind false new below at rest f l ls fs w co = refl

  applied_kind : (b : Bool) (fn : Function) (g : ℕ) (args below : List Value) (at : ℕ) (rest : Nodes) (f : Frame) (l : Label) (ls : List Label) (fs : List Frame) (w : World) (co : List CollectorCall) → kind_of_step (applied_if N b fn g args below at rest f l ls fs w co) ≡ 0
  applied_kind false fn g args below at rest f l ls fs w co = refl
  applied_kind true (imported import type) g args below at rest f l ls fs w co = host_kind _ _ below rest f l ls fs w co
  applied_kind true (defined body tree type) g args below at rest f l ls fs w co = enters_kind _ _ below at rest f l ls fs w co

  on_kind : (fn : Function) (g : ℕ) (u : Cut) (at : ℕ) (rest : Nodes) (f : Frame) (l : Label) (ls : List Label) (fs : List Frame) (w : World) (co : List CollectorCall) → kind_of_step (calls_on N fn g u at rest f l ls fs w co) ≡ 0
  on_kind fn g short at rest f l ls fs w co = refl
  on_kind fn g (parts vs below) at rest f l ls fs w co = applied_kind _ fn g _ below at rest f l ls fs w co

  calls_kind : (o : Option Function) (g : ℕ) (vs : List Value) (at : ℕ) (rest : Nodes) (f : Frame) (l : Label) (ls : List Label) (fs : List Frame) (w : World) (co : List CollectorCall) → kind_of_step (calls N o g vs at rest f l ls fs w co) ≡ 0
  calls_kind None g vs at rest f l ls fs w co = refl
  calls_kind (Some fn) g vs at rest f l ls fs w co = on_kind fn g (cut (length (function_type fn).params) vs) at rest f l ls fs w co

  module _ (t n : ℕ) (vs : List Value) (at : ℕ) (rest : Nodes) (f : Frame) (l : Label) (ls : List Label) (fs : List Frame) (w : World) (co : List CollectorCall) where
    abbrev of_entry : Option (Option ℕ) → FuncType → Stepped
    of_entry q type = calls_entry N q type vs at rest f l ls fs w co

    by_test : (g : ℕ) (b : Bool) → LabelOf (type_label b) (kind_of_step (calls_if N (Some b) g vs at rest f l ls fs w co))
    by_test g true = inl (refl, calls_kind (function_at N.program g) g vs at rest f l ls fs w co)
    by_test g false = inr (inr (inr (refl, refl)))

    by_type : (type : FuncType) (g : ℕ) (u : Option FuncType) → calls_if N (option_map (λ x. same_functype x type) u) g vs at rest f l ls fs w co ≢ stuck → LabelOf (unwrap_or (option_map (λ x. type_label (same_functype x type)) u) 0) (kind_of_step (calls_if N (option_map (λ x. same_functype x type) u) g vs at rest f l ls fs w co))
    by_type type g None nw = absurd (nw refl)
    by_type type g (Some u) nw = by_test g (same_functype u type)

    by_entry : (m : Module) (type : FuncType) (q : Option (Option ℕ)) → N.program.module_ ≡ m → slice_get m.types t ≡ Some type → of_entry q type ≢ stuck → LabelOf (unwrap_or (option_map (entry_label m t) q) 1) (kind_of_step (of_entry q type))
    by_entry m type None same e nw = inr (inl (refl, refl))
    by_entry m type (Some None) same e nw = inr (inr (inl (refl, refl)))
    by_entry m type (Some (Some g)) same e nw =
        let there : entry_label m t (Some g) ≡ unwrap_or (option_map (λ x. type_label (same_functype x type)) (type_at N.program.module_ g)) 0 = ap (λ (o : Option FuncType). unwrap_or (option_then o (λ y. option_map (λ x. type_label (same_functype x y)) (type_at m g))) 0) e ∙ ap (λ (x : Module). unwrap_or (option_map (λ x. type_label (same_functype x type)) (type_at x g)) 0) (sym same) in
        subst (λ (z : ℕ). LabelOf z (kind_of_step (of_entry (Some (Some g)) type))) (sym there) (by_type type g (type_at N.program.module_ g) nw)

    abbrev of_call : Option FuncType → Stepped
    of_call o = calls_typed N o (slice_get w.table n) vs at rest f l ls fs w co

    by_call : (m : Module) (o : Option FuncType) → N.program.module_ ≡ m → slice_get m.types t ≡ o → of_call o ≢ stuck → LabelOf (unwrap_or (option_map (entry_label m t) (slice_get w.table n)) 1) (kind_of_step (of_call o))
    by_call m None same e nw = absurd (nw refl)
    by_call m (Some type) same e nw = by_entry m type (slice_get w.table n) same e nw

  -- the step of a call of an entry
  step_is : (t n : ℕ) (c : Config) (x : CallsEntry t n c) → step N c ≡ of_call t n x.operands x.at x.rest x.innermost x.here x.outer x.callers c.world c.collected (slice_get N.program.module_.types t)
  step_is t n c x =
      ap (λ (fs : List Frame). steps N fs c.world c.collected) x.frames_are
      ∙ ap (λ (ls : List Label). in_frame N ls x.innermost x.callers c.world c.collected) x.labels_are
      ∙ ap (λ (ns : Nodes). runs N ns x.innermost x.here x.outer x.callers c.world c.collected) x.nodes_are
      ∙ ap (λ (vs : List Value). calls_indirect N t vs x.at x.rest x.innermost x.here x.outer x.callers c.world c.collected) x.on_top

  pub told_by_helper : (m : Module) (t n : ℕ) (c : Config) → N.program.module_ ≡ m → c.world.table ≡ first_table m → CallsEntry t n c → step N c ≢ stuck → LabelOf (unwrap_or (option_map (entry_label m t) (slice_get (first_table m) n)) 1) (kind_of_step (step N c))
  told_by_helper m t n c same table x nw =
      let is = step_is t n c x in
      let told = by_call t n x.operands x.at x.rest x.innermost x.here x.outer x.callers c.world c.collected m (slice_get N.program.module_.types t) same (ap (λ (y : Module). slice_get y.types t) (sym same)) (λ e. nw (is ∙ e)) in
      subst (λ (s : Stepped). LabelOf (unwrap_or (option_map (entry_label m t) (slice_get (first_table m) n)) 1) (kind_of_step s)) (sym is)
      (subst (λ (ts : List (Option ℕ)). LabelOf (unwrap_or (option_map (entry_label m t) (slice_get ts n)) 1) (kind_of_step (of_call t n x.operands x.at x.rest x.innermost x.here x.outer x.callers c.world c.collected (slice_get N.program.module_.types t)))) table told)
