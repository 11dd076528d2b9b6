-- A call of an import.
use Rattle.std.proofs.Common.{◌≡◌, ℕ, suc, ◌-◌, ◌<◌, List, [], ◌∷◌, length, reverse, refl, sym, ap, subst, ◌∙◌, ⊎_elim, arith}
use Rattle.std.proofs.lemmas.Bool.Decides.{nat_tests}
use Rattle.std.specs.Prelude.{◌⊎◌, Bool, true, false, nat_lt, if◌then◌else◌, Option, Some, None, slice_get, option_map}
use Rattle.wasm_syntax.specs.declared.value.Value.{Value}
use Rattle.wasm_syntax.specs.declared.value.Value.TheVariants as values
use Rattle.wasm_syntax.specs.declared.parts.Import.{Import as Imported}
use Rattle.wasm_syntax.specs.declared.parts.FuncType.{FuncType}
use Rattle.wasm_syntax.specs.Numbers.{types}
use Rattle.wasm_syntax.specs.Tree.{Jump, CallIndirect, Nodes, jump, Goes}
use Rattle.wasm_syntax.specs.Module.{Program, Function, imported, function_at, imported_at, defined_at, same_types, option_then}
use Rattle.wasm_syntax.specs.Host.{Answer, replied, told, silent, misfit, answer}
use Rattle.wasm_syntax.specs.Machine as steps
use Rattle.wasm_syntax.specs.Machine.{Cut, short, parts, cut, host_call}
use Rattle.machine_code.specs.declared.code.Code.{Code}
use Rattle.machine_steps.specs.calls.FramesMeet.{Point, CallPlace, call_at, step_at, Reads}
use Rattle.machine_steps.proofs.Points.{top_is}
use Rattle.machine_steps.proofs.JumpLaws.{IsJump, jump_at, step_jumps}
use Rattle.machine_steps.specs.declared.machine.Machine.{Machine}
use Rattle.machine_steps.specs.declared.machine.ImportCall.{ImportCall}
use Rattle.machine_steps.specs.declared.machine.Outcome.{Outcome}
use Rattle.machine_steps.specs.declared.machine.Outcome.TheVariants.{Trap, Import}
use Rattle.machine_steps.specs.declared.indirect.Entry.{Entry}
use Rattle.machine_steps.specs.declared.indirect.Entry.TheVariants as entries
use Rattle.machine_basics.specs.calls.Traps.{trap_code}
use Rattle.machine_steps.specs.calls.Meets.{UnderIndex, CallsImport, MeetsAt, Here, config_at}
use Rattle.machine_steps.specs.inner.Entries.{EntryFits}
use Rattle.machine_steps.proofs.StepLaws.{stuck_meets, stands_here, traps_here}

-- an import, by its index
below : (p : Program) (g : ℕ) → g < length p.module_.imports → function_at p g ≡ imported_at p.module_ g
below p g lt = let test : nat_lt g (length p.module_.imports) ≡ true = grind (arith, nat_tests) in ap (λ b. if b then imported_at p.module_ g else defined_at p (g - length p.module_.imports)) test

module _ (x : Point) (m : Machine) (code : Code) (h : Here x m code) where
  module _ (call : ImportCall) (vs : List Value) (at : ℕ) (j : Jump) (rest : Nodes) (node : x.label.nodes ≡ jump at j rest) (under : UnderIndex call.indirect x.label.operands vs) (next_is : call.next ≡ suc m.stack.position) where
    calls : (i : Imported) (type : FuncType) → function_at x.engine.program call.function ≡ Some (imported i type) → (s : steps.Stepped) → s ≡ call_at x call.function vs at rest → CallsImport x.engine x.codes (config_at x) call s m
    calls i type is s e = record {
      import = i;
      type = type;
      is = is;
      frame = x.frame;
      label = x.label;
      outer = x.outer;
      callers = x.callers;
      frames_are = refl;
      at = at;
      jumps = j;
      rest = rest;
      node = node;
      operands = vs;
      under = under;
      next = next_is;
      step = e;
      stands = stands_here x m code h;
    }

    by_answer : (i : Imported) (type : FuncType) (below : List Value) (taken : List Value) → function_at x.engine.program call.function ≡ Some (imported i type) → (a : Answer) →
        steps.host x.engine a (host_call call.function i type (reverse taken)) below rest x.frame x.label x.outer x.callers x.world x.collected ≡ call_at x call.function vs at rest →
        MeetsAt x (Import call) (steps.host x.engine a (host_call call.function i type (reverse taken)) below rest x.frame x.label x.outer x.callers x.world x.collected) m
    by_answer i type below taken is (replied w v) e = calls i type is _ e
    by_answer i type below taken is (told k) e = calls i type is _ e
    by_answer i type below taken is silent e = calls i type is _ e
    by_answer i type below taken is (misfit reply) e = calls i type is _ e

    by_types : (i : Imported) (type : FuncType) (below : List Value) (taken : List Value) → function_at x.engine.program call.function ≡ Some (imported i type) → (b : Bool) →
        steps.applied_if x.engine b (imported i type) call.function (reverse taken) below at rest x.frame x.label x.outer x.callers x.world x.collected ≡ call_at x call.function vs at rest →
        MeetsAt x (Import call) (steps.applied_if x.engine b (imported i type) call.function (reverse taken) below at rest x.frame x.label x.outer x.callers x.world x.collected) m
    by_types i type below taken is false e = tt
    by_types i type below taken is true e = by_answer i type below taken is (answer x.engine.collects x.engine.program.module_ (host_call call.function i type (reverse taken)) x.world) e

    by_cut : (i : Imported) (type : FuncType) → function_at x.engine.program call.function ≡ Some (imported i type) → (c : Cut) →
        steps.calls_on x.engine (imported i type) call.function c at rest x.frame x.label x.outer x.callers x.world x.collected ≡ call_at x call.function vs at rest →
        MeetsAt x (Import call) (steps.calls_on x.engine (imported i type) call.function c at rest x.frame x.label x.outer x.callers x.world x.collected) m
    by_cut i type is short e = tt
    by_cut i type is (parts taken below) e = by_types i type below taken is (same_types (types (reverse taken)) type.params) e

    pub import_meets : call.function < length x.engine.program.module_.imports → MeetsAt x (Import call) (call_at x call.function vs at rest) m
    import_meets lt = by_import (slice_get x.engine.program.module_.imports call.function) refl
      where
        found : (o : Option Function) → function_at x.engine.program call.function ≡ o → MeetsAt x (Import call) (steps.calls x.engine o call.function vs at rest x.frame x.label x.outer x.callers x.world x.collected) m → MeetsAt x (Import call) (call_at x call.function vs at rest) m
        found o e t = subst (λ s. MeetsAt x (Import call) s m) (ap (λ f. steps.calls x.engine f call.function vs at rest x.frame x.label x.outer x.callers x.world x.collected) (sym e)) t

        by_type : (i : Imported) → slice_get x.engine.program.module_.imports call.function ≡ Some i → (o : Option FuncType) → slice_get x.engine.program.module_.types i.ftype ≡ o → MeetsAt x (Import call) (call_at x call.function vs at rest) m
        by_type i q None e = found None (below x.engine.program call.function lt ∙ ap (λ o. option_then o (λ i. option_map (imported i) (slice_get x.engine.program.module_.types i.ftype))) q ∙ ap (option_map (imported i)) e) tt
        by_type i q (Some type) e =
            let f : function_at x.engine.program call.function ≡ Some (imported i type) = below x.engine.program call.function lt ∙ ap (λ o. option_then o (λ i. option_map (imported i) (slice_get x.engine.program.module_.types i.ftype))) q ∙ ap (option_map (imported i)) e in
            found (Some (imported i type)) f
            (by_cut i type f (cut (length type.params) vs) (ap (λ f. steps.calls x.engine f call.function vs at rest x.frame x.label x.outer x.callers x.world x.collected) (sym f)))

        by_import : (o : Option Imported) → slice_get x.engine.program.module_.imports call.function ≡ o → MeetsAt x (Import call) (call_at x call.function vs at rest) m
        by_import None q = found None (below x.engine.program call.function lt ∙ ap (λ o. option_then o (λ i. option_map (imported i) (slice_get x.engine.program.module_.types i.ftype))) q) tt
        by_import (Some i) q = by_type i q (slice_get x.engine.program.module_.types i.ftype) refl

  -- ---- through the table

  -- what a call through an entry has to come to
  abbrev pub MeetsEntry : Entry → Outcome → Machine → Type 0
  MeetsEntry (entries.Function g) o m' = (place : CallPlace x) → MeetsAt x o (call_at x g place.operands place.at place.rest) m'
  MeetsEntry (entries.Trap kind) o m' = (o ≡ Trap kind) × (m' ≡ m)
  MeetsEntry entries.Stuck o m' = Unit {0}

  pub indirect_meets : (t n : ℕ) (popped : List Value) (e : Entry) (o : Outcome) (m' : Machine) → Reads m.stack code (Goes (CallIndirect t)) → m.stack.values ≡ values.I32 n ∷ popped → EntryFits x.engine x.world t n e →
      MeetsEntry e o m' → MeetsAt x o (step_at x) m'
  indirect_meets t n popped e o m' r v fits go =
      let i = jump_at x m.stack code h.inner (CallIndirect t) r in
      subst (λ s. MeetsAt x o s m') (sym (step_jumps x m.stack code h.inner (CallIndirect t) i))
      (⊎_elim
      (λ q. stuck_meets x o _ m' (ap (λ vs. steps.calls_indirect x.engine t vs i.at i.rest x.frame x.label x.outer x.callers x.world x.collected) q))
      (λ w. subst (λ s. MeetsAt x o s m') (sym (ap (λ vs. steps.calls_indirect x.engine t vs i.at i.rest x.frame x.label x.outer x.callers x.world x.collected) w.1)) (by_entry e i w.0 w.1 fits go))
      (top_is x m.stack code h.inner (values.I32 n) popped v))
    where
      by_entry : (e : Entry) (i : IsJump (CallIndirect t) x.label.nodes) (vs : List Value) → x.label.operands ≡ values.I32 n ∷ vs → EntryFits x.engine x.world t n e → MeetsEntry e o m' →
          MeetsAt x o (steps.calls_typed x.engine (slice_get x.engine.program.module_.types t) (slice_get x.world.table n) vs i.at i.rest x.frame x.label x.outer x.callers x.world x.collected) m'
      by_entry (entries.Function g) i vs q fits go = ⊎_elim
          (λ s. stuck_meets x o _ m' s)
          (λ s. subst (λ z. MeetsAt x o z m') (sym s) (go (record { index = n; operands = vs; operands_are = q; at = i.at; j = CallIndirect t; rest = i.rest; node = i.is })))
          (fits vs i.at i.rest x.frame x.label x.outer x.callers x.collected)
      by_entry (entries.Trap kind) i vs q fits go = ⊎_elim
          (λ s. stuck_meets x o _ m' s)
          (λ s. subst (λ z. MeetsAt x o z m') (sym s) (subst (λ p. MeetsAt x p (steps.trapped x.engine (trap_code kind) x.frame x.label x.outer x.callers x.world x.collected) m') (sym go.0)
          (subst (λ k. MeetsAt x (Trap kind) (steps.trapped x.engine (trap_code kind) x.frame x.label x.outer x.callers x.world x.collected) k) (sym go.1) (traps_here x m code h kind (trap_code kind) refl))))
          (fits vs i.at i.rest x.frame x.label x.outer x.callers x.collected)
      by_entry entries.Stuck i vs q fits go = ⊎_elim (λ s. stuck_meets x o _ m' s) (λ s. stuck_meets x o _ m' s) (fits vs i.at i.rest x.frame x.label x.outer x.callers x.collected)

  -- without an i32 on top it is stuck
  pub indirect_stuck : (t : ℕ) (o : Outcome) (m' : Machine) → Reads m.stack code (Goes (CallIndirect t)) → (x.label.operands ≡ []) ⊎ ((n : ℕ) × (vs : List Value) × (x.label.operands ≡ values.I64 n ∷ vs)) → MeetsAt x o (step_at x) m'
  indirect_stuck t o m' r e =
      let i = jump_at x m.stack code h.inner (CallIndirect t) r in
      stuck_meets x o (step_at x) m' (step_jumps x m.stack code h.inner (CallIndirect t) i ∙
      ⊎_elim (λ q. ap (λ vs. steps.calls_indirect x.engine t vs i.at i.rest x.frame x.label x.outer x.callers x.world x.collected) q)
      (λ w. ap (λ vs. steps.calls_indirect x.engine t vs i.at i.rest x.frame x.label x.outer x.callers x.world x.collected) w.2) e)

pub top_value : (vs : List Value) (v : Value) → Some v ≡ slice_get vs 0 → (rest : List Value) × (vs ≡ v ∷ rest)
top_value [] v e = absurd (cc)
top_value (w ∷ vs) v e = let q : v ≡ w = cc in (vs, ap (λ u. u ∷ vs) (sym q))

pub top_none : (vs : List Value) → None ≡ slice_get vs 0 → vs ≡ []
top_none [] e = refl
top_none (w ∷ vs) e = absurd (cc)
