-- What each control instruction that holds no others comes to, from what was written of it.
use Rattle.wasm_syntax.specs.declared.module.ModuleParts.{ModuleParts as Module}
use Rattle.rewrite_bodies.specs.Numbering.{helper_base, place_in}
use Rattle.rewrite_modules.specs.Weight.{types_used}
use Rattle.unwind_rewrite.specs.calls.Numbers.{HasHelpers}
use Rattle.std.proofs.Common.{◌≡◌, ℕ, suc, ◌+◌, ◌≤◌, List, [], ◌∷◌, length, slice_get, Bool, Option, Some, None, refl, sym, ap, subst, ◌∙◌, arith}
use Rattle.wasm_syntax.specs.declared.value.ValType.{ValType}
use Rattle.wasm_syntax.specs.declared.parts.FuncType.{FuncType}
use Rattle.wasm_syntax.specs.Tree.{Jump, BrIf, Unreachable, Call, CallIndirect, Nodes, stop, jump, Goes}
use Rattle.wasm_syntax.specs.Machine.{result_of}
use Rattle.wasm_syntax.specs.Module.{type_at}
use Rattle.rewrite_bodies.specs.calls.Slots.{Place, Ctx, less, grown}
use Rattle.rewrite_bodies.specs.calls.Rewrite.{control, call_code, indirect_code, helper_of}
use Rattle.rewrite_code.specs.calls.Writing.{Written, Emits, EmitsLast}
use Rattle.operand_spill.specs.calls.Walking.{Walking, with_places}
use Rattle.operand_spill.specs.calls.Standing.{depth_in, Rewrites}
use Rattle.operand_spill.proofs.Steps.{step_branch_if, step_call, step_call_indirect, step_transfer}
use Rattle.operand_spill.specs.declared.flow.Flow.TheVariants.{Next, Ends}
use Rattle.unwind_rewrite.specs.calls.Points.{Advances}

-- a transfer to somewhere else
pub transfers : (C : Ctx) (p : Bool) (o : ℕ) (j : Jump) (w : Walking) {now next : Written} → ((p : Bool) (go : List Place → Nodes) → EmitsLast (control C (depth_in w) w.places o j p go) now next) → Advances C p o (Goes j) w now w next Ends
transfers C p o j w {now} {next} e = λ code start whole pc b q r to end le. step_transfer C code start whole pc to w now next o j b end le e r

pub condition_taken : (C : Ctx) (p : Bool) (o l : ℕ) (w w' : Walking) {now next : Written} → w' ≡ with_places w (less 1 w.places) → Emits (λ k. jump 0 (BrIf l) k) now next → Advances C p o (Goes (BrIf l)) w now w' next Next
condition_taken C p o l w w' {now} {next} becomes e = λ code start whole pc b q r.
    subst (λ v. Rewrites C code start whole (suc pc) v next) (sym becomes) (step_branch_if C code start whole pc w now next o l p b q e r)

pub trapped : (C : Ctx) (p : Bool) (o : ℕ) (w : Walking) (es : List Place) (n : ℕ) {now next : Written} → es ≡ w.places → n ≡ suc (length w.opens) →
    ((p : Bool) (go : List Place → Nodes) → EmitsLast (control C n es o Unreachable p go) now next) → Advances C p o (Goes Unreachable) w now w next Ends
trapped C p o w es n {now} {next} same count e = transfers C p o Unreachable w (λ q go.
    subst (λ m. EmitsLast (control C m w.places o Unreachable q go) now next) count (subst (λ z. EmitsLast (control C n z o Unreachable q go) now next) same (e q go)))

-- ---- calls

pub no_function : (C : Ctx) (p : Bool) (o f : ℕ) (w : Walking) {now : Written} → type_at C.source f ≡ None → Advances C p o (Goes (Call f)) w now w now Ends
no_function C p o f w {now} none = transfers C p o (Call f) w (λ q go.
    let nothing : EmitsLast stop now now = record { emitted = λ behind. refl } in
    subst (λ z. EmitsLast (call_code C (depth_in w) w.places o f z q go) now now) (sym none) nothing)

pub called : (C : Ctx) (p : Bool) (o f : ℕ) (type : FuncType) (w w' : Walking) (es : List Place) (n count : ℕ) (r : Option ValType) {now next : Written} → es ≡ w.places → n ≡ suc (length w.opens) → type_at C.source f ≡ Some type →
    count ≡ length type.params → r ≡ result_of type → w' ≡ with_places w (grown r (less count w.places)) →
    Emits (λ k. call_code C n es o f (Some type) p (λ left. k)) now next → Advances C p o (Goes (Call f)) w now w' next Next
called C p o f type w w' es n count r {now} {next} same depth is takes gives becomes e = λ code start whole pc b q at.
    let over : Emits (λ k. call_code C n w.places o f (Some type) p (λ left. k)) now next = subst (λ z. Emits (λ k. call_code C n z o f (Some type) p (λ left. k)) now next) same e in
    let piece : Emits (λ k. call_code C (depth_in w) w.places o f (Some type) p (λ left. k)) now next = subst (λ m. Emits (λ k. call_code C m w.places o f (Some type) p (λ left. k)) now next) depth over in
    let goes : w' ≡ with_places w (grown (result_of type) (less (length type.params) w.places)) = becomes ∙ ap (λ k. with_places w (grown r (less k w.places))) takes ∙ ap (λ t. with_places w (grown t (less (length type.params) w.places))) gives in
    subst (λ v. Rewrites C code start whole (suc pc) v next) (sym goes) (step_call C code start whole pc w now next o f type p b q is piece at)

pub no_type : (C : Ctx) (p : Bool) (o t : ℕ) (w : Walking) {now : Written} → slice_get C.source.types t ≡ None → Advances C p o (Goes (CallIndirect t)) w now w now Ends
no_type C p o t w {now} none = transfers C p o (CallIndirect t) w (λ q go.
    let nothing : EmitsLast stop now now = record { emitted = λ behind. refl } in
    subst (λ z. EmitsLast (indirect_code C (depth_in w) w.places o t z go) now now) (sym none) nothing)

pub no_index : (C : Ctx) (p : Bool) (o t : ℕ) (w : Walking) {now : Written} → w.places ≡ [] → Advances C p o (Goes (CallIndirect t)) w now w now Ends
no_index C p o t w {now} none = transfers C p o (CallIndirect t) w (λ q go.
    let nothing : EmitsLast stop now now = record { emitted = λ behind. refl } in
    subst (λ es. EmitsLast (indirect_code C (depth_in w) es o t (slice_get C.source.types t) go) now now) (sym none) (by (slice_get C.source.types t) (depth_in w) go nothing))
  where
    by : (q : Option FuncType) (ls : ℕ) (go : List Place → Nodes) → EmitsLast stop now now → EmitsLast (indirect_code C ls [] o t q go) now now
    by None ls go e = e
    by (Some type) ls go e = e

pub called_through : (C : Ctx) (pass : Bool) (o t : ℕ) (type : FuncType) (w w' : Walking) (es : List Place) (n count : ℕ) (r : Option ValType) {now next : Written} → es ≡ w.places → 1 ≤ length w.places → n ≡ suc (length w.opens) →
    slice_get C.source.types t ≡ Some type → count ≡ suc (length type.params) → r ≡ result_of type → w' ≡ with_places w (grown r (less count w.places)) →
    ((p : Place) (below : List Place) → es ≡ p ∷ below → Emits (λ k. indirect_code C n es o t (Some type) (λ left. k)) now next) → Advances C pass o (Goes (CallIndirect t)) w now w' next Next
called_through C pass o t type w w' es n count r {now} {next} same some depth is takes gives becomes e = by w.places refl some
  where
    by : (ps : List Place) → w.places ≡ ps → 1 ≤ length ps → Advances C pass o (Goes (CallIndirect t)) w now w' next Next
    by [] top le = absurd (omega (arith, le))
    by (p ∷ below) top le = λ code start whole pc b q at.
        let over : Emits (λ k. indirect_code C n (p ∷ below) o t (Some type) (λ left. k)) now next = subst (λ z. Emits (λ k. indirect_code C n z o t (Some type) (λ left. k)) now next) (same ∙ top) (e p below (same ∙ top)) in
        let piece : Emits (λ k. indirect_code C (depth_in w) (p ∷ below) o t (Some type) (λ left. k)) now next = subst (λ m. Emits (λ k. indirect_code C m (p ∷ below) o t (Some type) (λ left. k)) now next) depth over in
        let goes : w' ≡ with_places w (grown (result_of type) (less (length type.params) below)) =
        becomes ∙ ap (λ k. with_places w (grown r (less k w.places))) takes ∙ ap (λ z. with_places w (grown r (less (suc (length type.params)) z))) top ∙ ap (λ z. with_places w (grown z (less (length type.params) below))) gives in
        subst (λ v. Rewrites C code start whole (suc pc) v next) (sym goes) (step_call_indirect C code start whole pc w now next o t type p below pass b q top is piece at)

-- ---- what calls ask

pub empty : (es : List Place) → length es ≡ 0 → es ≡ []
empty [] e = refl
empty (p ∷ es) e = absurd (omega (arith, e))

pub helper_is : (C : Ctx) (m : Module) (t h : ℕ) → HasHelpers C → m ≡ C.source → h ≡ helper_base m + place_in t (types_used m) → h ≡ helper_of C t
helper_is C m t h has is e =
    e ∙ ap (λ m. helper_base m + place_in t (types_used m)) is ∙ ap (λ b. b + place_in t (types_used C.source)) (sym has.base) ∙ ap (λ ts. C.base + place_in t ts) (sym has.types)
