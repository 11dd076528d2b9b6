-- What an entry of the table leads to.
use Rattle.std.proofs.Common.{◌≡◌, ℕ, List, refl, sym, ap, ◌∙◌, inl, inr, arith}
use Rattle.std.proofs.lemmas.Bool.Decides.{nat_tests}
use Rattle.std.specs.Prelude.{◌⊎◌, Bool, true, false, ◌==◌, Option, Some, None, slice_get, option_map}
use Rattle.wasm_syntax.specs.declared.value.Value.{Value}
use Rattle.wasm_syntax.specs.declared.parts.FuncType.{FuncType}
use Rattle.wasm_syntax.specs.declared.host.CollectorCall.{CollectorCall}
use Rattle.wasm_syntax.specs.Tree.{Nodes}
use Rattle.wasm_syntax.specs.Module.{type_at, same_functype}
use Rattle.wasm_syntax.specs.Host.{World}
use Rattle.wasm_syntax.specs.Machine.{Engine, Label, Frame, Stepped, stuck, calls_typed, calls_entry, calls_if, fits_entry}
use Rattle.machine_basics.specs.declared.answer.TrapKind.TheVariants.{UndefinedElement, UninitializedElement, TypeMismatch}
use Rattle.machine_steps.specs.declared.indirect.Entry.TheVariants as entries
use Rattle.machine_code.specs.calls.Prepares.{Numbered}
use Rattle.machine_steps.specs.inner.Entries.{Is, EntryFits}

module _ (M : Engine) (w : World) (t n : ℕ) where
  abbrev Steps : Type 0
  Steps = List Value → ℕ → Nodes → Frame → Label → List Label → List Frame → List CollectorCall → Stepped

  -- by the type that is asked for
  by_type : (s : Steps) → ((type : FuncType) → slice_get M.program.module_.types t ≡ Some type → (vs : List Value) (at : ℕ) (rest : Nodes) (f : Frame) (l : Label) (ls : List Label) (fs : List Frame) (co : List CollectorCall) →
      (calls_entry M (slice_get w.table n) type vs at rest f l ls fs w co ≡ stuck) ⊎ (calls_entry M (slice_get w.table n) type vs at rest f l ls fs w co ≡ s vs at rest f l ls fs co)) → Is M w t n s
  by_type s go vs at rest f l ls fs co = by_option (slice_get M.program.module_.types t) refl
    where
      by_option : (o : Option FuncType) → slice_get M.program.module_.types t ≡ o →
          (calls_typed M o (slice_get w.table n) vs at rest f l ls fs w co ≡ stuck) ⊎ (calls_typed M o (slice_get w.table n) vs at rest f l ls fs w co ≡ s vs at rest f l ls fs co)
      by_option None q = inl refl
      by_option (Some type) q = go type q vs at rest f l ls fs co

  pub undefined : slice_get w.table n ≡ None → EntryFits M w t n (entries.Trap UndefinedElement)
  undefined e = by_type _ (λ type q vs at rest f l ls fs co. inr (ap (λ o. calls_entry M o type vs at rest f l ls fs w co) e))

  pub uninitialized : slice_get w.table n ≡ Some None → EntryFits M w t n (entries.Trap UninitializedElement)
  uninitialized e = by_type _ (λ type q vs at rest f l ls fs co. inr (ap (λ o. calls_entry M o type vs at rest f l ls fs w co) e))

  module _ (types functions : List ℕ) (numbered : Numbered M.program.module_ types functions) (g : ℕ) (entry : slice_get w.table n ≡ Some (Some g)) where
    to_if : (type : FuncType) (vs : List Value) (at : ℕ) (rest : Nodes) (f : Frame) (l : Label) (ls : List Label) (fs : List Frame) (co : List CollectorCall) (b : Option Bool) → fits_entry M type g ≡ b →
        calls_entry M (slice_get w.table n) type vs at rest f l ls fs w co ≡ calls_if M b g vs at rest f l ls fs w co
    to_if type vs at rest f l ls fs co b q = ap (λ o. calls_entry M o type vs at rest f l ls fs w co) entry ∙ ap (λ o. calls_if M o g vs at rest f l ls fs w co) q

    -- by the type of the function
    by_function : (s : Steps) → ((type u : FuncType) → slice_get M.program.module_.types t ≡ Some type → type_at M.program.module_ g ≡ Some u → (vs : List Value) (at : ℕ) (rest : Nodes) (f : Frame) (l : Label) (ls : List Label) (fs : List Frame) (co : List CollectorCall) →
        (calls_if M (Some (same_functype u type)) g vs at rest f l ls fs w co ≡ stuck) ⊎ (calls_if M (Some (same_functype u type)) g vs at rest f l ls fs w co ≡ s vs at rest f l ls fs co)) → Is M w t n s
    by_function s go = by_type s (λ type q vs at rest f l ls fs co. by_option type q vs at rest f l ls fs co (type_at M.program.module_ g) refl)
      where
        by_option : (type : FuncType) → slice_get M.program.module_.types t ≡ Some type → (vs : List Value) (at : ℕ) (rest : Nodes) (f : Frame) (l : Label) (ls : List Label) (fs : List Frame) (co : List CollectorCall) (o : Option FuncType) → type_at M.program.module_ g ≡ o →
            (calls_entry M (slice_get w.table n) type vs at rest f l ls fs w co ≡ stuck) ⊎ (calls_entry M (slice_get w.table n) type vs at rest f l ls fs w co ≡ s vs at rest f l ls fs co)
        by_option type q vs at rest f l ls fs co None e = inl (to_if type vs at rest f l ls fs co None (ap (option_map (λ u. same_functype u type)) e))
        by_option type q vs at rest f l ls fs co (Some u) e =
            let step = to_if type vs at rest f l ls fs co (Some (same_functype u type)) (ap (option_map (λ u. same_functype u type)) e) in
            turned step (go type u q e vs at rest f l ls fs co)
          where
            turned : {a b c : Stepped} → a ≡ b → (b ≡ stuck) ⊎ (b ≡ c) → (a ≡ stuck) ⊎ (a ≡ c)
            turned e (inl q) = inl (e ∙ q)
            turned e (inr q) = inr (e ∙ q)

    some_is : {A : Type 0} {a b : A} → Some a ≡ Some b → a ≡ b
    some_is e = cc

    -- the test on numbers is the one on types
    same_as : (type u : FuncType) (wanted number : ℕ) → slice_get types t ≡ Some wanted → slice_get functions g ≡ Some number → slice_get M.program.module_.types t ≡ Some type → type_at M.program.module_ g ≡ Some u → same_functype u type ≡ (number == wanted)
    same_as type u wanted number a b q e =
        let k = numbered t type q in
        let j = k.of_functions g u e in
        let k_is : k.number ≡ wanted = some_is (sym k.is ∙ a) in
        let j_is : j.number ≡ number = some_is (sym j.is ∙ b) in
        j.same ∙ ap (λ z. z == k.number) j_is ∙ ap (λ z. number == z) k_is

    pub of_type : (wanted number : ℕ) → slice_get types t ≡ Some wanted → slice_get functions g ≡ Some number → number ≡ wanted → EntryFits M w t n (entries.Function g)
    of_type wanted number a b same = by_function _ (λ type u q e vs at rest f l ls fs co.
        let yes : (number == wanted) ≡ true = grind (arith, nat_tests) in
        inr (ap (λ z. calls_if M (Some z) g vs at rest f l ls fs w co) (same_as type u wanted number a b q e ∙ yes)))

    pub other_type : (wanted number : ℕ) → slice_get types t ≡ Some wanted → slice_get functions g ≡ Some number → (number ≡ wanted → ⊥) → EntryFits M w t n (entries.Trap TypeMismatch)
    other_type wanted number a b differs = by_function _ (λ type u q e vs at rest f l ls fs co.
        let no : (number == wanted) ≡ false = grind (arith, nat_tests) in
        inr (ap (λ z. calls_if M (Some z) g vs at rest f l ls fs w co) (same_as type u wanted number a b q e ∙ no)))

    pub no_type : slice_get types t ≡ None → EntryFits M w t n entries.Stuck
    no_type a = by_function _ (λ type u q e vs at rest f l ls fs co. let k = numbered t type q in let no : None ≡ Some k.number = sym a ∙ k.is in absurd (cc))

    pub no_function : slice_get functions g ≡ None → EntryFits M w t n entries.Stuck
    no_function b = by_function _ (λ type u q e vs at rest f l ls fs co. let j = (numbered t type q).of_functions g u e in let no : None ≡ Some j.number = sym b ∙ j.is in absurd (cc))
