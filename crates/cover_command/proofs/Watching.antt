-- An invocation whose steps were counted.
use Rattle.std.proofs.Common.{◌≡◌, ℕ, Bool, List, Some, sym, ap, subst, ◌∙◌}
use Rattle.wasm_syntax.specs.declared.value.Value.{Value}
use Rattle.wasm_syntax.specs.declared.parts.Import.{Import}
use Rattle.wasm_syntax.specs.Module.{Program, function_export}
use Rattle.machine_steps.specs.calls.Tallies.{Counts, Counted}
use Rattle.host_devices.specs.calls.HostSides.{Calls}
use Rattle.machine_hosted.specs.declared.answer.RunEnd.{RunEnd}
use Rattle.wasm_machine.specs.calls.Instances.{State, IsOf, Invoked}
use Rattle.wasm_machine.specs.calls.Watching.{Seen}
use Rattle.run_words.specs.declared.cover.CoverWords.{CoverWords}
use Rattle.cover_command.specs.inner.Running.{Came}
use Rattle.pm_text.proofs.Lists.{some_is}

-- what is known of the run and what is known of the counts are of the same function
pub joined : (w : CoverWords) (collecting : Bool) (used_up : Import → Bool) (s s' : State) (a : RunEnd) (t t' : Counts) (old new : Calls) (entry : List ℕ) (args : List Value) (L : ℕ → Type 0)
    → entry ≡ w.called.entry → args ≡ w.called.args
    → (f : ℕ) × (function_export s.module_ entry ≡ Some f) × ((p : Program) → IsOf s p → Invoked p collecting w.depth used_up f args w.fuel s s' a old new) × L f
    → (f : ℕ) × (function_export s.module_ entry ≡ Some f) × ((p : Program) → IsOf s p → Seen Counted p collecting w.depth f args w.fuel s s' a t t' old new)
    → Came w collecting used_up s s' a t t' old new
joined w collecting used_up s s' a t t' old new entry args L named given came seen =
    let same : seen.0 ≡ came.0 = some_is (sym seen.1 ∙ came.1) in (
      came.0,
      ap (λ n. function_export s.module_ n) (sym named) ∙ came.1,
      λ p is. (
        subst (λ xs. Invoked p collecting w.depth used_up came.0 xs w.fuel s s' a old new) given (came.2 p is),
        subst (λ xs. Seen Counted p collecting w.depth came.0 xs w.fuel s s' a t t' old new) given
            (subst (λ g. Seen Counted p collecting w.depth g args w.fuel s s' a t t' old new) same (seen.2 p is)),
      ),
    )
