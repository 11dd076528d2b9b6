-- Two files that are written one after the other.
use Rattle.std.proofs.Common.{◌≡◌, ℕ, List, [], ◌∷◌, refl, sym, ap, subst, ◌∙◌, inr, Option, Some, Result, Ok, Err}
use Rattle.std.specs.Prelude.{bytes_eq, if◌then◌else◌, IfOk}
use Rattle.causes.specs.declared.NoMemory.{NoMemory as WantOfMemory}
use Rattle.pm_outside.specs.Contents.{Contents, SameBut}
use Rattle.pm_outside.specs.Written.{OnTold, HasFile, HasFront}
use Rattle.pm_outside.proofs.Leavings.{then_told, same_told, none_told}
use Rattle.commands.specs.Texts.{file_fault}
use Rattle.commands.specs.declared.outcome.Outcome.{Outcome}
use Rattle.commands.specs.declared.status.Status.TheVariants as status
use Rattle.commands.proofs.Unless.{OnAnswer, map_answer}
use Rattle.run_session.specs.Stop.{Stop, no_memory, file_failed, OnStop}
use Rattle.pm_outside.specs.Held.{HoldThen}
use Rattle.instrument_command.specs.Stops.{IsFailed}
use Rattle.selftest_command.specs.Stops.{HasThenFront, Left, SameButBoth}
use Rattle.pm_outside.proofs.Held.{one_held}
use Rattle.run_session.proofs.Stops.{map_stop}

-- ---- one file

pub fault_stops : (Q : Stop → Type 0) (file : List ℕ) (result : Result Outcome WantOfMemory) → Q no_memory → Q (file_failed file) → IfOk result (λ o. o ≡ file_fault file) → OnStop Q result
fault_stops Q file (Err e) want failed is = want
fault_stops Q file (Ok o) want failed is = λ faulted. record { file = file; named = is; failed = failed; memory = want }

done_no_fault : status.Done ≡ status.FileFault → ⊥
done_no_fault e = absurd cc

pub done_stops : (Q : Stop → Type 0) (o : Outcome) → o.status ≡ status.Done → OnStop Q (Ok o)
done_stops Q o done = λ faulted. absurd (done_no_fault (sym done ∙ faulted))

-- ---- both files

module _ (file bytes other more : List ℕ) (old mid new : Option Contents) where
  pub both_held : OnTold (HasFile file bytes) old mid → OnTold (HasFile other more) mid new → OnTold (HoldThen ((file, bytes) ∷ (other, more) ∷ [])) old new
  both_held one two =
      then_told (HoldThen ((file, bytes) ∷ [])) (HoldThen ((other, more) ∷ [])) (HoldThen ((file, bytes) ∷ (other, more) ∷ [])) old mid new
      (λ o m n h k name. k name ∙ ap (λ z. if bytes_eq name other then Some more else z) (h name)) (one_held file bytes old mid one) (one_held other more mid new two)

  pub both_told : (done : Outcome) (result : Result Outcome WantOfMemory) → OnTold (HasFile file bytes) old mid
      → OnAnswer (λ o. (o ≡ done) × OnTold (HasFile other more) mid new) result → OnAnswer (λ o. (o ≡ done) × OnTold (HoldThen ((file, bytes) ∷ (other, more) ∷ [])) old new) result
  both_told done result one x =
      map_answer (λ o. (o ≡ done) × OnTold (HasFile other more) mid new) (λ o. (o ≡ done) × OnTold (HoldThen ((file, bytes) ∷ (other, more) ∷ [])) old new) result (λ o k. (k.0, both_held one k.1)) x

  pub both_stops : (result : Result Outcome WantOfMemory) → OnTold (HasFile file bytes) old mid
      → OnStop (λ stop. IsFailed stop other × OnTold (HasFront other more) mid new) result → OnStop (λ stop. Left stop file bytes other more old new) result
  both_stops result one x =
      map_stop (λ stop. IsFailed stop other × OnTold (HasFront other more) mid new) (λ stop. Left stop file bytes other more old new) result
      (λ stop k. inr (k.0, then_told (HasFile file bytes) (HasFront other more) (HasThenFront file bytes other more) old mid new (λ o m n h l. (m, h, l)) one k.1)) x

  pub both_kept : OnTold (SameBut file) old mid → OnTold (SameBut other) mid new → OnTold (SameButBoth file other) old new
  both_kept one two = then_told (SameBut file) (SameBut other) (SameButBoth file other) old mid new (λ o m n h k name a b. k name b ∙ h name a) one two

pub first_kept : (file other : List ℕ) (old new : Option Contents) → OnTold (SameBut file) old new → OnTold (SameButBoth file other) old new
first_kept file other old new one = same_told (SameBut file) (SameButBoth file other) old new (λ o n h name a b. h name a) one

pub none_kept : (file other : List ℕ) (old new : Option Contents) → new ≡ old → OnTold (SameButBoth file other) old new
none_kept file other old new same = subst (λ t. OnTold (SameButBoth file other) old t) (sym same) (none_told (SameButBoth file other) old (λ o name a b. refl))
