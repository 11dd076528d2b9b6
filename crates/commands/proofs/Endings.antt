-- How a step of a command ends, by how the step behind it ends.
use Rattle.std.proofs.Common.{◌≡◌, ℕ, List, Result, Ok, Err, subst}
use Rattle.std.specs.Prelude.{◌≢◌, IfOk}
use Rattle.commands.specs.Texts.{file_fault}
use Rattle.commands.specs.calls.Ended.{Ended}
use Rattle.commands.specs.calls.Given.{IfRefused}
use Rattle.commands.specs.declared.given.Given.{Given}
use Rattle.commands.specs.declared.given.Given.TheVariants.{Refused}
use Rattle.commands.specs.declared.outcome.Outcome.{Outcome}
use Rattle.commands.specs.declared.status.Status.TheVariants as status
use Rattle.commands.proofs.Givens.{of_refusal}

-- a cause that is a case of another one
pub ended_for : {E : Type 0} (P Q : Outcome → Type 0) (r : Result Outcome E) → IfOk r (Ended P) → ((o : Outcome) → P o → Q o) → IfOk r (Ended Q)
ended_for P Q (Ok o) x to = record { fault = λ at. to o (x.fault at); memory = x.memory }
ended_for P Q (Err e) x to = tt

-- both facts in one
pub ended_both : {E : Type 0} (P : Outcome → Type 0) (r : Result Outcome E) → IfOk r (λ o. o.status ≡ status.FileFault → P o) → IfOk r (λ o. o.status ≢ status.NoMemory) → IfOk r (Ended P)
ended_both P (Ok o) fault memory = record { fault = fault; memory = memory }
ended_both P (Err e) fault memory = tt

pub ended_some : {E : Type 0} (P : Outcome → Type 0) (r : Result Outcome E) → IfOk r (Ended P) → IfOk r (λ o. o.status ≢ status.NoMemory)
ended_some P (Ok o) x = x.memory
ended_some P (Err e) x = tt

-- a file that was not read, under the name that the words give it
pub ended_read : {A : Type 0} (file name : List ℕ) (rose : Type 0) (given : Given A) (o : Outcome) → file ≡ name → given ≡ Refused o → IfRefused (Ended (λ o. (o ≡ file_fault file) × rose)) given
    → Ended (λ o. (o ≡ file_fault name) × rose) o
ended_read file name rose given o named is x = subst (λ (f : List ℕ). Ended (λ o. (o ≡ file_fault f) × rose) o) named (of_refusal given o (Ended (λ o. (o ≡ file_fault file) × rose)) is x)
