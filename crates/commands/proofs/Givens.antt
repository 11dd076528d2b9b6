-- What is known of a value, or of what is answered in its place.
use Rattle.std.proofs.Common.{◌≡◌, subst}
use Rattle.commands.specs.calls.Given.{IfValue, IfRefused}
use Rattle.commands.specs.declared.given.Given.{Given}
use Rattle.commands.specs.declared.given.Given.TheVariants.{Value, Refused}
use Rattle.commands.specs.declared.outcome.Outcome.{Outcome}

-- a fact that speaks of no value
pub where_value : {A : Type 0} (given : Given A) (x : A) (P : Type 0) → given ≡ Value x → IfValue (λ y. P) given → P
where_value given x P is known = subst (λ g. IfValue (λ y. P) g) is known

pub of_refusal : {A : Type 0} (given : Given A) (o : Outcome) (P : Outcome → Type 0) → given ≡ Refused o → IfRefused P given → P o
of_refusal given o P is known = subst (λ g. IfRefused P g) is known
