-- A value, or what is answered in its place.
use Rattle.std.specs.Prelude.{◌≡◌, Result, Err}
use Rattle.commands.specs.Told.{UnlessFault}
use Rattle.commands.specs.declared.given.Given.{Given}
use Rattle.commands.specs.declared.given.Given.TheVariants.{Value, Refused}
use Rattle.commands.specs.declared.outcome.Outcome.{Outcome}

-- the value is so to what the definitions give, or the refusal is theirs, but for a fault
abbrev pub IsGiven : {A B : Type 0} → (A → Result B Outcome → Type 0) → Given A → Result B Outcome → Type 0
IsGiven Is (Value x) given = Is x given
IsGiven Is (Refused o) given = UnlessFault o.status (given ≡ Err o)

-- a fact on the value, where there is one
abbrev pub IfValue : {A : Type 0} → (A → Type 0) → Given A → Type 0
IfValue P (Value x) = P x
IfValue P (Refused o) = Unit {0}

-- a fact on what is answered in its place
abbrev pub IfRefused : {A : Type 0} → (Outcome → Type 0) → Given A → Type 0
IfRefused P (Value x) = Unit {0}
IfRefused P (Refused o) = P o
