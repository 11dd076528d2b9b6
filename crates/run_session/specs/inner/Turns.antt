-- How a list goes on, or ends, behind an invocation.
use Rattle.std.specs.Prelude.{◌≡◌, ℕ, ◌+◌, Bool, true, false, List, [], ◌∷◌, ◌++◌, length, Option, Some, None, is_some}
use Rattle.pm_outside.specs.Contents.{Contents}
use Rattle.wasm_syntax.specs.declared.parts.Import.{Import}
use Rattle.wasm_syntax.specs.declared.host.CollectorCall.{CollectorCall}
use Rattle.wasm_syntax.specs.Machine.{Config}
use Rattle.wasm_syntax.specs.Module.{Program}
use Rattle.wasm_syntax.specs.Run.{Outcome as RunOutcome, Ran, goes_on}
use Rattle.pm_outside.specs.Written.{OnTold}
use Rattle.machine_hosted.specs.declared.answer.RunEnd.{RunEnd}
use Rattle.machine_hosted.specs.calls.Answers.{KeepsThen}
use Rattle.machine_hosted.specs.calls.Invocations.{HasOutcome, may_follow}
use Rattle.wasm_machine.specs.calls.Instances.{State, IsOf}
use Rattle.commands.specs.declared.given.Given.{Given}
use Rattle.commands.specs.declared.given.Given.TheVariants as given
use Rattle.commands.specs.declared.outcome.Outcome.{Outcome}
use Rattle.run_session.specs.Telling.{Tells, told, torn_in, HasDump}
use Rattle.run_session.specs.RunText.{invocation_text, dumps_from, traps_in}
use Rattle.run_session.specs.Given.{given_to}
use Rattle.pm_outside.specs.Held.{Writes, HoldThen, HoldPart}
use Rattle.run_session.specs.inner.Dumping.{IsTold}
use Rattle.run_session.specs.declared.told.Told.{Told}
use Rattle.run_session.specs.declared.turns.Lines.{Lines}
use Rattle.run_session.specs.declared.turns.Turn.{Turn}
use Rattle.run_session.specs.declared.turns.Turn.TheVariants.{GoesOn, Ends, Torn, Refused}

-- ---- what an invocation came to

-- an invocation with this answer came to this outcome, at this configuration, and left the instance so
pub record CameTo (p : Program) (used_up : Import → Bool) (answer : RunEnd) (s : State) (o : RunOutcome) (c : Config) : Type 0 where
  pub is_of : IsOf s p
  pub outcome : HasOutcome p used_up answer o
  pub keeps : KeepsThen p s.prepared.codes.items answer s.machine c

-- what is known of each invocation that came to this, with these calls where they are looked at
abbrev pub OnInvocation : (collect : Bool) → RunEnd → State → (calls : List CollectorCall) → (RunOutcome → List CollectorCall → Option Config → Type 0) → Type 0
OnInvocation collect answer s calls P =
    (p : Program) (used_up : Import → Bool) (o : RunOutcome) (c : Config) (others : List CollectorCall) → CameTo p used_up answer s o c → (collect ≡ true → others ≡ calls) → P o others (Some c)

-- this is told of it
abbrev pub TellsIt : Tells → (collect : Bool) → RunEnd → State → (calls : List CollectorCall) → (name : List ℕ) → Told → Type 0
TellsIt tell collect answer s calls name told = OnInvocation collect answer s calls (λ o others last. IsTold (tell o others last) name told)

-- it has a dump
abbrev pub Dumps : Tells → (collect : Bool) → RunEnd → State → (calls : List CollectorCall) → Type 0
Dumps tell collect answer s calls = OnInvocation collect answer s calls (λ o others last. HasDump (tell o others last))

-- what is known of an invocation with this answer, which leaves the instance so
pub record Answered (p : Program) (used_up : Import → Bool) (collect : Bool) (answer : RunEnd) (s : State) (calls : ℕ) (collected : List CollectorCall) (r : Ran) : Type 0 where
  pub last : Config
  pub last_is : r.last ≡ Some last
  pub came : CameTo p used_up answer s r.outcome last
  pub follows : s.ready ≡ may_follow answer r
  pub counted : calls ≡ length (given_to r)
  pub handed : collect ≡ true → r.collected ≡ collected

-- ---- the turn

-- the lines of an invocation were added, and these files were written
pub record Adds (tell : Tells) (base name : List ℕ) (r : Ran) (old new : Lines) (writes : Writes) : Type 0 where
  pub text : new.text ≡ old.text ++ invocation_text tell r
  pub traps : new.traps ≡ old.traps + traps_in tell (r ∷ [])
  pub wrote : writes ≡ dumps_from tell base name old.traps (r ∷ [])
  pub placed : is_some r.last ≡ true

abbrev pub turn_on : (ready : Bool) → RunEnd → Turn
turn_on true answer = GoesOn
turn_on false answer = Ends answer

abbrev pub turn_of : (torn : Option ℕ) → (ready : Bool) → RunEnd → Turn
turn_of None ready answer = turn_on ready answer
turn_of (Some at) ready answer = Torn at

-- behind lines that were added, or a file that failed
abbrev pub turn_by : Given (Option ℕ) → (ready : Bool) → RunEnd → Turn
turn_by (given.Value torn) ready answer = turn_of torn ready answer
turn_by (given.Refused o) ready answer = Refused o

abbrev pub TurnsTo : Tells → (base name : List ℕ) → RunEnd → Ran → (old new : Lines) → Writes → Turn → Type 0
TurnsTo tell base name answer r old new writes GoesOn = (goes_on r.outcome r.entered ≡ true) × (torn_in (told tell r) ≡ None) × Adds tell base name r old new writes
TurnsTo tell base name answer r old new writes (Ends a) = (a ≡ answer) × (goes_on r.outcome r.entered ≡ false) × (torn_in (told tell r) ≡ None) × Adds tell base name r old new writes
TurnsTo tell base name answer r old new writes (Torn at) = (torn_in (told tell r) ≡ Some at) × Adds tell base name r old new writes
TurnsTo tell base name answer r old new writes (Refused o) = Unit {0}

abbrev pub UnlessRefused : Turn → Type 0 → Type 0
UnlessRefused GoesOn P = P
UnlessRefused (Ends a) P = P
UnlessRefused (Torn at) P = P
UnlessRefused (Refused o) P = Unit {0}

abbrev pub IfGoesOn : Type 0 → Turn → Type 0
IfGoesOn P GoesOn = P
IfGoesOn P (Ends a) = Unit {0}
IfGoesOn P (Torn at) = Unit {0}
IfGoesOn P (Refused o) = Unit {0}

abbrev pub IfEnds : (RunEnd → Type 0) → Turn → Type 0
IfEnds P GoesOn = Unit {0}
IfEnds P (Ends a) = P a
IfEnds P (Torn at) = Unit {0}
IfEnds P (Refused o) = Unit {0}

abbrev pub IfTurnRefused : (Outcome → Type 0) → Turn → Type 0
IfTurnRefused P GoesOn = Unit {0}
IfTurnRefused P (Ends a) = Unit {0}
IfTurnRefused P (Torn at) = Unit {0}
IfTurnRefused P (Refused o) = P o

-- an invocation with this answer was told and its dump written, and the list goes on or ends
pub record Added (tell : Tells) (collect : Bool) (base name : List ℕ) (s : State) (answer : RunEnd) (calls : ℕ) (collected : List CollectorCall) (old new : Lines) (before after : Option Contents) (turn : Turn) : Type 0 where
  pub writes : Writes
  pub files : OnTold (HoldThen writes) before after
  pub turns : (p : Program) (used_up : Import → Bool) (r : Ran) → Answered p used_up collect answer s calls collected r → TurnsTo tell base name answer r old new writes turn

-- However it ends, an invocation with this answer leaves its dump in part.
abbrev pub LeavesPart : Tells → (collect : Bool) → (base name : List ℕ) → State → RunEnd → (collected : List CollectorCall) → (traps : ℕ) → (before after : Option Contents) → Type 0
LeavesPart tell collect base name s answer collected traps before after =
    (p : Program) (used_up : Import → Bool) (r : Ran) (c : Config) → CameTo p used_up answer s r.outcome c → (collect ≡ true → r.collected ≡ collected) → r.last ≡ Some c
    → OnTold (HoldPart (dumps_from tell base name traps (r ∷ []))) before after
