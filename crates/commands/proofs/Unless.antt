-- What is known of an answer, unless there was a fault.
use Rattle.std.proofs.Common.{Result, Ok, Err}
use Rattle.std.specs.Prelude.{IfOk}
use Rattle.commands.specs.Told.{UnlessFault}
use Rattle.commands.specs.declared.outcome.Outcome.{Outcome}
use Rattle.commands.specs.declared.status.Status.{Status}
use Rattle.commands.specs.declared.status.Status.TheVariants as status

pub unless : (s : Status) (P Q : Type 0) → (P → Q) → UnlessFault s P → UnlessFault s Q
unless status.FileFault P Q to x = tt
unless status.NoMemory P Q to x = tt
unless status.Done P Q to x = to x
unless status.Trapped P Q to x = to x
unless status.Usage P Q to x = to x
unless status.NoFile P Q to x = to x
unless status.Malformed P Q to x = to x
unless status.Outside P Q to x = to x
unless status.Invalid P Q to x = to x
unless status.NotStarted P Q to x = to x
unless status.HostStopped P Q to x = to x
unless status.FuelSpent P Q to x = to x
unless status.BadDump P Q to x = to x
unless status.Mismatch P Q to x = to x
unless status.Limit P Q to x = to x
unless status.Collision P Q to x = to x
unless status.TornCalls P Q to x = to x
unless status.BadReplies P Q to x = to x

pub on_all : (s : Status) (P : Type 0) → P → UnlessFault s P
on_all status.FileFault P x = tt
on_all status.NoMemory P x = tt
on_all status.Done P x = x
on_all status.Trapped P x = x
on_all status.Usage P x = x
on_all status.NoFile P x = x
on_all status.Malformed P x = x
on_all status.Outside P x = x
on_all status.Invalid P x = x
on_all status.NotStarted P x = x
on_all status.HostStopped P x = x
on_all status.FuelSpent P x = x
on_all status.BadDump P x = x
on_all status.Mismatch P x = x
on_all status.Limit P x = x
on_all status.Collision P x = x
on_all status.TornCalls P x = x
on_all status.BadReplies P x = x

-- a fact on what is answered, unless there was a fault
abbrev pub OnAnswer : {E : Type 0} → (Outcome → Type 0) → Result Outcome E → Type 0
OnAnswer P r = IfOk r (λ o. UnlessFault o.status (P o))

pub map_answer : {E : Type 0} (P Q : Outcome → Type 0) (r : Result Outcome E) → ((o : Outcome) → P o → Q o) → OnAnswer P r → OnAnswer Q r
map_answer P Q (Err e) to x = tt
map_answer P Q (Ok o) to x = unless o.status (P o) (Q o) (to o) x

pub all_answers : {E : Type 0} (P : Outcome → Type 0) (r : Result Outcome E) → IfOk r P → OnAnswer P r
all_answers P (Err e) x = tt
all_answers P (Ok o) x = on_all o.status (P o) x
