-- How the list goes on behind an invocation of which something is told.
use Rattle.std.proofs.Common.{◌≡◌, ℕ, ◌+◌, Bool, true, false, List, [], ◌∷◌, ◌++◌, length, refl, sym, ap, ◌∙◌, Option, Some, None, Result, Ok, Err, subst}
use Rattle.std.specs.Prelude.{IfOk, is_some}
use Rattle.std.proofs.lemmas.List.{append-nil}
use Rattle.pm_outside.specs.Contents.{Contents}
use Rattle.wasm_syntax.specs.declared.parts.Import.{Import}
use Rattle.wasm_syntax.specs.declared.host.CollectorCall.{CollectorCall}
use Rattle.wasm_syntax.specs.Machine.{Config}
use Rattle.wasm_syntax.specs.Module.{Program}
use Rattle.wasm_syntax.specs.Run.{Outcome as RunOutcome, not_started, finished, trapped, lacks_reply, misfits, running, got_stuck, Ran, goes_on}
use Rattle.pm_outside.specs.Written.{OnTold}
use Rattle.machine_hosted.specs.declared.answer.RunEnd.{RunEnd}
use Rattle.machine_hosted.specs.declared.answer.RunEnd.TheVariants.{Finished, Trapped, NoReply, BadReply, DeviceFault, FuelSpent, NoMemory}
use Rattle.machine_hosted.specs.calls.Invocations.{may_follow}
use Rattle.wasm_machine.specs.calls.Instances.{State}
use Rattle.causes.specs.declared.NoMemory.{NoMemory as WantOfMemory}
use Rattle.commands.specs.calls.Given.{IfValue, IfRefused}
use Rattle.commands.specs.declared.given.Given.{Given}
use Rattle.commands.specs.declared.given.Given.TheVariants as given
use Rattle.commands.specs.declared.outcome.Outcome.{Outcome}
use Rattle.run_session.specs.Telling.{Telling, nothing, Tells, told, torn_in, HasDump}
use Rattle.run_session.specs.RunText.{telling_text, dumps_from, with_trap}
use Rattle.run_session.specs.Given.{given_to}
use Rattle.pm_outside.specs.Held.{Writes, HoldPart}
use Rattle.host_devices.specs.Given.{unfitting}
use Rattle.run_session.specs.inner.Dumping.{IsTold, torn_at, own_dump, AddsTold, LeavesDump}
use Rattle.run_session.specs.inner.Turns.{TellsIt, Dumps, Answered, Adds, turn_of, turn_by, TurnsTo, UnlessRefused, IfTurnRefused, Added, LeavesPart}
use Rattle.run_session.specs.declared.told.Told.{Told}
use Rattle.run_session.specs.declared.told.Told.TheVariants as code
use Rattle.run_session.specs.declared.turns.Lines.{Lines}
use Rattle.run_session.specs.declared.turns.Turn.{Turn}
use Rattle.run_session.proofs.Tellings.{Behaves, unwritten}

-- ---- torn calls

same_torn : (t : Telling) (name : List ℕ) (value : Told) → IsTold t name value → torn_in t ≡ torn_at value
same_torn t name code.Nothing x = ap torn_in x
same_torn t name (code.Finish v) x = ap torn_in x
same_torn t name (code.Trap kind d) x = ap torn_in x.is
same_torn t name (code.BareTrap kind) x = ap torn_in x
same_torn t name (code.Torn at) x = ap torn_in x

-- ---- the lines, by how many replies fitted

all_fit : (r : Ran) (n : ℕ) → n ≡ length (given_to r) → unfitting r.outcome ≡ [] → n ≡ length r.served
all_fit r n counted none = counted ∙ ap (λ l. length (r.served ++ l)) none ∙ ap (λ l. length l) (append-nil r.served)

-- where one of them does not, nothing is told
same_text : (tell : Tells) → Behaves tell → (r : Ran) (n : ℕ) → n ≡ length (given_to r) → telling_text (told tell r) n ≡ telling_text (told tell r) (length r.served)
same_text tell b r n counted = by_outcome r.outcome refl
  where
    fitting : unfitting r.outcome ≡ [] → telling_text (told tell r) n ≡ telling_text (told tell r) (length r.served)
    fitting none = ap (λ k. telling_text (told tell r) k) (all_fit r n counted none)

    untold : told tell r ≡ nothing → telling_text (told tell r) n ≡ telling_text (told tell r) (length r.served)
    untold is = ap (λ t. telling_text t n) is ∙ sym (ap (λ t. telling_text t (length r.served)) is)

    by_outcome : (o : RunOutcome) → r.outcome ≡ o → telling_text (told tell r) n ≡ telling_text (told tell r) (length r.served)
    by_outcome (misfits call reply) e = untold (ap (λ x. tell x r.collected r.last) e ∙ b.misfitting call reply r.collected r.last)
    by_outcome (finished v) e = fitting (ap unfitting e)
    by_outcome (trapped kind) e = fitting (ap unfitting e)
    by_outcome (not_started cause) e = fitting (ap unfitting e)
    by_outcome (lacks_reply call) e = fitting (ap unfitting e)
    by_outcome running e = fitting (ap unfitting e)
    by_outcome got_stuck e = fitting (ap unfitting e)

-- ---- the turn

follows_on : (answer : RunEnd) (r : Ran) (ready : Bool) → (answer ≡ NoMemory → ⊥) → ready ≡ may_follow answer r → ready ≡ goes_on r.outcome r.entered
follows_on (Finished v) r ready some e = e
follows_on (Trapped kind) r ready some e = e
follows_on NoReply r ready some e = e
follows_on (BadReply reply) r ready some e = e
follows_on (DeviceFault device) r ready some e = e
follows_on FuelSpent r ready some e = e
follows_on NoMemory r ready some e = absurd (some refl)

by_turn : (tell : Tells) (base name : List ℕ) (a : RunEnd) (r : Ran) (old new : Lines) (writes : Writes) (t : Option ℕ) (ready : Bool) → torn_in (told tell r) ≡ t → ready ≡ goes_on r.outcome r.entered → Adds tell base name r old new writes
    → TurnsTo tell base name a r old new writes (turn_of t ready a)
by_turn tell base name a r old new writes None true e f adds = (sym f, e, adds)
by_turn tell base name a r old new writes None false e f adds = (refl, sym f, e, adds)
by_turn tell base name a r old new writes (Some at) ready e f adds = (e, adds)

unless_turn : (t : Option ℕ) (ready : Bool) (a : RunEnd) (P : Turn → Type 0) → P (turn_of t ready a) → UnlessRefused (turn_of t ready a) (P (turn_of t ready a))
unless_turn None true a P x = x
unless_turn None false a P x = x
unless_turn (Some at) ready a P x = x

added_so : (tell : Tells) → Behaves tell → (base name : List ℕ) (r : Ran) (old new : Lines) (writes : Writes) (calls : ℕ) → calls ≡ length (given_to r) → is_some r.last ≡ true
    → new.text ≡ old.text ++ telling_text (told tell r) calls → new.traps ≡ old.traps + with_trap (told tell r) 0 → writes ≡ own_dump base name old.traps (told tell r) → Adds tell base name r old new writes
unfolding dumps_from
added_so tell b base name r old new writes calls counted placed text traps wrote = record {
  text = text ∙ ap (λ l. old.text ++ l) (same_text tell b r calls counted);
  traps = traps;
  wrote = wrote;
  placed = placed;
}

part_so : (tell : Tells) (base name : List ℕ) (traps : ℕ) (r : Ran) (before after : Option Contents) → OnTold (HoldPart (own_dump base name traps (told tell r))) before after → OnTold (HoldPart (dumps_from tell base name traps (r ∷ []))) before after
unfolding dumps_from
part_so tell base name traps r before after x = x

-- nothing was written yet
pub unwritten_part : (tell : Tells) (collect : Bool) (base name : List ℕ) (s : State) (a : RunEnd) (handed : List CollectorCall) (traps : ℕ) (files : Option Contents) → LeavesPart tell collect base name s a handed traps files files
unwritten_part tell collect base name s a handed traps files = λ p used_up r c came same last. part_so tell base name traps r files files (unwritten base name traps (told tell r) files)

module _ (tell : Tells) (b : Behaves tell) (collect : Bool) (base name : List ℕ) (s : State) (a : RunEnd) (handed : List CollectorCall) (value : Told) (tells_it : TellsIt tell collect a s handed name value) (before after : Option Contents) where
  -- of an invocation that came to this
  told_so : (calls : ℕ) (p : Program) (used_up : Import → Bool) (r : Ran) → Answered p used_up collect a s calls handed r → IsTold (told tell r) name value
  told_so calls p used_up r known = subst (λ l. IsTold (tell r.outcome r.collected l) name value) (sym known.last_is) (tells_it p used_up r.outcome known.last r.collected known.came known.handed)

  told_added : (calls : ℕ) (old new : Lines) (torn : Option ℕ) → (a ≡ NoMemory → ⊥) → AddsTold base name value calls old new before after → torn ≡ torn_at value
      → Added tell collect base name s a calls handed old new before after (turn_of torn s.ready a)
  told_added calls old new torn some adds is = record {
    writes = adds.writes;
    files = adds.files;
    turns = λ p used_up r known.
        let x = told_so calls p used_up r known in
        by_turn tell base name a r old new adds.writes torn s.ready (same_torn (told tell r) name value x ∙ sym is) (follows_on a r s.ready some known.follows)
        (added_so tell b base name r old new adds.writes calls known.counted (ap (λ (l : Option Config). is_some l) known.last_is) (adds.text (told tell r) x) (adds.traps (told tell r) x) (adds.wrote (told tell r) x));
  }

  pub all_added : (calls : ℕ) (old new : Lines) (result : Result (Given (Option ℕ)) WantOfMemory) → (a ≡ NoMemory → ⊥) → IfOk result (IfValue (λ torn. AddsTold base name value calls old new before after)) → IfOk result (IfValue (λ torn. torn ≡ torn_at value))
      → IfOk result (IfValue (λ torn. Added tell collect base name s a calls handed old new before after (turn_of torn s.ready a)))
  all_added calls old new (Ok (given.Value torn)) some adds is = told_added calls old new torn some adds is
  all_added calls old new (Ok (given.Refused o)) some adds is = tt
  all_added calls old new (Err e) some adds is = tt

  pub told_part : (traps : ℕ) → LeavesDump base name value traps before after → LeavesPart tell collect base name s a handed traps before after
  told_part traps leaves = λ p used_up r c came same last.
      part_so tell base name traps r before after (leaves (told tell r) (subst (λ l. IsTold (tell r.outcome r.collected l) name value) (sym last) (tells_it p used_up r.outcome c r.collected came same)))

  told_dumped : ((t : Telling) → IsTold t name value → HasDump t) → Dumps tell collect a s handed
  told_dumped has = λ p used_up o c others came same. has (tell o others (Some c)) (tells_it p used_up o c others came same)

  pub all_dumped : (result : Result (Given (Option ℕ)) WantOfMemory) → IfOk result (IfRefused (λ _. (t : Telling) → IsTold t name value → HasDump t)) → IfOk result (IfRefused (λ _. Dumps tell collect a s handed))
  all_dumped (Ok (given.Value torn)) has = tt
  all_dumped (Ok (given.Refused o)) has = told_dumped has
  all_dumped (Err e) has = tt

-- ---- the turn behind them

pub whatever_is_given : (result : Result (Given (Option ℕ)) WantOfMemory) (P : Type 0) → P → IfOk result (λ g. P)
whatever_is_given (Ok g) P x = x
whatever_is_given (Err e) P x = tt

pub turn_added : (g : Given (Option ℕ)) (ready : Bool) (a : RunEnd) (turn : Turn) (P : Turn → Type 0) → turn ≡ turn_by g ready a → IfValue (λ torn. P (turn_of torn ready a)) g → UnlessRefused turn (P turn)
turn_added (given.Value torn) ready a turn P is x = subst (λ t. UnlessRefused t (P t)) (sym is) (unless_turn torn ready a P x)
turn_added (given.Refused o) ready a turn P is x = subst (λ t. UnlessRefused t (P t)) (sym is) tt

not_refused : (t : Option ℕ) (ready : Bool) (a : RunEnd) (P : Outcome → Type 0) → IfTurnRefused P (turn_of t ready a)
not_refused None true a P = tt
not_refused None false a P = tt
not_refused (Some at) ready a P = tt

pub turn_refused : (g : Given (Option ℕ)) (ready : Bool) (a : RunEnd) (turn : Turn) (P : Outcome → Type 0) → turn ≡ turn_by g ready a → IfRefused P g → IfTurnRefused P turn
turn_refused (given.Value torn) ready a turn P is x = subst (λ t. IfTurnRefused P t) (sym is) (not_refused torn ready a P)
turn_refused (given.Refused o) ready a turn P is x = subst (λ t. IfTurnRefused P t) (sym is) x
