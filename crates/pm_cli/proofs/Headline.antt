-- Where `instrument` is done, files hold a rewriting; where `debug` is, they hold what it tells of.
use Rattle.std.proofs.Common.{◌≡◌, ℕ, List, ◌++◌, Option, Some, None, sym, subst, ◌∙◌}
use Rattle.std.specs.Prelude.{IfSome}
use Rattle.wasm_syntax.specs.declared.host.Served.{Served}
use Rattle.pm_outside.specs.Contents.{Contents}
use Rattle.pm_outside.specs.Written.{OnTold}
use Rattle.host_set.specs.Sets.{DeviceState}
use Rattle.commands.specs.Told.{UnlessFault, MayHold, Takes}
use Rattle.commands.specs.declared.outcome.Outcome.{Outcome}
use Rattle.commands.specs.declared.status.Status.{Status}
use Rattle.commands.specs.declared.status.Status.TheVariants as status
use Rattle.pm_outside.specs.Held.{Writes, HoldThen}
use Rattle.instrument_command.specs.InstrumentAnswer.{InstrumentAnswer}
use Rattle.instrument_command.specs.Headline.{HoldsRewriting}
use Rattle.instrument_command.proofs.Done.{holds_rewriting}
use Rattle.debug_command.specs.declared.words.DebugWords.{DebugWords}
use Rattle.debug_command.specs.Answer.{DebugAnswer}
use Rattle.debug_command.specs.Headline.{IsDebugged}
use Rattle.debug_command.proofs.Held.{debugged}
use Rattle.commands.proofs.Unless.{unless}
use Rattle.pm_cli.specs.Answer.{AnswersTo, IsAnswer, Answered, IfRewritten, IfDebugged}
use Rattle.pm_cli.specs.Words.{command}
use Rattle.pm_cli.specs.declared.words.Command.{Command}
use Rattle.pm_cli.specs.declared.words.Command.TheVariants.{Instrument, Debug}

told_rewriting : (m out : List ℕ) (told told' : Option Contents) (first : Contents) (writes : Writes) (o : Outcome) → o.status ≡ status.Done → MayHold told first → InstrumentAnswer m out first writes o → OnTold (HoldThen writes) told told'
    → OnTold (HoldsRewriting m out) told told'
told_rewriting m out None told' first writes o done may a files = tt
told_rewriting m out (Some old) None first writes o done may a files = files
told_rewriting m out (Some old) (Some new) first writes o done may a files = holds_rewriting m out old new writes o done (subst (λ f. InstrumentAnswer m out f writes o) may a) files

by_command : (before after : List DeviceState) (c : Option Command) (told told' : Option Contents) (first later : Contents) (given : List Served) (writes : Writes) (o : Outcome) → o.status ≡ status.Done → MayHold told first
    → AnswersTo before after c first later given writes o → OnTold (HoldThen writes) told told' → IfRewritten c told told'
by_command before after (Some (Instrument m out)) told told' first later given writes o done may a files = told_rewriting m out told told' first writes o done may a.0 files
by_command before after _ told told' first later given writes o done may a files = tt

rewritten : (before after : List DeviceState) (words : List (List ℕ)) (told told' : Option Contents) (o : Outcome) → o.status ≡ status.Done → Answered before after words told told' o → IfRewritten (command words) told told'
unfolding IsAnswer
rewritten before after words told told' o done a = by_command before after (command words) told told' a.first a.later a.given a.writes o done a.may_first a.answer a.files

-- what was delivered is done
pub delivered_rewriting : (before after : List DeviceState) (words : List (List ℕ)) (told told' : Option Contents) (o : Outcome) (result : Status) (T : Type 0) → (T → result ≡ o.status) → UnlessFault o.status (Answered before after words told told' o)
    → UnlessFault result T → result ≡ status.Done → IfRewritten (command words) told told'
delivered_rewriting before after words told told' o result T same answered takes done =
    let is : o.status ≡ status.Done = sym (same (subst (λ s. UnlessFault s T) done takes)) ∙ done in
    rewritten before after words told told' o is (subst (λ s. UnlessFault s (Answered before after words told told' o)) is answered)

pub want_not_done : status.NoMemory ≡ status.Done → ⊥
want_not_done e = absurd cc

-- ---- `debug`

told_debugged : (w : DebugWords) (told : Option Contents) (first later : Contents) (o : Outcome) (result : Status) (old new : Option (List ℕ)) → MayHold told first → MayHold told later → DebugAnswer w first later o → Takes result old new o
    → IfSome told (λ held. (text : List ℕ) × IsDebugged w held result text × IfSome old (λ before. new ≡ Some (before ++ text)))
told_debugged w None first later o result old new may may_then a takes = tt
told_debugged w (Some held) first later o result old new may may_then a takes =
    let here : DebugAnswer w held held o = subst (λ (f : Contents). DebugAnswer w held f o) may_then (subst (λ (f : Contents). DebugAnswer w f later o) may a) in
    (o.text, subst (λ (s : Status). IsDebugged w held s o.text) (sym takes.0) (debugged w held o here), takes.1)

of_command : (before after : List DeviceState) (c : Option Command) (told : Option Contents) (first later : Contents) (given : List Served) (writes : Writes) (o : Outcome) (result : Status) (old new : Option (List ℕ)) → MayHold told first → MayHold told later
    → AnswersTo before after c first later given writes o → Takes result old new o → IfDebugged c result told old new
of_command before after (Some (Debug w)) told first later given writes o result old new may may_then a takes = told_debugged w told first later o result old new may may_then a.0 takes
of_command before after _ told first later given writes o result old new may may_then a takes = tt

of_answer : (before after : List DeviceState) (words : List (List ℕ)) (told told' : Option Contents) (o : Outcome) (result : Status) (old new : Option (List ℕ)) → Answered before after words told told' o → Takes result old new o → IfDebugged (command words) result told old new
unfolding IsAnswer
of_answer before after words told told' o result old new a takes = of_command before after (command words) told a.first a.later a.given a.writes o result old new a.may_first a.may_later a.answer takes

pub delivered_debugging : (before after : List DeviceState) (words : List (List ℕ)) (told told' : Option Contents) (result : Status) (old new : Option (List ℕ)) → UnlessFault result ((o : Outcome) × Answered before after words told told' o × Takes result old new o)
    → UnlessFault result (IfDebugged (command words) result told old new)
delivered_debugging before after words told told' result old new x =
    unless result ((o : Outcome) × Answered before after words told told' o × Takes result old new o) (IfDebugged (command words) result told old new) (λ a. of_answer before after words told told' a.0 result old new a.1 a.2) x
