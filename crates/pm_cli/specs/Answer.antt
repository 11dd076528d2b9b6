-- What a list of words gets: status and text, written files, and what devices log; where files tell nothing, for some contents of them.
use Rattle.std.specs.Prelude.{◌≡◌, ℕ, List, [], ◌++◌, map, Option, Some, None, IfSome, Result, Ok, Err, take}
use Rattle.pm_outside.specs.Contents.{Contents}
use Rattle.wasm_syntax.specs.declared.quantity.Quantity.TheVariants.{ModuleBytes, DumpBytes}
use Rattle.dump_format.specs.declared.dump.Dump.{Dump}
use Rattle.dump_format.specs.declared.fault.DumpFault.{DumpFault}
use Rattle.dump_format.specs.Decode.{dump_from}
use Rattle.wasm_syntax.specs.declared.module.ModuleParts.{ModuleParts as Module}
use Rattle.wasm_decode.specs.Decode.{module_from}
use Rattle.wasm_syntax.specs.declared.host.Served.{Served}
use Rattle.host_set.specs.Sets.{DeviceState}
use Rattle.pm_outside.specs.Held.{Writes}
use Rattle.run_command.specs.RunAnswer.{RunAnswer, IsUntouched, AnsweredOn}
use Rattle.instrument_command.specs.InstrumentAnswer.{InstrumentAnswer}
use Rattle.instrument_command.specs.Headline.{HoldsRewriting}
use Rattle.pm_outside.specs.Written.{OnTold}
use Rattle.commands.specs.Refused.{refused}
use Rattle.debug_command.specs.Answer.{DebugAnswer}
use Rattle.debug_command.specs.Headline.{IsDebugged}
use Rattle.selftest_command.specs.SelftestAnswer.{SelftestAnswer, OneDump}
use Rattle.replay_command.specs.ReplayAnswer.{ReplayAnswer}
use Rattle.cover_command.specs.CoverAnswer.{CoverAnswer}
use Rattle.pm_cli.specs.Check.{counted}
use Rattle.commands.specs.Loading.{IfLoaded}
use Rattle.commands.specs.Inputs.{input_of, Then}
use Rattle.pm_cli.specs.Show.{show_text}
use Rattle.commands.specs.Texts.{ended, usage}
use Rattle.pm_cli.specs.Words.{command}
use Rattle.commands.specs.declared.outcome.Outcome.{Outcome}
use Rattle.commands.specs.declared.status.Status.{Status}
use Rattle.commands.specs.declared.status.Status.TheVariants as status
use Rattle.pm_cli.specs.declared.words.Command.{Command}
use Rattle.pm_cli.specs.declared.words.Command.TheVariants.{Check, Run, Instrument, Show, Debug, Selftest, Replay, Cover}

abbrev pub shown : Result Dump DumpFault → Outcome
shown (Ok dump) = ended status.Done (show_text dump)
shown (Err fault) = refused fault

-- the answer to `show` of a file with this content
abbrev pub ShowAnswer : List ℕ → Option (List ℕ) → Outcome → Type 0
ShowAnswer file content o = Then (input_of DumpBytes file content) (λ bytes o. o ≡ shown (dump_from bytes)) o

abbrev pub checked : Module → Outcome → Type 0
checked m o = o ≡ counted m

-- the answer to `check` of a file with this content
abbrev pub CheckAnswer : List ℕ → Option (List ℕ) → Outcome → Type 0
CheckAnswer file content o = Then (input_of ModuleBytes file content) (λ bytes. IfLoaded checked (module_from bytes)) o

-- no device was called
abbrev pub IsUncalled : (before after : List DeviceState) → List Served → Type 0
IsUncalled before after given = (after ≡ before) × (given ≡ [])

-- The answer to a command, where the devices were so before and after, files hold this when the first one is read and that when the second one
-- is, these replies were given, and these files written.
abbrev pub AnswersTo : (before after : List DeviceState) → Option Command → (first later : Contents) → List Served → Writes → Outcome → Type 0
AnswersTo before after (Some (Check m)) first later given writes o = CheckAnswer m (first m) o × IsUntouched before after given writes
AnswersTo before after (Some (Run w)) first later given writes o = RunAnswer before after w first later given writes o
AnswersTo before after (Some (Instrument m out)) first later given writes o = InstrumentAnswer m out first writes o × IsUncalled before after given
AnswersTo before after (Some (Show dump)) first later given writes o = ShowAnswer dump (first dump) o × IsUntouched before after given writes
AnswersTo before after (Some (Debug w)) first later given writes o = DebugAnswer w first later o × IsUntouched before after given writes
AnswersTo before after (Some (Selftest n)) first later given writes o = SelftestAnswer n writes o × IsUncalled before after given
AnswersTo before after (Some (Replay w)) first later given writes o = ReplayAnswer w first later o × IsUntouched before after given writes
AnswersTo before after (Some (Cover w)) first later given writes o = CoverAnswer before after w first later given writes o
AnswersTo before after None first later given writes o = (o ≡ usage) × IsUntouched before after given writes

-- this is the answer to a list of words
unfoldable pub IsAnswer : (before after : List DeviceState) → List (List ℕ) → (first later : Contents) → List Served → Writes → Outcome → Type 0
IsAnswer before after words first later given writes o = AnswersTo before after (command words) first later given writes o

-- The words are answered, where files tell this before and then. Where they tell nothing there are contents on which this is the answer.
abbrev pub Answered : (before after : List DeviceState) → List (List ℕ) → (old new : Option Contents) → Outcome → Type 0
Answered before after words old new o = AnsweredOn (IsAnswer before after words) old new o

-- what files hold before and then where `instrument` is done, where they tell it
abbrev pub IfRewritten : Option Command → (old new : Option Contents) → Type 0
IfRewritten (Some (Instrument m out)) old new = OnTold (HoldsRewriting m out) old new
IfRewritten _ old new = Unit {0}

-- What files hold where `debug` is done, and where it answers a mismatch, with the text that the output takes, where they tell it.
abbrev pub IfDebugged : Option Command → Status → Option Contents → (before after : Option (List ℕ)) → Type 0
IfDebugged (Some (Debug w)) s told before after =
    IfSome told (λ held. (text : List ℕ) × IsDebugged w held s text × IfSome before (λ old. after ≡ Some (old ++ text)))
IfDebugged _ s told before after = Unit {0}

-- The answers are the same; those to `selftest` tell of the same dump, and of the same number of steps where the same is written.
abbrev pub SameAnswer : Option Command → (x y : Writes) → (a b : Outcome) → Type 0
SameAnswer (Some (Selftest n)) x y a b = OneDump n x y a b
SameAnswer _ x y a b = a ≡ b

-- The same files are written with the same bytes; of the file that `instrument` writes, and of the second one of `selftest`, the names are the same.
abbrev pub SameWrites : Option Command → (one other : Writes) → Type 0
SameWrites (Some (Instrument m out)) one other = map (λ w. w.0) one ≡ map (λ w. w.0) other
SameWrites (Some (Selftest n)) one other = (map (λ w. w.0) one ≡ map (λ w. w.0) other) × (take 1 one ≡ take 1 other)
SameWrites _ one other = one ≡ other
