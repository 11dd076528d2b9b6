-- What a list of words leaves where it has no answer.
use Rattle.std.specs.Prelude.{◌≡◌, ◌⊎◌, ℕ, List, Option, Some, None}
use Rattle.pm_outside.specs.Contents.{Contents, SameBut}
use Rattle.pm_outside.specs.Created.{with_name}
use Rattle.pm_outside.specs.Written.{OnTold}
use Rattle.host_set.specs.Sets.{DeviceState}
use Rattle.run_session.specs.Stop.{Stop}
use Rattle.run_session.specs.Created.{CreatesOnly, IsRunName}
use Rattle.run_command.specs.Stops.{NothingDone, RunStops}
use Rattle.debug_command.specs.Answer.{IsReadBy}
use Rattle.replay_command.specs.ReplayAnswer.{IsReadBy as IsReplayed}
use Rattle.cover_command.specs.Stops.{CoverStops}
use Rattle.instrument_command.specs.Stops.{InstrumentStops}
use Rattle.selftest_command.specs.SelftestAnswer.{module_file, rewritten_file}
use Rattle.selftest_command.specs.Stops.{SameButBoth, CreatedBoth, SelftestStops}
use Rattle.pm_cli.specs.Words.{command}
use Rattle.pm_cli.specs.declared.words.Command.{Command}
use Rattle.pm_cli.specs.declared.words.Command.TheVariants.{Check, Run, Instrument, Show, Debug, Selftest, Replay, Cover}

-- However it ends, at most this file was written.
pub record IsQuietBut (out : List ℕ) (before after : List DeviceState) (old new : Option Contents) (created created' : List (List ℕ)) : Type 0 where
  pub devices : after ≡ before
  pub files : OnTold (SameBut out) old new
  pub names : (created' ≡ created) ⊎ (created' ≡ with_name created out)

-- However it ends, at most the two files of a self-test were written.
pub record IsQuietButBoth (before after : List DeviceState) (old new : Option Contents) (created created' : List (List ℕ)) : Type 0 where
  pub devices : after ≡ before
  pub files : OnTold (SameButBoth module_file rewritten_file) old new
  pub names : CreatedBoth module_file rewritten_file created created'

-- However it ends, `run` creates no file but those of its dumps and its record, `cover` calls devices alone, `instrument` and `selftest` write
-- their files alone, and every other command, and wrong words, leave all as it was.
abbrev pub Quiet : Option Command → (before after : List DeviceState) → (old new : Option Contents) → (created created' : List (List ℕ)) → Type 0
Quiet (Some (Run w)) before after old new created created' = CreatesOnly (IsRunName w) created created'
Quiet (Some (Cover w)) before after old new created created' = (new ≡ old) × (created' ≡ created)
Quiet (Some (Instrument m out)) before after old new created created' = IsQuietBut out before after old new created created'
Quiet (Some (Selftest n)) before after old new created created' = IsQuietButBoth before after old new created created'
Quiet _ before after old new created created' = (after ≡ before) × (new ≡ old) × (created' ≡ created)

-- Where the devices were so before and after, and files tell this before and then. Of the commands that call no device and write nothing, a
-- file that failed is one that is read.
abbrev pub CommandStops : Stop → Option Command → (before after : List DeviceState) → (old new : Option Contents) → Type 0
CommandStops stop (Some (Check m)) before after old new = NothingDone stop (λ file. file ≡ m) before after old new
CommandStops stop (Some (Run w)) before after old new = RunStops stop w before after old new
CommandStops stop (Some (Instrument m out)) before after old new = (after ≡ before) × InstrumentStops stop m out old new
CommandStops stop (Some (Show dump)) before after old new = NothingDone stop (λ file. file ≡ dump) before after old new
CommandStops stop (Some (Debug w)) before after old new = NothingDone stop (IsReadBy w) before after old new
CommandStops stop (Some (Selftest n)) before after old new = (after ≡ before) × SelftestStops stop n old new
CommandStops stop (Some (Replay w)) before after old new = NothingDone stop (IsReplayed w) before after old new
CommandStops stop (Some (Cover w)) before after old new = CoverStops stop w before after old new
CommandStops stop None before after old new = NothingDone stop (λ file. ⊥) before after old new

-- the same of the command that the words ask for
abbrev pub WordsStop : Stop → List (List ℕ) → (before after : List DeviceState) → (old new : Option Contents) → Type 0
WordsStop stop words before after old new = CommandStops stop (command words) before after old new
