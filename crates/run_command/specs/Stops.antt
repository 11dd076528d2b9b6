-- What is left where memory is wanting, or where a file fails.
use Rattle.std.specs.Prelude.{◌≡◌, ℕ, ◌≤◌, ◌⊎◌, List, ◌++◌, map, take, Option, Some, None, Result, Ok, unwrap_or, []}
use Rattle.pm_outside.specs.Contents.{Contents}
use Rattle.wasm_syntax.specs.declared.quantity.Quantity.TheVariants.{ModuleBytes}
use Rattle.wasm_syntax.specs.declared.host.Reply.{Reply}
use Rattle.wasm_syntax.specs.declared.host.Served.{Served}
use Rattle.wasm_syntax.specs.declared.host.CollectorCall.{CollectorCall}
use Rattle.wasm_syntax.specs.declared.module.ModuleParts.{ModuleParts as Module}
use Rattle.wasm_syntax.specs.Module.{Program, IsProgram}
use Rattle.wasm_syntax.specs.Valid.{Valid}
use Rattle.wasm_syntax.specs.Run.{Invocation, Ran, run}
use Rattle.wasm_decode.specs.Decode.{module_from}
use Rattle.wasm_validate.specs.Heights.{AllLow}
use Rattle.pm_outside.specs.Written.{OnTold}
use Rattle.host_devices.specs.Given.{replies_of}
use Rattle.host_set.specs.Sets.{DeviceState, names}
use Rattle.commands.specs.Inputs.{input_of}
use Rattle.commands.specs.Told.{OnContents}
use Rattle.commands.specs.declared.outcome.Outcome.{Outcome}
use Rattle.run_words.specs.declared.words.RunWords.{RunWords}
use Rattle.run_session.specs.Stop.{Stop, no_memory, file_failed, EndsAtDump}
use Rattle.run_session.specs.Delivery.{Delivery, IsDelivery}
use Rattle.run_session.specs.Telling.{tells}
use Rattle.run_session.specs.RunText.{up_to_torn, dumps_from, last_of}
use Rattle.run_session.specs.Given.{given_in}
use Rattle.pm_outside.specs.Held.{Writes, HoldPart}
use Rattle.run_session.specs.Invocations.{invocation_of, depth_of}
use Rattle.run_command.specs.Hosting.{scripted, start_text}
use Rattle.run_command.specs.Recorded.{recorded}
use Rattle.run_command.specs.RunAnswer.{Logs, EndUsesUp, EndHasFailed, IsReadBy, hosting, replies_input, script_of}

-- ---- what was run

-- What these invocations come to within so many steps, on the replies that were given, those of the script being its first ones. These files
-- are written, but the last one may be there in part.
pub record RunsFor (deliver : List CollectorCall → Delivery) (w : RunWords) (m : Module) (script : Option (List Reply)) (is : List Invocation) (fuel : ℕ) (rans : List Ran) (writes : Writes) (before after : List DeviceState) (old new : Option Contents) : Type 0 where
  pub program : Program
  pub of_module : program.module_ ≡ m
  pub writes_out : IsProgram program
  pub given : List Served
  pub delivers : IsDelivery deliver
  pub runs : rans ≡ up_to_torn (tells w.collect deliver) (run program w.collect is (replies_of given) (depth_of w) fuel)
  pub all_given : given ≡ given_in rans
  pub left : List Reply
  pub by_script : unwrap_or script [] ≡ replies_of (scripted (names before) m.imports given) ++ left
  pub logs : Logs m given before after
  pub files : OnTold (HoldPart writes) old new

-- the dumps of the traps of these invocations
abbrev pub dumps_of : (List CollectorCall → Delivery) → RunWords → List Ran → Writes
dumps_of deliver w rans = dumps_from (tells w.collect deliver) w.dump w.name 0 rans

-- the whole run, which ended as an answer tells it, with its dumps; the record behind them may be there in part
abbrev pub StopsRecord : RunWords → Module → Option (List Reply) → (before after : List DeviceState) → (old new : Option Contents) → Type 0
StopsRecord w m script before after old new =
    (deliver : List CollectorCall → Delivery) × (rans : List Ran)
    × (x : RunsFor deliver w m script (map invocation_of w.invocations) w.fuel rans (dumps_of deliver w rans ++ recorded w.log_to rans) before after old new)
    × EndUsesUp (hosting before script w.collect) m x.left (last_of rans) × EndHasFailed before after m (last_of rans)

-- all invocations, for some number of steps up to the fuel; or the invocations up to one that trapped, the file of whose dump failed; or the
-- record was not written
abbrev pub StopsRun : Stop → RunWords → Module → Option (List Reply) → (before after : List DeviceState) → (old new : Option Contents) → Type 0
StopsRun no_memory w m script before after old new =
    ((deliver : List CollectorCall → Delivery) × (fuel : ℕ) × (fuel ≤ w.fuel) × (rans : List Ran) × RunsFor deliver w m script (map invocation_of w.invocations) fuel rans (dumps_of deliver w rans) before after old new)
    ⊎ StopsRecord w m script before after old new
StopsRun (file_failed file) w m script before after old new =
    ((deliver : List CollectorCall → Delivery) × (made : ℕ) × (rans : List Ran) × EndsAtDump (tells w.collect deliver) w.dump 0 rans file
    × RunsFor deliver w m script (take made (map invocation_of w.invocations)) w.fuel rans (dumps_of deliver w rans) before after old new)
    ⊎ ((w.log_to ≡ Some file) × StopsRecord w m script before after old new)

-- ---- the steps of the command, from the last to the first

-- a fact on the file that failed, where one did
abbrev pub OnFile : Stop → (List ℕ → Type 0) → Type 0
OnFile no_memory P = Unit {0}
OnFile (file_failed file) P = P file

-- No device was called, and all files are as before. A file that failed is one that is read.
pub record NothingDone (stop : Stop) (IsRead : List ℕ → Type 0) (before after : List DeviceState) (old new : Option Contents) : Type 0 where
  pub devices : after ≡ before
  pub files : new ≡ old
  pub file : OnFile stop IsRead

-- nothing hinders the start of this module with this script
abbrev pub ModuleStops : Stop → RunWords → Module → Option (List Reply) → (before after : List DeviceState) → (old new : Option Contents) → Type 0
ModuleStops stop w m script before after old new =
    (start_text (hosting before script w.collect) m (map invocation_of w.invocations) ≡ None) × StopsRun stop w m script before after old new

abbrev pub ScriptStops : Stop → RunWords → Module → Result (Option (List Reply)) Outcome → (before after : List DeviceState) → (old new : Option Contents) → Type 0
ScriptStops stop w m script before after old new = (replies : Option (List Reply)) × (script ≡ Ok replies) × ModuleStops stop w m replies before after old new

-- the bytes spell a module that is taken
abbrev pub BytesStops : Stop → RunWords → List ℕ → Result (Option (List Reply)) Outcome → (before after : List DeviceState) → (old new : Option Contents) → Type 0
BytesStops stop w bytes script before after old new =
    (m : Module) × ((module_from bytes ≡ Ok m) × Valid m × AllLow m) × ScriptStops stop w m script before after old new

abbrev pub SourceStops : Stop → RunWords → List ℕ → (before after : List DeviceState) → (old new : Option Contents) → Type 0
SourceStops stop w bytes before after old new =
    OnContents old (λ later. (replies : Option (List ℕ)) × (replies_input w.replies later ≡ Ok replies) × BytesStops stop w bytes (script_of replies) before after old new)

abbrev pub FileStops : Stop → RunWords → (before after : List DeviceState) → (old new : Option Contents) → Type 0
FileStops stop w before after old new =
    OnContents old (λ first. (bytes : List ℕ) × (input_of ModuleBytes w.source (first w.source) ≡ Ok bytes) × SourceStops stop w bytes before after old new)

-- What `run` leaves where it has no answer.
abbrev pub RunStops : Stop → RunWords → (before after : List DeviceState) → (old new : Option Contents) → Type 0
RunStops stop w before after old new = NothingDone stop (IsReadBy w) before after old new ⊎ FileStops stop w before after old new
