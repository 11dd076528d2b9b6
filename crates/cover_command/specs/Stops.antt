-- What is left where memory is wanting, or where a file fails.
use Rattle.std.specs.Prelude.{◌≡◌, ℕ, ◌≤◌, ◌⊎◌, false, List, ◌++◌, Option, Some, None, Ok, unwrap_or, []}
use Rattle.pm_outside.specs.Contents.{Contents}
use Rattle.wasm_syntax.specs.declared.quantity.Quantity.TheVariants.{ModuleBytes}
use Rattle.wasm_syntax.specs.declared.host.Reply.{Reply}
use Rattle.wasm_syntax.specs.declared.host.Served.{Served}
use Rattle.wasm_syntax.specs.declared.module.ModuleParts.{ModuleParts as Module}
use Rattle.wasm_syntax.specs.Module.{Program, IsProgram, function_export}
use Rattle.wasm_syntax.specs.Valid.{Valid}
use Rattle.wasm_decode.specs.Decode.{module_from}
use Rattle.wasm_validate.specs.Heights.{AllLow}
use Rattle.host_devices.specs.Given.{replies_of}
use Rattle.host_set.specs.Sets.{DeviceState, names}
use Rattle.commands.specs.Inputs.{input_of}
use Rattle.commands.specs.Told.{OnContents}
use Rattle.run_words.specs.declared.cover.CoverWords.{CoverWords}
use Rattle.run_session.specs.Given.{given_to}
use Rattle.run_session.specs.Stop.{Stop, no_memory}
use Rattle.run_command.specs.Hosting.{scripted, start_text}
use Rattle.run_command.specs.RunAnswer.{Logs, hosting, script_of, replies_input}
use Rattle.run_command.specs.Stops.{NothingDone}
use Rattle.cover_command.specs.CoverAnswer.{covered_run, called, IsReadBy}

-- What the invocation comes to within some number of steps up to the fuel, on the replies that were given, those of the script being its first
-- ones.
pub record CoversFor (w : CoverWords) (m : Module) (script : Option (List Reply)) (before after : List DeviceState) : Type 0 where
  pub program : Program
  pub of_module : program.module_ ≡ m
  pub writes_out : IsProgram program
  pub function : ℕ
  pub exported : function_export m w.called.entry ≡ Some function
  pub fuel : ℕ
  pub within : fuel ≤ w.fuel
  pub given : List Served
  pub all_given : given ≡ given_to (covered_run program w function (replies_of given) fuel)
  pub left : List Reply
  pub by_script : unwrap_or script [] ≡ replies_of (scripted (names before) m.imports given) ++ left
  pub logs : Logs m given before after

-- Memory was wanting behind the start of the invocation: the bytes are read whole and spell a module that is taken, the replies are taken
-- too, and nothing hinders the start.
pub record StopsRun (w : CoverWords) (before after : List DeviceState) (held : Option Contents) : Type 0 where
  pub bytes : List ℕ
  pub read : OnContents held (λ first. input_of ModuleBytes w.source (first w.source) ≡ Ok bytes)
  pub replies : Option (List ℕ)
  pub replies_read : OnContents held (λ later. replies_input w.replies later ≡ Ok replies)
  pub decoded : Module
  pub spelled : module_from bytes ≡ Ok decoded
  pub valid : Valid decoded
  pub low : AllLow decoded
  pub script : Option (List Reply)
  pub script_is : script_of replies ≡ Ok script
  pub starts : start_text (hosting before script false) decoded (called w) ≡ None
  pub covers : CoversFor w decoded script before after

-- What `cover` leaves where it has no answer: no file is changed.
abbrev pub CoverStops : Stop → CoverWords → (before after : List DeviceState) → (old new : Option Contents) → Type 0
CoverStops stop w before after old new = NothingDone stop (IsReadBy w) before after old new ⊎ ((stop ≡ no_memory) × (new ≡ old) × StopsRun w before after old)
