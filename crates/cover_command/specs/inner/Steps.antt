-- The steps of the command, from the last to the first: what they answer, and what they leave where memory is wanting.
use Rattle.std.specs.Prelude.{◌≡◌, ◌⊎◌, ℕ, false, List, [], Option, None, Result, Ok}
use Rattle.pm_outside.specs.Contents.{Contents}
use Rattle.wasm_syntax.specs.declared.host.Reply.{Reply}
use Rattle.wasm_syntax.specs.declared.host.Served.{Served}
use Rattle.wasm_syntax.specs.declared.module.ModuleParts.{ModuleParts as Module}
use Rattle.wasm_syntax.specs.Valid.{Valid}
use Rattle.wasm_decode.specs.Decode.{module_from}
use Rattle.wasm_validate.specs.Heights.{AllLow}
use Rattle.host_set.specs.Sets.{DeviceState}
use Rattle.commands.specs.Inputs.{Then}
use Rattle.commands.specs.Loading.{IfLoaded}
use Rattle.commands.specs.Told.{OnContents}
use Rattle.commands.specs.declared.outcome.Outcome.{Outcome}
use Rattle.run_words.specs.declared.cover.CoverWords.{CoverWords}
use Rattle.run_session.specs.Stop.{Stop, no_memory}
use Rattle.run_command.specs.Hosting.{start_text}
use Rattle.run_command.specs.Stops.{NothingDone}
use Rattle.run_command.specs.RunAnswer.{hosting, script_of, replies_input, IfRefusal}
use Rattle.cover_command.specs.CoverAnswer.{ModuleAnswer, called, IsReadBy}
use Rattle.cover_command.specs.Stops.{CoversFor}

-- this is answered, where the devices are these before and after; behind a refusal no device was called
pub record IsAnswered (Answers : List Served → Outcome → Type 0) (before after : List DeviceState) (o : Outcome) : Type 0 where
  pub given : List Served
  pub answer : Answers given o
  pub untouched : IfRefusal o.status ((after ≡ before) × (given ≡ []))

module _ (before after : List DeviceState) (w : CoverWords) where
  abbrev pub ScriptAnswer : Result (Option (List Reply)) Outcome → List ℕ → Module → List Served → Outcome → Type 0
  ScriptAnswer script bytes m given o = Then script (λ replies. ModuleAnswer before after w given replies bytes m) o

  abbrev pub BytesAnswer : Result (Option (List Reply)) Outcome → List ℕ → List Served → Outcome → Type 0
  BytesAnswer script bytes given o = IfLoaded (λ m. ScriptAnswer script bytes m given) (module_from bytes) o

  abbrev pub SourceAnswer : Contents → List ℕ → List Served → Outcome → Type 0
  SourceAnswer later bytes given o = Then (replies_input w.replies later) (λ script_bytes. BytesAnswer (script_of script_bytes) bytes given) o

  -- nothing hinders the start, and memory was wanting behind it
  abbrev pub ModuleStops : Module → Option (List Reply) → Type 0
  ModuleStops m script = (start_text (hosting before script false) m (called w) ≡ None) × CoversFor w m script before after

  abbrev pub ScriptStops : Module → Result (Option (List Reply)) Outcome → Type 0
  ScriptStops m script = (replies : Option (List Reply)) × (script ≡ Ok replies) × ModuleStops m replies

  -- the bytes spell a module that is taken
  abbrev pub BytesStops : List ℕ → Result (Option (List Reply)) Outcome → Type 0
  BytesStops bytes script = (m : Module) × ((module_from bytes ≡ Ok m) × Valid m × AllLow m) × ScriptStops m script

  abbrev pub SourceStops : List ℕ → Option Contents → Type 0
  SourceStops bytes held = OnContents held (λ later. (replies : Option (List ℕ)) × (replies_input w.replies later ≡ Ok replies) × BytesStops bytes (script_of replies))

  -- nothing was done, or memory was wanting where this is known
  abbrev pub StepStops : (old new : Option Contents) → Type 0 → Stop → Type 0
  StepStops old new P stop = NothingDone stop (IsReadBy w) before after old new ⊎ ((stop ≡ no_memory) × (new ≡ old) × P)
