-- Files of replies that were read, and what comes behind them.
use Rattle.std.specs.Prelude.{◌≡◌, ℕ, List, Option, Some, Result, Ok, Err}
use Rattle.pm_outside.specs.Contents.{Contents}
use Rattle.causes.specs.Counts.{Rose}
use Rattle.wasm_syntax.specs.declared.host.Reply.{Reply}
use Rattle.wasm_syntax.specs.declared.host.Served.{Served}
use Rattle.wasm_syntax.specs.declared.module.ModuleParts.{ModuleParts as Module}
use Rattle.wasm_decode.specs.Decode.{module_from}
use Rattle.host_set.specs.Sets.{DeviceState}
use Rattle.run_words.specs.declared.words.RunWords.{RunWords}
use Rattle.commands.specs.Inputs.{Then}
use Rattle.commands.specs.Loading.{IfLoaded}
use Rattle.commands.specs.calls.Given.{IsGiven}
use Rattle.commands.specs.Texts.{file_fault}
use Rattle.commands.specs.declared.outcome.Outcome.{Outcome}
use Rattle.commands.specs.declared.status.Status.TheVariants as status
use Rattle.pm_outside.specs.Held.{Writes}
use Rattle.run_command.specs.declared.scripts.Script.{Script}
use Rattle.run_command.specs.declared.scripts.Script.TheVariants.{Whole, Bad}
use Rattle.commands.specs.declared.given.Given.{Given}
use Rattle.run_command.specs.RunAnswer.{IsReadBy, ModuleAnswer, replies_input, bad_replies, script_of}

-- the replies, where there are any, or the refusal that names a line
abbrev pub script_result : Script → Result (Option (List Reply)) Outcome
script_result (Whole script) = Ok script
script_result (Bad line) = Err (bad_replies line)

-- this came of the bytes of the file of replies, but for a fault
abbrev pub IsAsked : Given Script → Result (Option (List ℕ)) Outcome → Type 0
IsAsked given input = IsGiven (λ script input. (bytes : Option (List ℕ)) × (input ≡ Ok bytes) × (script_result script ≡ script_of bytes)) given input

-- a fault of the file of replies names it, and was counted
abbrev pub IsRepliesFault : Option (List ℕ) → (before now : ℕ) → Outcome → Type 0
IsRepliesFault replies before now o = o.status ≡ status.FileFault → ((file : List ℕ) × (replies ≡ Some file) × (o ≡ file_fault file)) × Rose before now

-- a fault of a file that is read names it, and was counted
abbrev pub IsReadFault : RunWords → (before now : ℕ) → Outcome → Type 0
IsReadFault w before now o = o.status ≡ status.FileFault → ((file : List ℕ) × IsReadBy w file × (o ≡ file_fault file)) × Rose before now

-- ---- the steps of the command, from the last to the first

abbrev pub ScriptAnswer : (before after : List DeviceState) → RunWords → List Served → Writes → Result (Option (List Reply)) Outcome → Module → Outcome → Type 0
ScriptAnswer before after w given writes script m o = Then script (λ replies. ModuleAnswer before after w given writes replies m) o

abbrev pub BytesAnswer : (before after : List DeviceState) → RunWords → List Served → Writes → Result (Option (List Reply)) Outcome → List ℕ → Outcome → Type 0
BytesAnswer before after w given writes script bytes o = IfLoaded (ScriptAnswer before after w given writes script) (module_from bytes) o

abbrev pub SourceAnswer : (before after : List DeviceState) → RunWords → Contents → List Served → Writes → List ℕ → Outcome → Type 0
SourceAnswer before after w later given writes bytes o =
    Then (replies_input w.replies later) (λ script_bytes. BytesAnswer before after w given writes (script_of script_bytes) bytes) o
