-- Why nothing is run.
use Rattle.std.specs.Prelude.{ℕ, List, [], ◌∷◌, ◌++◌, Option, Some, None, codes}
use Rattle.std.specs.Fmt.{decimal}
use Rattle.pm_text.specs.Names.{quoted}
use Rattle.wasm_syntax.specs.declared.module.ModuleParts.{ModuleParts as Module}
use Rattle.wasm_syntax.specs.Module.{function_export}
use Rattle.wasm_syntax.specs.Run.{Cause, no_export, bad_arguments, element_out, data_out, cause_of_entry, Invocation}
use Rattle.commands.specs.Texts.{ended}
use Rattle.commands.specs.declared.outcome.Outcome.{Outcome}
use Rattle.commands.specs.declared.status.Status.TheVariants as status
use Rattle.wasm_machine.specs.declared.started.StartFault.{StartFault}
use Rattle.wasm_machine.specs.declared.started.StartFault.TheVariants.{ElementOut, DataOut, NoMemory}
use Rattle.std.specs.Option.{option_or}

abbrev pub not_started_with : List ℕ → Outcome
not_started_with cause = ended status.NotStarted (codes "not started: " ++ cause ++ codes "\n")

abbrev pub cause_text : List ℕ → Option Cause → Option (List ℕ)
cause_text name None = None
cause_text name (Some no_export) = Some (codes "export " ++ quoted name)
cause_text name (Some bad_arguments) = Some (codes "arguments")
cause_text name (Some (element_out i)) = Some (codes "element " ++ decimal i)
cause_text name (Some (data_out i)) = Some (codes "data " ++ decimal i)

-- by the first invocation that can't be made
abbrev pub entries_text : Module → List Invocation → Option (List ℕ)
entries_text m [] = None
entries_text m (i ∷ is) = option_or (cause_text i.name (cause_of_entry m (function_export m i.name) i.args)) (entries_text m is)

-- the cause that a segment is, which lies outside
abbrev pub segment_of : StartFault → Option Cause
segment_of (ElementOut i) = Some (element_out i)
segment_of (DataOut i) = Some (data_out i)
segment_of NoMemory = None
