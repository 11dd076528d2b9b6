-- Why nothing is run, by what a host side serves.
use Rattle.std.specs.Prelude.{◌≡◌, ℕ, List, [], ◌++◌, Bool, Option, Some, None, codes}
use Rattle.pm_text.specs.Names.{quoted}
use Rattle.wasm_syntax.specs.declared.parts.Import.{Import}
use Rattle.wasm_syntax.specs.declared.parts.FuncType.{FuncType}
use Rattle.wasm_syntax.specs.declared.module.ModuleParts.{ModuleParts as Module}
use Rattle.wasm_syntax.specs.Run.{Invocation, cause_of_segments}
use Rattle.wasm_machine.specs.declared.entries.EntryFault.{EntryFault}
use Rattle.wasm_machine.specs.declared.entries.EntryFault.TheVariants.{NoExport, BadArguments, Unserved}
use Rattle.wasm_machine.specs.calls.Entries.{first_unserved}
use Rattle.wasm_machine.specs.calls.Instances.{State, IsNew}
use Rattle.run_command.specs.Starting.{cause_text, entries_text, not_started_with}
use Rattle.run_command.specs.Hosting.{import_text}
use Rattle.commands.specs.declared.given.Given.{Given}
use Rattle.commands.specs.declared.given.Given.TheVariants.{Value, Refused}
use Rattle.std.specs.Option.{option_or}

-- the cause of an invocation by itself; that an import is not served comes behind those of all invocations
abbrev pub fault_text : List ℕ → Option EntryFault → Option (List ℕ)
fault_text name None = None
fault_text name (Some NoExport) = Some (codes "export " ++ quoted name)
fault_text name (Some BadArguments) = Some (codes "arguments")
fault_text name (Some (Unserved i)) = None

abbrev pub import_in : Option EntryFault → Option ℕ
import_in None = None
import_in (Some NoExport) = None
import_in (Some BadArguments) = None
import_in (Some (Unserved i)) = Some i

-- the invocations in order, the imports, the segments
abbrev pub start_cause : (Import → FuncType → Bool) → Module → List Invocation → Option (List ℕ)
start_cause serving m is = option_or (entries_text m is) (option_or (import_text (first_unserved serving m)) (cause_text [] (cause_of_segments m)))

-- a new instance of the module, where nothing hinders its start; or the answer that tells the cause
abbrev pub HasBegun : (Import → FuncType → Bool) → Module → List Invocation → Given State → Type 0
HasBegun serving m is (Value s) = (start_cause serving m is ≡ None) × (cause_of_segments m ≡ None) × IsNew m s
HasBegun serving m is (Refused o) = (cause : List ℕ) × (start_cause serving m is ≡ Some cause) × (o ≡ not_started_with cause)
