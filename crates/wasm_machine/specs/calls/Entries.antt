-- Why an entry may not be invoked (Core 4.5.5).
use Rattle.std.specs.Prelude.{ℕ, Bool, false, List, map, slice_get, Option, Some, None}
use Rattle.wasm_syntax.specs.declared.value.Value.{Value}
use Rattle.wasm_syntax.specs.declared.parts.Import.{Import}
use Rattle.wasm_syntax.specs.declared.parts.FuncType.{FuncType}
use Rattle.wasm_syntax.specs.declared.module.ModuleParts.{ModuleParts as Module}
use Rattle.wasm_syntax.specs.Module.{function_export}
use Rattle.wasm_syntax.specs.Run.{Cause, no_export, bad_arguments, element_out, data_out, cause_of_entry, first_false}
use Rattle.wasm_machine.specs.declared.entries.EntryFault.{EntryFault}
use Rattle.wasm_machine.specs.declared.entries.EntryFault.TheVariants.{NoExport, BadArguments, Unserved}

abbrev pub serves_type : (Import → FuncType → Bool) → Import → Option FuncType → Bool
serves_type serving i None = false
serves_type serving i (Some type) = serving i type

-- an import is served with the type that the module gives it
abbrev pub is_served : (Import → FuncType → Bool) → Module → Import → Bool
is_served serving m i = serves_type serving i (slice_get m.types i.ftype)

-- the number of the first import that nobody serves
abbrev pub first_unserved : (Import → FuncType → Bool) → Module → Option ℕ
first_unserved serving m = first_false 0 (map (is_served serving m) m.imports)

abbrev pub unserved : Option ℕ → Option EntryFault
unserved None = None
unserved (Some i) = Some (Unserved i)

-- the cause of an entry, or else another fault; a cause of segments is none of an entry
abbrev pub fault_or : Option Cause → Option EntryFault → Option EntryFault
fault_or None other = other
fault_or (Some no_export) other = Some NoExport
fault_or (Some bad_arguments) other = Some BadArguments
fault_or (Some (element_out i)) other = other
fault_or (Some (data_out i)) other = other

-- the first of these: no export, arguments that do not fit, an import that nobody serves
abbrev pub entry_fault : (Import → FuncType → Bool) → Module → (name : List ℕ) → List Value → Option EntryFault
entry_fault serving m name args = fault_or (cause_of_entry m (function_export m name) args) (unserved (first_unserved serving m))
