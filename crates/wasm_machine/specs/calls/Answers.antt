-- Answers that may be a refusal.
use Rattle.std.specs.Prelude.{Option, Some, None, Result, Ok, Err}
use Rattle.wasm_machine.specs.declared.entries.EntryFault.{EntryFault}

-- why nothing was run, if so
abbrev pub fault_in : {A : Type 0} → Result A EntryFault → Option EntryFault
fault_in (Ok x) = None
fault_in (Err fault) = Some fault
