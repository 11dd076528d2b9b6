-- How a run starts.
use Rattle.std.specs.Prelude.{◌≡◌, Option, Some, None, Result, Ok, Err}
use Rattle.wasm_machine.specs.declared.started.StartFault.{StartFault}
use Rattle.wasm_machine.specs.declared.started.StartFault.TheVariants as starts
use Rattle.wasm_machine.specs.declared.entries.EntryFault.{EntryFault}
use Rattle.wasm_machine.specs.declared.entries.EntryFault.TheVariants as entries
use Rattle.wasm_machine.specs.calls.Instances.{State, IsNew}
use Rattle.replay.specs.declared.fault.StartRefusal.{StartRefusal}
use Rattle.replay.specs.declared.fault.StartRefusal.TheVariants as faults
use Rattle.replay.specs.Replays.{Recording, cause_in}
use Rattle.replay.specs.Moves.{IsFault}

-- why an entry may not be invoked, where each import is served
abbrev pub early : Option EntryFault → Option StartRefusal
early None = None
early (Some entries.NoExport) = Some faults.NoExport
early (Some entries.BadArguments) = Some faults.BadArguments
early (Some (entries.Unserved i)) = None

abbrev pub of_segments : StartFault → StartRefusal
of_segments (starts.ElementOut i) = faults.ElementOut i
of_segments (starts.DataOut i) = faults.DataOut i
of_segments starts.NoMemory = faults.NoMemory

-- a new instance, where the run starts
abbrev pub Started : Result State StartRefusal → Recording → Type 0
Started (Ok s) x = (cause_in x ≡ None) × IsNew x.module_ s
Started (Err fault) x = IsFault fault x
