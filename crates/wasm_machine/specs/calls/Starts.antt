-- The start of an instance (Core 4.5.4).
use Rattle.std.specs.Prelude.{◌≡◌, ℕ, ◌≤◌, List, min, unwrap_or, Some, None, Result, Ok, Err}
use Rattle.machine_basics.specs.calls.Performs.{Holds}
use Rattle.wasm_syntax.specs.declared.parts.Limits.{Limits}
use Rattle.wasm_syntax.specs.declared.module.ModuleParts.{ModuleParts as Module}
use Rattle.wasm_syntax.specs.declared.host.Reply.{Reply}
use Rattle.wasm_syntax.specs.Host.{World}
use Rattle.wasm_syntax.specs.Run.{Cause, element_out, data_out, start_world, cause_of_segments}
use Rattle.wasm_machine.specs.declared.bounds.SegmentOut.{SegmentOut}
use Rattle.wasm_machine.specs.declared.bounds.SegmentOut.TheVariants as segments
use Rattle.wasm_machine.specs.declared.started.Started.{Started}
use Rattle.wasm_machine.specs.declared.started.StartFault.{StartFault}
use Rattle.wasm_machine.specs.declared.started.StartFault.TheVariants as faults

-- the most pages of a memory, and when it can begin
abbrev pub most_pages : Limits → ℕ
most_pages l = min 4096 (unwrap_or l.max 4096)

abbrev pub MayBegin : Limits → Type 0
MayBegin l = l.min ≤ most_pages l

-- the cause that a segment is
abbrev pub segment_cause : SegmentOut → Cause
segment_cause (segments.Element index) = element_out index
segment_cause (segments.Data index) = data_out index

-- the globals, the memory and the table are those of a world
pub record StandsFor (s : Started) (w : World) : Type 0 where
  pub shared : Holds s.shared w
  pub table : w.table ≡ s.table

-- The instance has all that a world has at the start, whatever the replies are, and no segment is out; or the first segment that is out
-- is this one. Where memory is wanting, no segment is out.
abbrev pub Starts : Result Started StartFault → Module → Type 0
Starts (Ok s) m = (cause_of_segments m ≡ None) × ((replies : List Reply) → StandsFor s (start_world m replies))
Starts (Err (faults.ElementOut index)) m = cause_of_segments m ≡ Some (element_out index)
Starts (Err (faults.DataOut index)) m = cause_of_segments m ≡ Some (data_out index)
Starts (Err faults.NoMemory) m = cause_of_segments m ≡ None
