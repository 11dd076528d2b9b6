-- Entries whose unit's line program is kept.
use Rattle.dwarf_entries.specs.Standing.{Standing}
use Rattle.debug_frames.specs.Information.{SourceInformation}
use Rattle.debug_frames.specs.Programs.{named_by}
use Rattle.debug_frames.specs.calls.Kept.{IsKept}

abbrev pub IsOfKept : SourceInformation → Standing → Type 0
IsOfKept x s = IsKept x.sections x.units (named_by s.unit.entries)
