-- What the canonical bytes of a dump say.
use Rattle.std.specs.Prelude.{◌≡◌, ◌≤◌, length, Ok}
use Rattle.wasm_syntax.specs.declared.quantity.Quantity.TheVariants.{DumpBytes, DumpPages, DumpFrames}
use Rattle.wasm_syntax.specs.Quantity.{greatest}
use Rattle.dump_format.specs.declared.dump.Dump.{Dump}
use Rattle.dump_format.specs.Form.{pages_of}
use Rattle.dump_format.specs.calls.Contained.{IsContained}
use Rattle.dump_format.specs.Decode.{dump_from}
use Rattle.dump_write.specs.Pages.{memory_bytes}
use Rattle.dump_write.specs.Canonical.{canonical, canonical_bytes}
use Rattle.dump_write.specs.calls.Typed.{IsTyped}

-- Within the limits of dumps, the canonical bytes are read as the canonical dump: it has the same name, size of memory, globals and
-- frames, but for their instance, which has the index 0.
abbrev pub ReadsBack : Dump → Type 0
ReadsBack d = IsTyped d → pages_of d.memory ≤ greatest DumpPages → length d.frames ≤ greatest DumpFrames → length (canonical_bytes d) ≤ greatest DumpBytes → dump_from (canonical_bytes d) ≡ Ok (canonical d)

-- The canonical dump has the same bytes of memory.
abbrev pub KeepsMemory : Dump → Type 0
KeepsMemory d = IsContained d → memory_bytes (canonical d) ≡ memory_bytes d
