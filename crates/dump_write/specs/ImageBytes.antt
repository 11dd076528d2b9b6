-- The canonical bytes of a dump.
use Rattle.std.specs.Prelude.{ℕ, ◌/◌, List, [], ◌∷◌, length, map, Option, Some, None, option_map}
use Rattle.wasm_syntax.specs.Numbers.{seen_of}
use Rattle.linear_memory.specs.Memory.{page_size}
use Rattle.dump_format.specs.declared.dump.Dump.{Dump as FormatDump}
use Rattle.dump_format.specs.declared.dump.Frame.{Frame as FormatFrame}
use Rattle.dump_format.specs.Region.{Region}
use Rattle.dump_write.specs.Canonical.{canonical_bytes}
use Rattle.dump_write.specs.Image.{DumpFrame, Dump}

-- of the one instance, which has the index 0; each value is recorded
abbrev pub frame_of : DumpFrame → FormatFrame
frame_of f = record { instance = 0; function = f.function; offset = f.offset; locals = map seen_of f.locals; operands = map seen_of f.operands }

-- the bytes of the memory in one segment
abbrev pub segments_of : Option (List ℕ) → List Region
segments_of None = []
segments_of (Some bytes) = record { at = 0; bytes = bytes } ∷ []

abbrev pub dump_of : Dump → FormatDump
dump_of d = record {
  name = d.name;
  modules = d.name ∷ [];
  instances = [];
  frames = map frame_of d.frames;
  memory = option_map (λ bytes. length bytes / page_size) d.memory;
  globals = d.globals;
  segments = segments_of d.memory;
}

abbrev pub bytes_of : Dump → List ℕ
bytes_of d = canonical_bytes (dump_of d)
