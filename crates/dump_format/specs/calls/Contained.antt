-- What holds of each dump that is read.
use Rattle.std.specs.Prelude.{◌+◌, ◌*◌, ◌^◌, ◌<◌, ◌≤◌, length, All}
use Rattle.wasm_syntax.specs.declared.quantity.Quantity.TheVariants.{DumpPages, DumpFrames}
use Rattle.wasm_syntax.specs.Quantity.{greatest}
use Rattle.dump_format.specs.declared.dump.Dump.{Dump}
use Rattle.dump_format.specs.Form.{pages_of}

-- Each segment ends at or before the end of the memory.
abbrev pub IsContained : Dump → Type 0
IsContained d = All (λ r. r.at + length r.bytes ≤ 65536 * pages_of d.memory) d.segments

-- The numbers of pages, frames and globals are within their limits.
pub record IsLimited (d : Dump) : Type 0 where
  pub pages : pages_of d.memory ≤ greatest DumpPages
  pub frames : length d.frames ≤ greatest DumpFrames
  pub globals : length d.globals < 2 ^ 32
