-- What an entry says that is used, gathered from left to right.
use Rattle.std.specs.Prelude.{List, ◌==◌, if◌then◌else◌, Some}
use Rattle.wasm_bytes.specs.Place.{Place, Read}
use Rattle.wasm_bytes.specs.Reading.{mapped}
use Rattle.dwarf_bytes.specs.Items.{each_item}
use Rattle.dwarf5_line.specs.declared.entries.Pair.{Pair}
use Rattle.dwarf5_line.specs.declared.entries.Summary.{Summary}
use Rattle.dwarf5_line.specs.Entries.{Texts, Described, described_item, content_of}

abbrev pub summary_of : List Described → Summary
summary_of xs = record { path = content_of 1 xs; directory = content_of 2 xs }

abbrev pub summary_item : Texts → List Pair → Place → Read Summary
summary_item texts pairs = mapped summary_of (each_item (described_item texts) pairs)

-- the same with one in front
abbrev pub with_first : Described → Summary → Summary
with_first x s = record {
  path = if x.kind == 1 then Some x.content else s.path;
  directory = if x.kind == 2 then Some x.content else s.directory;
}
