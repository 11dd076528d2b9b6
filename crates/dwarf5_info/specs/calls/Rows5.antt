-- Tables of abbreviations of version 5, of fewer rows than a number (DWARF 5, 7.5.3).
use Rattle.std.specs.Prelude.{Option}
use Rattle.wasm_bytes.specs.Place.{Place, Read}
use Rattle.dwarf_abbrev.specs.Reading.{pair_item}
use Rattle.dwarf_info.specs.declared.form.Slot.{Slot}
use Rattle.dwarf_info.specs.calls.Keeping.{Rows, rows_of}
use Rattle.dwarf5_info.specs.Version5.{slot5_item}

abbrev pub pair5 : Place → Read (Option Slot)
pair5 = pair_item slot5_item

abbrev pub rows5 : Rows
rows5 = rows_of pair5
