-- Tables of abbreviations of version 4, of fewer rows than a number (DWARF 4, 7.5.3).
use Rattle.std.specs.Prelude.{Option}
use Rattle.wasm_bytes.specs.Place.{Place, Read}
use Rattle.wasm_bytes.specs.Reading.{done_item}
use Rattle.dwarf_abbrev.specs.Reading.{pair_item}
use Rattle.dwarf_info.specs.declared.form.Slot.{Slot}
use Rattle.dwarf_info.specs.Forms.{forms4}
use Rattle.dwarf_info.specs.Version4.{slot_of}
use Rattle.dwarf_info.specs.calls.Keeping.{Rows, rows_of}

abbrev pub pair4 : Place → Read (Option Slot)
pair4 = pair_item (λ x. done_item (slot_of forms4 x))

abbrev pub rows4 : Rows
rows4 = rows_of pair4
