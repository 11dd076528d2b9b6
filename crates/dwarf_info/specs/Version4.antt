-- Units of version 4 (DWARF 4, 7.5.1.1) and their abbreviations (7.5.3).
use Rattle.std.specs.Prelude.{ℕ, List, map, Some, None, Bool, ◌==◌, if◌then◌else◌}
use Rattle.wasm_bytes.specs.Place.{Place, Read}
use Rattle.wasm_bytes.specs.Reading.{◌⊗◌, mapped, checked}
use Rattle.dwarf_bytes.specs.Items.{number_item}
use Rattle.dwarf_abbrev.specs.declared.abbrev.Pair.{Pair}
use Rattle.dwarf_abbrev.specs.declared.abbrev.Abbrev.{Abbrev}
use Rattle.dwarf_abbrev.specs.Reading.{abbrevs_item}
use Rattle.dwarf_info.specs.declared.form.Slot.{Slot}
use Rattle.dwarf_info.specs.declared.form.Shape.{Shape}
use Rattle.dwarf_info.specs.declared.entry.UnitAnswer.{UnitAnswer}
use Rattle.dwarf_info.specs.Sections.{SectionBytes, without5}
use Rattle.dwarf_info.specs.Forms.{Rows, forms4, form_of}
use Rattle.dwarf_info.specs.Units.{Version, Versions, units_of}

abbrev pub slot_of : Rows → Pair → Slot
slot_of rows x = record { attribute = x.attribute; form = form_of rows x.form }

abbrev pub shape_in : Rows → Abbrev → Shape
shape_in rows a = record { code = a.code; tag = a.tag; children = a.children; slots = map (slot_of rows) a.pairs }

-- addresses have 4 bytes
abbrev pub is_address_size : ℕ → Bool
is_address_size n = n == 4

-- the offset of the abbreviations, and the size of an address
unfoldable pub header4_item : Place → Read ℕ
header4_item = mapped (λ x. x.0) (number_item 4 ⊗ checked is_address_size (number_item 1))

unfoldable pub shapes4_item : Place → Read (List Shape)
shapes4_item = mapped (map (shape_in forms4)) abbrevs_item

-- no form of version 4 is an index
abbrev pub version4 : Version
version4 = record { header = header4_item; shapes = shapes4_item; rows = forms4; index = λ s root table n. None }

-- version 4 alone
abbrev pub only4 : Versions
only4 version = if version == 4 then Some version4 else None

-- the units of a module whose units of version 4 are read
unfoldable pub units4 : SectionBytes → List UnitAnswer
units4 s = units_of (without5 s) only4
