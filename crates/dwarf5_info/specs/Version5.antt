-- Units of version 5 (DWARF 5, 7.5.1.1) and their abbreviations (7.5.3).
use Rattle.std.specs.Prelude.{ℕ, ℤ, List, Some, Bool, ◌==◌, ◌||◌, if◌then◌else◌}
use Rattle.wasm_bytes.specs.Place.{Place, Read}
use Rattle.wasm_bytes.specs.Reading.{◌⊗◌, mapped, checked, done_item, s64_item}
use Rattle.dwarf_bytes.specs.Items.{number_item}
use Rattle.dwarf_abbrev.specs.declared.abbrev.Pair.{Pair}
use Rattle.dwarf_abbrev.specs.Reading.{pair_item, table_item}
use Rattle.dwarf_info.specs.declared.form.Form.TheVariants.{Implicit}
use Rattle.dwarf_info.specs.declared.form.Slot.{Slot}
use Rattle.dwarf_info.specs.declared.form.Shape.{Shape}
use Rattle.dwarf_info.specs.declared.entry.UnitAnswer.{UnitAnswer}
use Rattle.dwarf_info.specs.Sections.{SectionBytes5}
use Rattle.dwarf_info.specs.Units.{Version, Versions, units_of}
use Rattle.dwarf_info.specs.Version4.{is_address_size, slot_of, only4}
use Rattle.dwarf5_info.specs.Forms5.{forms5}
use Rattle.dwarf5_info.specs.Indices.{index5}

-- compile and partial units
abbrev pub is_unit_type : ℕ → Bool
is_unit_type n = n == 0x01 || n == 0x03

-- the type of the unit, the size of an address, and the offset of the abbreviations
unfoldable pub header5_item : Place → Read ℕ
header5_item = mapped (λ x. x.1.1) (checked is_unit_type (number_item 1) ⊗ checked is_address_size (number_item 1) ⊗ number_item 4)

abbrev pub is_implicit : Pair → Bool
is_implicit x = x.form == 0x21

abbrev pub implicit_slot : Pair → ℤ → Slot
implicit_slot x z = record { attribute = x.attribute; form = Some (Implicit z) }

-- behind a pair: the value, where its form is implicit_const
abbrev pub slot5_item : Pair → Place → Read Slot
slot5_item x = if is_implicit x then mapped (implicit_slot x) s64_item else done_item (slot_of forms5 x)

abbrev pub shape5 : ℕ → ℕ → Bool → List Slot → Shape
shape5 code tag children slots = record { code = code; tag = tag; children = children; slots = slots }

unfoldable pub shapes5_item : Place → Read (List Shape)
shapes5_item = table_item shape5 (pair_item slot5_item)

abbrev pub version5 : Version
version5 = record { header = header5_item; shapes = shapes5_item; rows = forms5; index = index5 }

-- versions 4 and 5
abbrev pub up_to5 : Versions
up_to5 version = if version == 5 then Some version5 else only4 version

-- the units of a module whose units of versions 4 and 5 are read
unfoldable pub units5 : SectionBytes5 → List UnitAnswer
units5 s = units_of s up_to5
