-- The bytes that spell units of versions 4 and 5.
use Rattle.std.specs.Prelude.{◌≡◌, ℕ, ℤ, List, Bool, true, false, ◌==◌}
use Rattle.wasm_bytes.specs.calls.Spelling.{Spellings, ◌&◌, passing, only, s64}
use Rattle.dwarf_bytes.specs.calls.Spelled.{number}
use Rattle.dwarf_abbrev.specs.declared.abbrev.Pair.{Pair}
use Rattle.dwarf_abbrev.specs.calls.Grammar.{pair, table}
use Rattle.dwarf_info.specs.declared.form.Slot.{Slot}
use Rattle.dwarf_info.specs.declared.form.Shape.{Shape}
use Rattle.dwarf_info.specs.declared.entry.UnitAnswer.{UnitAnswer}
use Rattle.dwarf_info.specs.Sections.{SectionBytes5}
use Rattle.dwarf_info.specs.Version4.{slot_of}
use Rattle.dwarf_info.specs.calls.Grammar.{Grammars, IsUnits}
use Rattle.dwarf_info.specs.calls.Grammar4.{header4, shapes4}
use Rattle.dwarf5_info.specs.Forms5.{forms5}
use Rattle.dwarf5_info.specs.Version5.{is_unit_type, is_implicit, implicit_slot, shape5, up_to5}

abbrev pub header5 : ℕ → Spellings
header5 offset at bytes = (type : ℕ) × (passing is_unit_type (number 1) type & number 1 4 & number 4 offset) at bytes

-- A pair is followed by its value where its form is implicit_const.
abbrev pub slot_if : Bool → Pair → Slot → Spellings
slot_if true x s at bytes = (z : ℤ) × (s ≡ implicit_slot x z) × s64 z at bytes
slot_if false x s at bytes = only (slot_of forms5 x) s at bytes

abbrev pub slot5 : Pair → Slot → Spellings
slot5 x = slot_if (is_implicit x) x

abbrev pub shapes5 : List Shape → Spellings
shapes5 = table shape5 (pair slot5)

abbrev pub header_if : Bool → ℕ → Spellings
header_if true = header5
header_if false = header4

abbrev pub shapes_if : Bool → List Shape → Spellings
shapes_if true = shapes5
shapes_if false = shapes4

abbrev pub grammars5 : Grammars
grammars5 = record { versions = up_to5; header = λ version. header_if (version == 5); shapes = λ version. shapes_if (version == 5) }

abbrev pub IsUnits5 : SectionBytes5 → List UnitAnswer → Type 0
IsUnits5 s = IsUnits s grammars5
