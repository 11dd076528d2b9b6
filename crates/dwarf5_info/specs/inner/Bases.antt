-- The bases of the tables of a unit, as they are kept.
use Rattle.std.specs.Prelude.{ℕ, Option, option_and_then}
use Rattle.dwarf_info.specs.declared.form.IndexTable.{IndexTable}
use Rattle.dwarf_info.specs.declared.form.IndexTable.TheVariants.{Texts, Addresses, LocationLists, RangeLists}
use Rattle.dwarf_info.specs.declared.entry.AttrValue.{AttrValue}
use Rattle.dwarf_info.specs.Sections.{SectionBytes5}
use Rattle.dwarf5_info.specs.declared.indices.Bases.{Bases}
use Rattle.dwarf5_info.specs.Indices.{from_table}

abbrev pub base_in : Bases → IndexTable → Option ℕ
base_in bases Texts = bases.texts
base_in bases Addresses = bases.addresses
base_in bases LocationLists = bases.location_lists
base_in bases RangeLists = bases.range_lists

-- what an index stands for
abbrev pub looked_up : SectionBytes5 → Bases → IndexTable → ℕ → Option AttrValue
looked_up s bases table i = option_and_then (from_table s table i) (base_in bases table)
