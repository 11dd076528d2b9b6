-- An expression of a unit without `DW_OP_addrx`. Units of other versions than 5 have no addresses by index.
use Rattle.std.specs.Prelude.{List, ℕ, if◌then◌else◌}
use Rattle.dwarf_info.specs.declared.entry.Unit.{Unit as UnitTree}
use Rattle.dwarf_info.specs.Sections.{SectionBytes5}
use Rattle.dwarf_loc.specs.Addresses.{address_of}
use Rattle.dwarf5_info.specs.Lists.{is_version5, addresses_of}
use Rattle.dwarf5_info.specs.Plain.{plain}

abbrev pub plain_of : SectionBytes5 → UnitTree → List ℕ → List ℕ
plain_of s u expr = if is_version5 u then plain (address_of (addresses_of s u)) expr else expr
