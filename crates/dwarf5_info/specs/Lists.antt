-- What the lists of a unit of version 5 say of an address (DWARF 5, 2.6.2, 2.17.3 and 7.27).
use Rattle.std.specs.Prelude.{ℕ, Option, unwrap_or, Bool, ◌==◌}
use Rattle.dwarf_info.specs.declared.entry.Unit.{Unit as UnitTree}
use Rattle.dwarf_info.specs.Attributes.{valued, as_address, as_offset, low_pc, addr_base}
use Rattle.dwarf_info.specs.Entries.{root_attributes}
use Rattle.dwarf_info.specs.Sections.{SectionBytes5}
use Rattle.dwarf_loc.specs.declared.contents.Span.{Span}
use Rattle.dwarf_loc.specs.Addresses.{Table, table, address_of}
use Rattle.dwarf_loc.specs.Version5.{location5, range5}

abbrev pub is_version5 : UnitTree → Bool
is_version5 u = u.version == 5

-- the base from which the lists of a unit begin to count: the low_pc of its root, or 0
abbrev pub list_base : UnitTree → ℕ
list_base u = unwrap_or (valued as_address low_pc (root_attributes u.entries)) 0

-- the addresses of the indices of a unit, whose root says where they begin
abbrev pub addresses_of : SectionBytes5 → UnitTree → Table
addresses_of s u = table s.addr (valued as_offset addr_base (root_attributes u.entries))

-- What the list at an offset says of an address. None where no list stands there.
abbrev pub location5_of : SectionBytes5 → UnitTree → ℕ → ℕ → Option (Option Span)
location5_of s u at address = location5 s.loclists (address_of (addresses_of s u)) at (list_base u) address

abbrev pub range5_of : SectionBytes5 → UnitTree → ℕ → ℕ → Option Bool
range5_of s u at address = range5 s.rnglists (address_of (addresses_of s u)) at (list_base u) address
