-- The lists of a unit by its version: in `.debug_loc` and `.debug_ranges` (DWARF 4, 2.6.2 and 2.17.3), from version 5 on in `.debug_loclists` and `.debug_rnglists` (DWARF 5, 2.6.2 and 2.17.3).
use Rattle.std.specs.Prelude.{ℕ, Option, Bool, if◌then◌else◌}
use Rattle.dwarf_info.specs.declared.entry.Unit.{Unit as UnitTree}
use Rattle.dwarf_info.specs.Sections.{SectionBytes5}
use Rattle.dwarf_loc.specs.declared.contents.Span.{Span}
use Rattle.dwarf_loc.specs.Version4.{location4, range4}
pub use Rattle.dwarf5_info.specs.Lists.{is_version5}
use Rattle.dwarf5_info.specs.Lists.{list_base, location5_of, range5_of}

-- What the list at an offset says of an address. None where no list stands there.
abbrev pub location_in : SectionBytes5 → UnitTree → ℕ → ℕ → Option (Option Span)
location_in s u at address = if is_version5 u then location5_of s u at address else location4 s.base.loc at (list_base u) address

abbrev pub range_in : SectionBytes5 → UnitTree → ℕ → ℕ → Option Bool
range_in s u at address = if is_version5 u then range5_of s u at address else range4 s.base.ranges at (list_base u) address
