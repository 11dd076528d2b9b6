-- Whether an entry holds an address (DWARF 4, 2.17).
use Rattle.std.specs.Prelude.{ℕ, ℤ, pos, ◌+ℤ◌, Option, Some, None, option_map, option_and_then, unwrap_or, Bool, false}
use Rattle.dwarf_info.specs.declared.entry.AttrValue.{AttrValue}
use Rattle.dwarf_info.specs.declared.entry.AttrValue.TheVariants.{Address}
use Rattle.dwarf_info.specs.declared.entry.Unit.{Unit as UnitTree}
use Rattle.dwarf_info.specs.declared.entry.Entry.{Entry}
use Rattle.dwarf_info.specs.Attributes.{attribute, valued, as_address, as_number, as_offset, low_pc, high_pc, ranges}
use Rattle.dwarf_info.specs.Sections.{SectionBytes5}
pub use Rattle.dwarf_loc.specs.Lists.{is_between}
use Rattle.dwarf_scopes.specs.Lists.{range_in}
use Rattle.dwarf_entries.specs.Standing.{Standing}

-- a high_pc: an address, or a constant that counts from low_pc; sums of addresses are whole numbers
abbrev pub high_from : ℕ → AttrValue → Option ℤ
high_from low (Address n) = Some (pos n)
high_from low v = option_map (λ z. pos low +ℤ z) (as_number v)

abbrev pub bounds_from : Entry → ℕ → Option (ℕ × ℤ)
bounds_from e low = option_map (λ high. (low, high)) (option_and_then (high_from low) (attribute high_pc e.attributes))

-- low_pc and high_pc, where the entry has both
abbrev pub bounds_of : Entry → Option (ℕ × ℤ)
bounds_of e = option_and_then (bounds_from e) (valued as_address low_pc e.attributes)

-- A list that can't be read holds no address.
abbrev pub in_list : SectionBytes5 → UnitTree → ℕ → Option ℕ → Bool
in_list s u address (Some at) = unwrap_or (range_in s u at address) false
in_list s u address None = false

abbrev pub holds_by : SectionBytes5 → Standing → ℕ → Option (ℕ × ℤ) → Bool
holds_by s x address (Some bounds) = is_between bounds address
holds_by s x address None = in_list s x.unit address (valued as_offset ranges x.entry.attributes)

-- from low_pc up to but not including high_pc, where it has both, else by its list
abbrev pub holds : SectionBytes5 → ℕ → Standing → Bool
holds s address x = holds_by s x address (bounds_of x.entry)
