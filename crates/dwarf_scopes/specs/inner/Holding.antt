-- What finds the first entry that holds an address.
use Rattle.std.specs.Prelude.{ℕ, ℤ, List}
use Rattle.std.specs.Option.{option_to_list}
use Rattle.dwarf_entries.specs.Standing.{Standing}
use Rattle.dwarf_scopes.specs.Ranges.{bounds_of}
use Rattle.dwarf_scopes.specs.declared.holders.Holders.{Holders}
use Rattle.dwarf_scopes.specs.calls.Numbered.{ranges_from}
use Rattle.dwarf_scopes.specs.calls.Steps.{Answer}
use Rattle.dwarf_scopes.specs.inner.Listing.{AreListed}

abbrev pub bounds_in : Standing → List (ℕ × ℤ)
bounds_in x = option_to_list (bounds_of x.entry)

abbrev pub AreHolders : List Standing → Holders → Type 0
AreHolders xs h = Answer (ranges_from bounds_in 0 xs) h.bounded × AreListed xs h.listed
