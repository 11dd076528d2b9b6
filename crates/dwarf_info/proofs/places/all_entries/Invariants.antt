use Rattle.std.proofs.Common.{◌≡◌, ℕ, drop}
use Rattle.std.specs.Option.{option_or}
use Rattle.dwarf_info.specs.inner.Settling.{placed}
use Rattle.dwarf_info.specs.calls.EntryPlaces.{place_among}
use Rattle.dwarf_info.proofs.places.all_entries.Given as goal

abbrev pub invariant-units : goal.invariant-units
invariant-units l = (q : ℕ) → option_or (placed l.rows q) (place_among l.unit (drop l.unit l.units) q) ≡ place_among 0 l.units q
