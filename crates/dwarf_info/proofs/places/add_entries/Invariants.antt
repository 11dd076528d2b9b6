use Rattle.std.proofs.Common.{◌≡◌, ℕ, drop}
use Rattle.std.specs.Option.{option_or}
use Rattle.dwarf_info.specs.inner.Settling.{placed}
use Rattle.dwarf_info.specs.calls.EntryPlaces.{place_in}
use Rattle.dwarf_info.proofs.places.add_entries.Given as goal

abbrev pub invariant-entries : goal.invariant-entries
invariant-entries l = (q : ℕ) → option_or (placed l.rows q) (place_in l.unit l.number (drop l.number l.entries) q) ≡ option_or (placed l.initial.rows q) (place_in l.unit 0 l.entries q)
