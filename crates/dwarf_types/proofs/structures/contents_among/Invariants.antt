use Rattle.std.proofs.Common.{◌≡◌, ◌++◌, drop}
use Rattle.std.specs.Prelude.{filter}
use Rattle.dwarf_info.specs.declared.entry.Unit.{Unit as UnitTree}
use Rattle.dwarf_entries.specs.Standing.{standing_in}
use Rattle.dwarf_types.specs.calls.Inside.{picked}
use Rattle.dwarf_types.specs.calls.Contents.{stands_in}
use Rattle.dwarf_types.proofs.structures.contents_among.Given as goal

abbrev pub invariant-entries : goal.invariant-entries
invariant-entries l = (u : UnitTree) →
    picked l.positions (standing_in u l.entries) ++ filter (stands_in l.depth) (standing_in u (drop l.number l.entries)) ≡ filter (stands_in l.depth) (standing_in u l.entries)
