use Rattle.std.proofs.Common.{◌≡◌, ◌+◌, ◌-◌, length}
use Rattle.dwarf_info.specs.calls.Keeping.{rows_of}
use Rattle.dwarf_info.specs.inner.Rows.{Leads}
use Rattle.dwarf_info.proofs.tables.read_rows.Given as goal

abbrev pub invariant-rows : goal.invariant-rows
invariant-rows g l = record {
  led : Leads (rows_of g.V.UnitVersion.pair) l.sections.base.abbreviations l.rows l.start l.reader.at;
  block : l.reader.block ≡ l.sections.base.abbreviations;
}

abbrev pub decreases-rows : goal.decreases-rows
decreases-rows g l = length l.reader.block + 1 - l.reader.at
