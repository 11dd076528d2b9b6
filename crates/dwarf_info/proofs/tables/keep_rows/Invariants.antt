use Rattle.std.proofs.Common.{ℕ, length}
use Rattle.dwarf_info.specs.calls.Keeping.{IsTable, IsThere, Keeps, numbered, rows_of}
use Rattle.dwarf_info.specs.inner.Rows.{Leads}
use Rattle.dwarf_info.proofs.tables.keep_rows.Given as goal

abbrev pub invariant-rows : goal.invariant-rows
invariant-rows g l = record {
  kept : Keeps (rows_of g.V.UnitVersion.pair) l.sections l.tables;
  there : IsThere l.tables l.table;
  led : (at : ℕ) × Leads (rows_of g.V.UnitVersion.pair) l.sections.base.abbreviations l.rows l.start at × IsTable (rows_of g.V.UnitVersion.pair) l.sections.base.abbreviations at (numbered l.tables l.table);
}

abbrev pub decreases-rows : goal.decreases-rows
decreases-rows g l = length l.rows
