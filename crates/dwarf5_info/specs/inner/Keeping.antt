-- What is kept of the abbreviations of versions.
use Rattle.dwarf_info.specs.Sections.{SectionBytes5}
use Rattle.dwarf_info.specs.calls.Keeping.{Keeps, rows_of}
use Rattle.dwarf_info.specs.calls.Pairs.{Pair, KnowsAll}
use Rattle.dwarf_info.specs.calls.Rows4.{pair4}
use Rattle.dwarf5_info.specs.declared.version5.Kept.{Kept}
use Rattle.dwarf5_info.specs.declared.version5.UpToFive.{UpToFive}
use Rattle.dwarf5_info.specs.calls.Rows5.{pair5}

abbrev pub IsKept : Pair → SectionBytes5 → Kept → Type 0
IsKept pair s kept = KnowsAll pair s kept.pairs × Keeps (rows_of pair) s kept.tables

abbrev pub AreKept : SectionBytes5 → UpToFive → Type 0
AreKept s kept = IsKept pair4 s kept.four × IsKept pair5 s kept.five
