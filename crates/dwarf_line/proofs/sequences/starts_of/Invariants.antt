use Rattle.std.proofs.Common.{◌≡◌, ◌++◌, drop}
use Rattle.dwarf_line.specs.inner.Starts.{starts_from}
use Rattle.dwarf_line.proofs.sequences.starts_of.Given as goal

abbrev pub invariant-sequences : goal.invariant-sequences
invariant-sequences l = l.starts.items ++ starts_from l.index (drop l.index l.sequences) ≡ starts_from 0 l.sequences
