use Rattle.std.proofs.Common.{◌≡◌, ◌++◌, drop}
use Rattle.dwarf_info.specs.inner.Zeros.{zeros_from}
use Rattle.dwarf_info.proofs.texts.zeros_of.Given as goal

abbrev pub invariant-bytes : goal.invariant-bytes
invariant-bytes l = l.zeros.items ++ zeros_from l.at (drop l.at l.section) ≡ zeros_from 0 l.section
