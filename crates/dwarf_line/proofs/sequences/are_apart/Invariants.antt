use Rattle.std.proofs.Common.{◌≡◌, drop}
use Rattle.dwarf_line.specs.inner.Starts.{apart_from}
use Rattle.dwarf_line.proofs.sequences.are_apart.Given as goal

abbrev pub invariant-loop-start : goal.invariant-loop-start
invariant-loop-start l = apart_from l.reached (drop l.start-index l.starts) ≡ apart_from 0 l.starts
