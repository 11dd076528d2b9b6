use Rattle.std.proofs.Common.{◌≡◌, ◌-◌, length}
use Rattle.dwarf_line.specs.inner.Scans.{Lead}
use Rattle.dwarf_line.proofs.scan.trail_from.Given as goal

abbrev pub invariant-opcodes : goal.invariant-opcodes
invariant-opcodes l = record {
  way : Lead l.parameters l.initial.reader.block l.initial.reader.at l.strides.items l.reader.at;
  block : l.reader.block ≡ l.initial.reader.block;
}

abbrev pub decreases-opcodes : goal.decreases-opcodes
decreases-opcodes l = length l.reader.block - l.reader.at
