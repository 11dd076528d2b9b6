use Rattle.std.proofs.Common.{length}
use Rattle.wasm_bytes.specs.Place.{Place}
use Rattle.dwarf_line.specs.Parameters.{Parameters}
use Rattle.dwarf_line.specs.inner.Scans.{IsTrail, IsWay}
use Rattle.dwarf_line.proofs.scan.unwound.Given as goal

abbrev pub invariant-strides : goal.invariant-strides
invariant-strides l = (h : Parameters) (p : Place) → IsTrail h p l.fn.trail → IsWay h p l.strides.items l.rest

abbrev pub decreases-strides : goal.decreases-strides
decreases-strides l = length l.strides.items
