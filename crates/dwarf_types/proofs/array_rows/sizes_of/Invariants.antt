use Rattle.dwarf_types.proofs.SizeLaws.{Behind}
use Rattle.dwarf_types.proofs.array_rows.sizes_of.Given as goal

abbrev pub invariant-subranges : goal.invariant-subranges
invariant-subranges l = Behind l.counts l.element l.sizes l.left l.size

abbrev pub decreases-subranges : goal.decreases-subranges
decreases-subranges l = l.left
