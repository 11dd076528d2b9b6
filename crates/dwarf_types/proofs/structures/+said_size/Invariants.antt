use Rattle.dwarf_types.proofs.structures.+said_size.Given as goal

abbrev pub decreases-said_size : goal.decreases-said_size
decreases-said_size l = l.most
