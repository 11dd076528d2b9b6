use Rattle.dwarf_types.proofs.behind.+resolved.Given as goal

abbrev pub decreases-resolved : goal.decreases-resolved
decreases-resolved l = l.most
