use Rattle.dwarf_entries.proofs.origins.+type_within.Given as goal

abbrev pub decreases-type_within : goal.decreases-type_within
decreases-type_within l = l.further
