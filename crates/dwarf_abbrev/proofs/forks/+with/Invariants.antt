use Rattle.dwarf_abbrev.proofs.forks.+with.Given as goal

abbrev pub decreases-with : goal.decreases-with
decreases-with l = l.key
