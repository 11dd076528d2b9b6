use Rattle.dwarf_abbrev.proofs.forks.+found.Given as goal

abbrev pub decreases-found : goal.decreases-found
decreases-found l = l.key
