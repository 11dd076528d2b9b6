use Rattle.dwarf_abbrev.proofs.shared.+find_near.Given as goal

abbrev pub decreases-find_near : goal.decreases-find_near
decreases-find_near g l = l.count
