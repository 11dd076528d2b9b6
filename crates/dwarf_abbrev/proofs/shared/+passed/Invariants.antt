use Rattle.dwarf_abbrev.proofs.shared.+passed.Given as goal

abbrev pub decreases-passed : goal.decreases-passed
decreases-passed g l = l.count
