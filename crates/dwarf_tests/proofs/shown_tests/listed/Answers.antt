use Rattle.dwarf_tests.proofs.shown_tests.listed.Goals as goal

pub push_variable-requires : goal.push_variable-requires
push_variable-requires c = record { right = c.no_sources.ensures c.args.frame.now }
