use Rattle.dwarf_scopes.proofs.subprograms.subprogram_at.Goals as goal

pub first_among-first-requires : goal.first_among-first-requires
first_among-first-requires c = c.no_ranges-lists.ensures c.args.sections.now c.args.address
