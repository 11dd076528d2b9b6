use Rattle.dwarf_types.proofs.offsets.keep.Goals as goal

pub returns-in-Ok : goal.returns-in-Ok
returns-in-Ok g c = c.in-Ok.ensures.updates.0
