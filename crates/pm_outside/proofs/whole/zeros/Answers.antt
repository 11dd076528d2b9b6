use Rattle.pm_outside.proofs.whole.zeros.Goals as goal

pub returns : goal.returns
returns c = c.from_elem.ensures.len
