use Rattle.pm_outside.proofs.Tables.{held_entries}
use Rattle.pm_outside.proofs.table.Table.get.Goals as goal

pub returns-in-Some : goal.returns-in-Some
returns-in-Some c = rw (← c.self.view_is, held_entries, ← c.get.ensures.value, c.in-Some.is, c.as_slice.ensures.value)

pub returns-in-None : goal.returns-in-None
returns-in-None c = rw (← c.self.view_is, held_entries, ← c.get.ensures.value, c.in-None.is)
