use Rattle.std.proofs.Common.{arith}
use Rattle.std.proofs.lemmas.Map.Text.{text_keys}
use Rattle.pm_outside.proofs.Tables.{held_entries}
use Rattle.pm_outside.proofs.table.Table.set.Goals as goal

pub returns-clause-set : goal.returns-clause-set
returns-clause-set c = rw held_entries (grind (arith, text_keys))

pub returns-clause-others : goal.returns-clause-others
returns-clause-others c = λ other apart. rw (← c.self.view_is, held_entries c.insert.new.self other, held_entries c.self.inside.files other) (grind (arith, text_keys))
