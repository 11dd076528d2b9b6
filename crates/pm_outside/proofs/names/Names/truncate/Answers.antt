use Rattle.std.proofs.Common.{sym}
use Rattle.std.proofs.lemmas.List.{take-map}
use Rattle.pm_outside.proofs.names.Names.truncate.Goals as goal

pub returns : goal.returns
returns c = rw (c.truncate.ensures.items, ← c.self.view_is) (sym (take-map _ _ _))
