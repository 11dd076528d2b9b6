use Rattle.std.proofs.Common.{◌≡◌, length}
use Rattle.var_values.specs.Lists.{is_listed}
use Rattle.var_values.proofs.lists.is_listed.Given as goal

abbrev pub invariant-items : goal.invariant-items
invariant-items l = is_listed (length l.list) l.wanted.signed l.wanted.number (record { block = l.list; at = 0 }) ≡ is_listed l.left l.wanted.signed l.wanted.number l.reader

abbrev pub decreases-items : goal.decreases-items
decreases-items l = l.left
