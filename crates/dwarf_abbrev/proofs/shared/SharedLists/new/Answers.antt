use Rattle.dwarf_abbrev.proofs.LinkLaws.{finds_empty}
use Rattle.dwarf_abbrev.proofs.shared.SharedLists.new.Goals as goal

pub invariant_of-result : goal.invariant_of-result
invariant_of-result g c = finds_empty g.T.Coded.code c.new.result c.new-2.result c.new.ensures c.new-2.ensures
