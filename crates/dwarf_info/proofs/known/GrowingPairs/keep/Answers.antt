use Rattle.std.specs.Ordering.{nat_cmp}
use Rattle.std.specs.BTreeMap.{get}
use Rattle.dwarf_info.proofs.PairLaws.{knows_at}
use Rattle.dwarf_info.proofs.known.GrowingPairs.keep.Goals as goal

pub returns-in-Ok : goal.returns-in-Ok
returns-in-Ok c = λ pair section knows right.
    knows_at pair section c.args.self.now.lists (get nat_cmp c.args.self.now.known) (get nat_cmp c.insert.new.self) c.args.at c.args.pairs c.in-Ok.ensures.updates.0 knows right
