use Rattle.std.proofs.Common.{arith}
use Rattle.dwarf_loc.specs.Lists.{chosen}
use Rattle.dwarf_loc.specs.Version4.{list4_item, entry4_item, expression4_item}
use Rattle.dwarf_loc.specs.calls.Grammar.{list4, expression4}
use Rattle.dwarf_loc.proofs.Exact.{locations4_exact}
use Rattle.dwarf_loc.proofs.Standing.{answer_spelled, answer_unreadable}
use Rattle.dwarf_loc.proofs.version4.location_at.Goals as goal

pub returns-clause-spelled : goal.returns-clause-spelled
unfolding list4_item
returns-clause-spelled c = λ entries s.
    rw c.chosen_at.ensures.exact (answer_spelled (list4 expression4) (list4_item expression4_item) locations4_exact (chosen c.args.base c.args.address) c.args.section.now c.args.at entries s)

pub returns-clause-unreadable : goal.returns-clause-unreadable
unfolding list4_item
returns-clause-unreadable c =
    rw c.chosen_at.ensures.exact (answer_unreadable (list4 expression4) (entry4_item expression4_item) locations4_exact (chosen c.args.base c.args.address) c.args.section.now c.args.at (λ i. omega (arith, c.type_inv.section i)))
