use Rattle.std.proofs.Common.{arith}
use Rattle.dwarf_loc.specs.Lists.{chosen}
use Rattle.dwarf_loc.proofs.Standing.{answer_spelled, answer_unreadable}
use Rattle.dwarf_loc.specs.Addresses.{address_of}
use Rattle.dwarf_loc.specs.Kinds.{location_kind}
use Rattle.dwarf_loc.specs.Version5.{list5_item, entry5_item, expression5_item, location5}
use Rattle.dwarf_loc.specs.calls.Grammar5.{list5, expression5}
use Rattle.dwarf_loc.proofs.Exact5.{locations5_exact}
use Rattle.dwarf_loc.proofs.version5.loclist_location.Goals as goal

pub returns-clause-spelled : goal.returns-clause-spelled
unfolding location5
returns-clause-spelled c = λ entries s.
    let known = address_of c.args.addresses.now in
    rw c.expression_at.ensures (answer_spelled (list5 location_kind known expression5) (list5_item location_kind known expression5_item) (locations5_exact known) (chosen c.args.base c.args.address) c.args.section.now c.args.at entries s)

pub returns-clause-unreadable : goal.returns-clause-unreadable
unfolding location5 list5_item
returns-clause-unreadable c =
    let known = address_of c.args.addresses.now in
    rw c.expression_at.ensures (answer_unreadable (list5 location_kind known expression5) (entry5_item location_kind known expression5_item) (locations5_exact known) (chosen c.args.base c.args.address) c.args.section.now c.args.at (λ i. omega (arith, c.type_inv.section i)))
