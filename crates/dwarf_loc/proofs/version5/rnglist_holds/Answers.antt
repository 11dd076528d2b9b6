use Rattle.std.proofs.Common.{arith}
use Rattle.std.specs.Prelude.{is_some}
use Rattle.wasm_bytes.specs.calls.Spelling.{only}
use Rattle.dwarf_loc.specs.Contents.{nothing_item}
use Rattle.dwarf_loc.specs.Lists.{chosen}
use Rattle.dwarf_loc.proofs.Standing.{answer_spelled, answer_unreadable}
use Rattle.dwarf_loc.specs.Addresses.{address_of}
use Rattle.dwarf_loc.specs.Kinds.{range_kind}
use Rattle.dwarf_loc.specs.Version5.{list5_item, entry5_item, range5}
use Rattle.dwarf_loc.specs.calls.Grammar5.{list5}
use Rattle.dwarf_loc.proofs.Exact5.{ranges5_exact}
use Rattle.dwarf_loc.proofs.version5.rnglist_holds.Goals as goal

pub returns-clause-spelled : goal.returns-clause-spelled
unfolding range5
returns-clause-spelled c = λ entries s.
    let known = address_of c.args.addresses.now in
    rw c.is_held.ensures (answer_spelled (list5 range_kind known (only tt)) (list5_item range_kind known nothing_item) (ranges5_exact known) (λ es. is_some (chosen c.args.base c.args.address es)) c.args.section.now c.args.at entries s)

pub returns-clause-unreadable : goal.returns-clause-unreadable
unfolding range5 list5_item
returns-clause-unreadable c =
    let known = address_of c.args.addresses.now in
    rw c.is_held.ensures (answer_unreadable (list5 range_kind known (only tt)) (entry5_item range_kind known nothing_item) (ranges5_exact known) (λ es. is_some (chosen c.args.base c.args.address es)) c.args.section.now c.args.at (λ i. omega (arith, c.type_inv.section i)))
