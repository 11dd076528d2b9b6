use Rattle.std.proofs.Common.{arith}
use Rattle.std.specs.Prelude.{is_some}
use Rattle.wasm_bytes.specs.calls.Spelling.{only}
use Rattle.dwarf_loc.specs.Lists.{chosen}
use Rattle.dwarf_loc.specs.Contents.{nothing_item}
use Rattle.dwarf_loc.specs.Version4.{list4_item, entry4_item, range4}
use Rattle.dwarf_loc.specs.calls.Grammar.{list4}
use Rattle.dwarf_loc.proofs.Exact.{ranges4_exact}
use Rattle.dwarf_loc.proofs.Standing.{answer_spelled, answer_unreadable}
use Rattle.dwarf_loc.proofs.version4.range_holds.Goals as goal

pub returns-clause-spelled : goal.returns-clause-spelled
unfolding range4
returns-clause-spelled c = λ entries s.
    rw c.is_held.ensures (answer_spelled (list4 (only tt)) (list4_item nothing_item) ranges4_exact (λ es. is_some (chosen c.args.base c.args.address es)) c.args.section.now c.args.at entries s)

pub returns-clause-unreadable : goal.returns-clause-unreadable
unfolding range4 list4_item
returns-clause-unreadable c =
    rw c.is_held.ensures (answer_unreadable (list4 (only tt)) (entry4_item nothing_item) ranges4_exact (λ es. is_some (chosen c.args.base c.args.address es)) c.args.section.now c.args.at (λ i. omega (arith, c.type_inv.section i)))
