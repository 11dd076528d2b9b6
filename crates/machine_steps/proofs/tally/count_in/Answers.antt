use Rattle.std.proofs.Common.{ap, sym, ◌∙◌}
use Rattle.std.specs.Prelude.{slice_set}
use Rattle.machine_steps.proofs.TallyLaws.{cells_set, cells_short}
use Rattle.machine_steps.proofs.tally.count_in.Goals as goal

pub returns-then-index-cells : goal.returns-then-index-cells
returns-then-index-cells c = ap (slice_set c.args.cells.now c.args.index) c.saturating_add.ensures ∙ cells_set c.args.cells.now c.args.index c.if-index-cells.true

pub returns-else-index-cells : goal.returns-else-index-cells
returns-else-index-cells c = sym (cells_short c.args.cells.now c.args.index c.if-index-cells.false)
