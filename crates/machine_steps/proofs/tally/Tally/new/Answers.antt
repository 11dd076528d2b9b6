use Rattle.std.proofs.Common.{map, ap, ◌∙◌}
use Rattle.machine_steps.specs.inner.Cells.{no_cells}
use Rattle.machine_steps.proofs.TallyLaws.{counted_new, cells_done}
use Rattle.machine_steps.proofs.tally.Tally.new.Goals as goal

pub returns : goal.returns
returns c = counted_new c.args.source.now (map (λ v. v.items) c.loop-body.cells.items) (cells_done (map (λ v. v.items) c.loop-body.cells.items) c.as_slice-body-items.result.now c.loop-body.body-index c.loop-body-test.false c.loop-body.invariant ∙ ap no_cells c.as_slice-body-items.ensures)
