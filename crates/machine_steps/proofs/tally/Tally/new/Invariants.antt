use Rattle.std.proofs.Common.{◌≡◌, ◌++◌, drop, map}
use Rattle.machine_steps.specs.inner.Cells.{no_cells}
use Rattle.machine_steps.proofs.tally.Tally.new.Given as goal

abbrev pub invariant-loop-body : goal.invariant-loop-body
invariant-loop-body l = map (λ c. c.items) l.cells.items ++ no_cells (drop l.body-index l.body-items) ≡ no_cells l.body-items
