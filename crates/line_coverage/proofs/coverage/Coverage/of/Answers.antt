use Rattle.std.proofs.Common.{◌+◌, ◌-◌, ◌^◌, map, ap, ◌∙◌}
use Rattle.std.specs.Prelude.{min}
use Rattle.line_coverage.proofs.CoverLaws.{covers}
use Rattle.line_coverage.proofs.coverage.Coverage.of.Goals as goal

pub returns : goal.returns
returns c seen counted few =
    covers (map (λ l. l.now) c.args.tables.now.items) c.args.source.now c.args.tally.now seen counted few c.in_ok-visits.visits.entries c.in_ok-visits.ensures c.in_ok-spots.spots.entries c.place_visits.new.visits.entries c.in_ok-spots.ensures
    (record { lines = c.in_ok-lines.lines.items; unplaced = c.saturating_add-unplaced.result; steps = c.saturating_add-steps.result }) c.total_of.result c.total_of-2.result
    c.total_of.ensures (c.saturating_add-unplaced.ensures ∙ ap (λ n. min (c.total_of.result + n) (2 ^ 64 - 1)) c.elsewhere.ensures) c.total_of-2.ensures c.saturating_add-steps.ensures c.lines_of.ensures.ascend c.in_ok-lines.ensures.lines
