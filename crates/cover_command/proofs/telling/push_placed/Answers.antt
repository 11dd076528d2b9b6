use Rattle.std.proofs.Common.{◌≡◌, ◌++◌, map}
use Rattle.cover_command.specs.CoverText.{sums_text}
use Rattle.cover_command.proofs.Covered.{covered_by, map_on_ok}
use Rattle.cover_command.proofs.telling.push_placed.Goals as goal

pub returns : goal.returns
returns c = λ x is.
    map_on_ok c.push_sums.result (c.push_sums.new.out ≡ c.push_counts.new.out ++ sums_text c.unplaced.result c.steps.result) _ (λ ends seen counted few.
    covered_by (map (λ l. l.now) c.args.tables.now.items) x is c.args.source.now seen c.in_ok-coverage.coverage (c.in_ok-coverage.ensures seen counted few)
    c.in_ok-counts.counts c.args.out.now c.push_counts.new.out c.push_sums.new.out c.lines.result.now c.unplaced.result c.steps.result c.lines.ensures c.unplaced.ensures c.steps.ensures few
    c.in_ok-counts.ensures.merged c.in_ok-counts.ensures.some c.in_ok-push_counts.ensures.ordered c.in_ok-push_counts.ensures.text ends)
    c.push_sums.ensures
