use Rattle.line_coverage.proofs.MoveLaws.{moves_none, one_more, held_at}
use Rattle.line_coverage.specs.inner.Placing.{in_sequence}
use Rattle.line_coverage.proofs.placing.place_sequence.Goals as goal

pub held-smaller : goal.held-smaller
held-smaller c = c.in_ok-move_visit.ensures.fewer

pub held-preserved : goal.held-preserved
held-preserved c spots visits behind =
    c.held.invariant spots visits (one_more c.held.spots.entries c.held.visits.entries c.move_visit.new.spots.entries c.move_visit.new.visits.entries spots visits c.in-Some.address _ (in_sequence c.args.table c.args.sequence.now)
    c.in_ok-move_visit.ensures.moves (held_at c.args.table c.args.sequence.now c.in-Some.address c.row_of-row.result c.in-Some.ensures.some.0 c.row_of-row.ensures) behind)

pub returns : goal.returns
returns c = c.held.invariant c.held.spots.entries c.held.visits.entries (moves_none c.held.spots.entries c.held.visits.entries c.args.table c.args.sequence.now c.in_default.ensures.none)
