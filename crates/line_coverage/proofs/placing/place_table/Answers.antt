use Rattle.std.proofs.Common.{subst}
use Rattle.line_coverage.specs.inner.Placing.{in_sequences, Moves}
use Rattle.line_coverage.proofs.MoveLaws.{sequence_more, no_sequences}
use Rattle.line_coverage.proofs.placing.place_table.Goals as goal

pub sequences-preserved : goal.sequences-preserved
sequences-preserved c spots visits behind =
    c.sequences.invariant spots visits (sequence_more c.sequences.spots.entries c.sequences.visits.entries c.place_sequence.new.spots.entries c.place_sequence.new.visits.entries spots visits c.args.table c.as_slice-sequences.result.now
    c.sequences.sequence-index c.sequence-item.result c.sequences-test.true c.sequence-item.is c.in_ok-place_sequence.ensures behind)

pub returns : goal.returns
returns c =
    subst (λ ss. Moves c.args.spots.now.entries c.args.visits.now.entries c.sequences.spots.entries c.sequences.visits.entries (in_sequences c.args.table ss)) c.as_slice-sequences.ensures
    (c.sequences.invariant c.sequences.spots.entries c.sequences.visits.entries (no_sequences c.sequences.spots.entries c.sequences.visits.entries c.args.table c.as_slice-sequences.result.now c.sequences.sequence-index c.sequences-test.false))
