use Rattle.std.proofs.Common.{sym, ◌∙◌, arith}
use Rattle.dump_write.proofs.Pieces.{written_few, written_small, all_written}
use Rattle.dump_write.proofs.write.bytes_with.Goals as goal

pub head-requires-clause-count : goal.head-requires-clause-count
head-requires-clause-count c = written_few c.args.dump.now c.as_slice.result.now (c.as_slice.ensures ∙ c.in_ok-used.ensures ∙ c.requires.used) c.requires.pages

pub head-requires-clause-pages : goal.head-requires-clause-pages
head-requires-clause-pages c = written_small c.args.dump.now c.as_slice.result.now (c.as_slice.ensures ∙ c.in_ok-used.ensures ∙ c.requires.used)

pub returns-clause-bytes : goal.returns-clause-bytes
returns-clause-bytes c =
    all_written c.args.dump.now c.as_slice.result.now c.as_slice-segment-items.result.now c.loop-segment.segment-index c.in_ok-out.out.items c.loop-segment.out.items (c.as_slice.ensures ∙ c.in_ok-used.ensures ∙ c.requires.used)
    (c.as_slice-segment-items.ensures ∙ sym c.as_slice.ensures) (omega arith) c.in_ok-out.ensures.bytes c.loop-segment.invariant
