use Rattle.std.proofs.Common.{arith}
use Rattle.dump_write.proofs.LaidLists.{all_laid}
use Rattle.dump_write.proofs.pages.laid_memory.Goals as goal

pub returns-clause-bytes : goal.returns-clause-bytes
returns-clause-bytes c =
    all_laid c.args.dump.now c.unwrap_or-pages.result c.loop-segment.segment-index c.as_slice-segment-items.result.now _ c.unwrap_or-pages.ensures c.as_slice-segment-items.ensures (omega arith) c.loop-segment.invariant.laid
