use Rattle.rewrite_code.proofs.Loads.{when_ok}
use Rattle.unwind_rewrite.proofs.Bodies.{frame_ended}
use Rattle.unwind_rewrite.proofs.exits.end_frame.Goals as goal

pub returns : goal.returns
returns c =
    when_ok (frame_ended c.args.context.now c.map.result.now c.kind_at.result c.offset_at.result c.index-function.result c.local_count-count.result c.frame_import.result c.kind_at.ensures c.offset_at.ensures c.index-function.ensures c.local_count-count.ensures c.map.ensures c.frame_import.ensures c.in_ok-get.ensures c.in_ok-const_value.ensures c.in_ok-get-2.ensures c.in_ok-const_value-2.ensures)
    c.call.result c.call.ensures
