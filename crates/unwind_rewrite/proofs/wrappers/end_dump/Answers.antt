use Rattle.rewrite_code.proofs.Loads.{when_ok}
use Rattle.unwind_rewrite.proofs.Bodies.{wrapped_end}
use Rattle.unwind_rewrite.proofs.wrappers.end_dump.Goals as goal

pub returns : goal.returns
returns c =
    when_ok (wrapped_end c.args.map.now c.flag-flag.result c.frame_import.result c.flag-flag.ensures c.frame_import.ensures c.in_ok-const_value.ensures c.in_ok-const_value-2.ensures c.in_ok-const_value-3.ensures c.in_ok-const_value-4.ensures c.in_ok-call.ensures c.in_ok-set_flag.ensures)
    c.unreachable.result c.unreachable.ensures
