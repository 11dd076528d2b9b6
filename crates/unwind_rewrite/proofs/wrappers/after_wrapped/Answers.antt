use Rattle.rewrite_code.proofs.Loads.{when_ok}
use Rattle.unwind_rewrite.proofs.Bodies.{dump_ended, wrapped_tested}
use Rattle.unwind_rewrite.proofs.wrappers.after_wrapped.Goals as goal

pub returns : goal.returns
returns c = when_ok (wrapped_tested c.args.map.now c.flag.result c.flag.ensures c.in_ok-basic.ensures c.in_ok-open_if.ensures.one_arm (dump_ended c.args.map.now c.in_ok-tell_globals.ensures c.in_ok-end_dump.ensures)) c.close.result c.close.ensures
