use Rattle.rewrite_code.proofs.Loads.{when_ok}
use Rattle.unwind_rewrite.proofs.Bodies.{wrapper_written}
use Rattle.unwind_rewrite.proofs.wrappers.wrapper.Goals as goal

pub returns : goal.returns
returns c =
    when_ok (wrapper_written c.args.map.now c.args.function c.args.parameters c.flag.result c.function.result c.flag.ensures c.function.ensures c.in_ok-set_flag.ensures c.in_ok-renew.ensures c.in_ok-get_all.ensures c.in_ok-call.ensures)
    c.after_wrapped.result c.after_wrapped.ensures
