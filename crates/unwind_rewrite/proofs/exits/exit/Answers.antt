use Rattle.rewrite_code.proofs.Loads.{when_ok}
use Rattle.unwind_rewrite.proofs.Bodies.{exited, raised}
use Rattle.unwind_rewrite.proofs.exits.exit.Goals as goal

pub returns : goal.returns
returns c =
    when_ok (exited c.args.context.now c.gives.result c.gives.ensures c.in_ok-work_out_all.ensures c.in_ok-hand_locals.ensures c.in_ok-end_frame.ensures (raised c.args.context.now c.map.result.now c.flag.result c.map.ensures c.flag.ensures c.in_ok-const_value.ensures c.in_ok-basic.ensures) c.in_ok-zero_result.ensures) c.return_values.result c.return_values.ensures
