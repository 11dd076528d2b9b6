use Rattle.rewrite_bodies.specs.calls.Slots.{less}
use Rattle.rewrite_code.proofs.Loads.{when_ok}
use Rattle.unwind_rewrite.proofs.Calling.{left_handed}
use Rattle.unwind_rewrite.proofs.left.hand_left.Goals as goal

pub returns : goal.returns
returns c =
    when_ok (left_handed c.args.context.now c.args.labels (less c.args.count c.args.places.now) c.args.places.now c.args.count c.kind_at.result c.kind_at.ensures c.in_ok-hand_under.ensures c.in_ok-get.ensures c.in_ok-open_if.ensures.one_arm c.in_ok-hand_top.ensures c.in_ok-close.ensures) c.to_exit.result c.to_exit.ensures
