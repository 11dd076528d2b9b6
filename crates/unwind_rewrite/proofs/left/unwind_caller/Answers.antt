use Rattle.rewrite_bodies.specs.calls.Slots.{less}
use Rattle.rewrite_code.proofs.Pieces.{emits_then}
use Rattle.rewrite_code.proofs.Loads.{when_ok}
use Rattle.unwind_rewrite.proofs.Numbers.{set_at}
use Rattle.unwind_rewrite.proofs.Calling.{caller_unwound}
use Rattle.unwind_rewrite.proofs.left.unwind_caller.Goals as goal

pub returns : goal.returns
returns c =
    when_ok (caller_unwound c.args.context.now c.args.site.now.labels (less c.args.count c.args.site.now.places.now) c.args.site.now.offset (emits_then c.in_ok-const_value.ensures (set_at c.args.context.now c.kind_at.ensures c.in_ok-set.ensures)) c.in_ok-set_offset.ensures c.in_ok-hand_under.ensures) c.to_exit.result c.to_exit.ensures
