use Rattle.rewrite_bodies.specs.calls.Slots.{less}
use Rattle.wasm_syntax.specs.Tree.{stop}
use Rattle.rewrite_bodies.specs.calls.Rewrite.{hand_top}
use Rattle.rewrite_code.proofs.Pieces.{emits_last}
use Rattle.rewrite_code.proofs.Loads.{when_ok}
use Rattle.unwind_rewrite.proofs.Calling.{both_tested}
use Rattle.unwind_rewrite.proofs.left.test_both.Goals as goal

pub returns : goal.returns
returns c =
    when_ok (both_tested c.args.context.now c.args.site.now.labels (less c.args.count c.args.site.now.places.now) c.args.site.now.offset c.kind_at.result (hand_top c.args.context.now c.args.count c.args.site.now.places.now stop) c.kind_at.ensures c.in_ok-get.ensures c.in_ok-get_flag.ensures c.in_ok-basic.ensures c.in_ok-open_if.ensures.one_arm (emits_last c.in_ok-set_offset.ensures c.in_ok-hand_left.ensures)) c.close.result c.close.ensures
