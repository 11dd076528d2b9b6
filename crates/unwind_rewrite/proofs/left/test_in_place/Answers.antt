use Rattle.rewrite_bodies.specs.calls.Slots.{less}
use Rattle.rewrite_code.proofs.Loads.{when_ok, flag_tested}
use Rattle.unwind_rewrite.proofs.left.test_in_place.Goals as goal

pub returns : goal.returns
returns c =
    when_ok (flag_tested c.args.context.now c.args.site.now.labels (less c.args.count c.args.site.now.places.now) c.args.site.now.offset c.in_ok-get_flag.ensures c.in_ok-open_if.ensures.one_arm c.in_ok-unwind_caller.ensures) c.close.result c.close.ensures
