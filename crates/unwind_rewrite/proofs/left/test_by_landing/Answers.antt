use Rattle.rewrite_bodies.specs.calls.Slots.{less}
use Rattle.rewrite_bodies.specs.calls.Pieces.{const, i32}
use Rattle.rewrite_bodies.specs.calls.Rewrite.{get_flag}
use Rattle.rewrite_code.proofs.Loads.{when_ok, landed}
use Rattle.unwind_rewrite.proofs.left.test_by_landing.Goals as goal

pub returns : goal.returns
returns c =
    when_ok (landed c.args.context.now c.args.site.now.labels c.args.number (less c.args.count c.args.site.now.places.now) c.args.site.now.offset (get_flag c.args.context.now) (const (i32 0)) c.in_ok-set_offset.ensures c.in_ok-get_flag.ensures) c.to_landing.result c.to_landing.ensures
