use Rattle.std.proofs.Common.{rules, ◌≡◌, ◌-◌, option_map}
use Rattle.rewrite_bodies.specs.calls.Slots.{less}
use Rattle.rewrite_code.specs.calls.Places.{place}
use Rattle.rewrite_code.proofs.Loads.{when_ok}
use Rattle.unwind_rewrite.proofs.Branching.{put_on, under_height}
use Rattle.unwind_rewrite.proofs.plain.on_operands.Goals as goal

pub returns : goal.returns
returns c =
    let left : c.saturating_sub-height.result ≡ c.len.result - c.args.taken = search rules in
    let height = under_height c.args.taken c.args.places.now c.len.result c.saturating_sub-height.result c.len.ensures left in
    when_ok (put_on c.args.context.now c.args.passing c.args.taken (option_map place c.args.gives) c.args.places.now c.args.instruction c.in_ok-free.ensures c.in_ok-basic.ensures c.in_ok-lengthened.ensures) c.keep.result (c.keep.ensures (less c.args.taken c.args.places.now) height)
