use Rattle.std.proofs.Common.{rules, ◌≡◌, ◌-◌}
use Rattle.rewrite_bodies.specs.calls.Slots.{less}
use Rattle.unwind_rewrite.proofs.Branching.{under_height}
use Rattle.rewrite_code.proofs.Pieces.{emits_within}
use Rattle.rewrite_code.proofs.Loads.{when_ok}
use Rattle.unwind_rewrite.proofs.Calling.{entry_called}
use Rattle.unwind_rewrite.proofs.calls.call_where_sound.Goals as goal

pub returns : goal.returns
returns c =
    let left : c.saturating_sub.result ≡ c.len.result - c.args.count = search rules in
    let height = under_height c.args.count c.args.places.now c.len.result c.saturating_sub.result c.len.ensures left in
    when_ok (emits_within c.in_ok-open_if.ensures.one_arm
    (entry_called c.args.context.now c.args.count c.args.type_index c.args.gives c.args.places.now c.in_ok-load.ensures c.in_ok-past_shown.ensures c.in_ok-call_indirect.ensures (c.in_ok-store.ensures (less c.args.count c.args.places.now) height))) c.close.result c.close.ensures
