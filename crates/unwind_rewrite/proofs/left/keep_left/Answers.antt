use Rattle.std.proofs.Common.{rules, ◌≡◌, ◌-◌}
use Rattle.rewrite_bodies.specs.calls.Slots.{less}
use Rattle.unwind_rewrite.proofs.Branching.{under_height}
use Rattle.unwind_rewrite.proofs.left.keep_left.Goals as goal

pub returns : goal.returns
returns c =
    let left : c.saturating_sub-height.result ≡ c.len.result - c.args.count = search rules in
    c.keep_result.ensures (less c.args.count c.args.places.now) (under_height c.args.count c.args.places.now c.len.result c.saturating_sub-height.result c.len.ensures left)
