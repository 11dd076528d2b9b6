use Rattle.std.proofs.Common.{rules, ◌≡◌, ◌-◌}
use Rattle.rewrite_bodies.specs.calls.Slots.{less}
use Rattle.unwind_rewrite.proofs.Branching.{under_height}
use Rattle.rewrite_code.proofs.Pieces.{emits_then}
use Rattle.rewrite_code.proofs.Loads.{when_ok}
use Rattle.unwind_rewrite.proofs.calls.end_call.Goals as goal

pub returns : goal.returns
returns c =
    let left : c.saturating_sub.result ≡ c.len.result - c.args.count = search rules in
    let height = under_height c.args.count c.args.places.now c.len.result c.saturating_sub.result c.len.ensures left in
    when_ok (λ last. emits_then c.in_ok-drops.ensures (emits_then c.in_ok-renew.ensures last)) c.reload.result (c.reload.ensures (less c.args.count c.args.places.now) height)
