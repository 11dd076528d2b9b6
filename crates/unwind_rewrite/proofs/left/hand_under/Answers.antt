use Rattle.std.proofs.Common.{rules, ◌≡◌, ◌-◌, ◌≤◌, ◌<◌, length, arith}
use Rattle.rewrite_code.proofs.Loads.{hand_step}
use Rattle.unwind_rewrite.proofs.Calling.{under_handed}
use Rattle.unwind_rewrite.proofs.left.hand_under.Goals as goal

pub loop-height-preserved : goal.loop-height-preserved
loop-height-preserved c =
    let xs = c.as_slice-operands.result.now in
    let below : c.loop-height.height < c.saturating_sub-kept.result = search rules in
    let kept : c.saturating_sub-kept.result ≡ length xs - c.args.count = search rules in
    let lt : c.loop-height.height < length xs = omega (arith, below, kept) in
    let low : 0 ≤ c.loop-height.height = omega arith in
    record {
      before = omega (arith, below);
      so_far = hand_step c.args.context.now xs c.loop-height.height 0 _ lt low c.loop-height.invariant.so_far c.in_ok-hand_one.ensures;
    }

pub returns : goal.returns
returns c =
    let xs = c.as_slice-operands.result.now in
    let ge : c.saturating_sub-kept.result ≤ c.loop-height.height = search rules in
    let kept : c.saturating_sub-kept.result ≡ length xs - c.args.count = search rules in
    under_handed c.args.context.now xs c.args.places.now c.args.count c.loop-height.height c.saturating_sub-kept.result c.as_slice-operands.ensures.value kept ge c.loop-height.invariant.before c.loop-height.invariant.so_far
