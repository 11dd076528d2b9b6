use Rattle.std.proofs.Common.{rules, ◌≡◌, ◌-◌, ◌≤◌, ◌<◌, length, refl, arith}
use Rattle.rewrite_code.specs.calls.Places.{these}
use Rattle.rewrite_code.proofs.Loads.{spill_step, spill_done}
use Rattle.rewrite_code.proofs.context.FunctionContext.spill.Goals as goal

pub loop-height-preserved : goal.loop-height-preserved
loop-height-preserved c =
    let xs = c.as_slice-operands.result.now in
    let under : c.saturating_sub-under.result ≡ length xs - c.args.count = search rules in
    let lt : c.loop-height.height < c.saturating_sub-under.result = search rules in
    record {
      same = refl;
      before = omega (arith, lt);
      so_far = spill_step c.args.self.now (these c.args.meant) xs c.loop-height.height _ (omega (arith, lt, under)) c.loop-height.invariant.so_far c.in_ok-spill_one.ensures;
    }

pub returns : goal.returns
returns c =
    let xs = c.as_slice-operands.result.now in
    let under : c.saturating_sub-under.result ≡ length xs - c.args.count = search rules in
    let ge : c.saturating_sub-under.result ≤ c.loop-height.height = search rules in
    spill_done c.args.self.now (these c.args.meant) xs c.args.places.now c.args.count c.loop-height.height c.as_slice-operands.ensures.value (omega (arith, ge, under, c.loop-height.invariant.before)) c.loop-height.invariant.so_far
