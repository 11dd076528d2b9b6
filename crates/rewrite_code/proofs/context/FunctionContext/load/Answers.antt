use Rattle.std.proofs.Common.{rules, ◌≡◌, ◌-◌, ◌≤◌, ◌<◌, length, refl, arith}
use Rattle.rewrite_code.proofs.Loads.{load_step, load_done}
use Rattle.rewrite_code.proofs.context.FunctionContext.load.Goals as goal

pub loop-height-preserved : goal.loop-height-preserved
loop-height-preserved c =
    let xs = c.as_slice-operands.result.now in
    let lt : c.loop-height.height < length xs = search rules in
    record {
      same = refl;
      after = omega (arith, c.loop-height.invariant.after);
      before = omega (arith, lt);
      so_far = load_step c.args.self.now xs c.loop-height.height c.saturating_sub-first.result _ lt c.loop-height.invariant.after c.loop-height.invariant.so_far c.in_ok-fetch.ensures;
    }

pub returns : goal.returns
returns c =
    let xs = c.as_slice-operands.result.now in
    let ge : length xs ≤ c.loop-height.height = search rules in
    let first : c.saturating_sub-first.result ≡ length xs - c.args.count = search rules in
    load_done c.args.self.now xs c.args.places.now c.args.count c.loop-height.height c.saturating_sub-first.result c.as_slice-operands.ensures.value ge c.loop-height.invariant.before first c.loop-height.invariant.so_far
