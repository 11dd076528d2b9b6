use Rattle.std.proofs.Common.{◌≤◌, subst, arith}
use Rattle.replay.specs.inner.Tracks.{CoversIn}
use Rattle.replay.proofs.replayer.Replayer.new.Goals as goal

pub point_at-requires : goal.point_at-requires
point_at-requires c =
    let passed = c.in_ok-passed.passed in
    (c.args.every, passed.end, c.settle.ensures c.args.recorded c.args.every passed.end c.in_ok-passed.ensures.1, omega arith)

pub invariant_of-result : goal.invariant_of-result
invariant_of-result c =
    let passed = c.in_ok-passed.passed in
    let covers : CoversIn c.args.recorded c.args.every passed.end c.settle.new.self = c.settle.ensures c.args.recorded c.args.every passed.end c.in_ok-passed.ensures.1 in
    let reached = c.in_ok-shown.ensures.reached in
    let gap = covers.up_to.near in
    let near = c.in_ok-shown.ensures.near in
    record {
      ends = c.in_ok-passed.ensures.0;
      covers = covers;
      within = omega arith;
      answer = reached.0;
      reached = reached.1;
      near = omega (arith, near, gap);
    }
