use Rattle.std.proofs.Common.{arith}
use Rattle.machine_steps.proofs.LocalLaws.{one_group}
use Rattle.machine_steps.proofs.calls.push_locals.Goals as goal

pub loop-group-preserved : goal.loop-group-preserved
loop-group-preserved c = one_group c.args.groups.now c.loop-group.group-index _ c.args.values.now c.loop-group.values c.push_group.new.values (omega arith) c.loop-group.invariant c.in_ok-push_group.ensures
