use Rattle.std.proofs.Common.{Err, refl, ap}
use Rattle.machine_hosted.proofs.WriteLaws.{misfit, no_misfit}
use Rattle.machine_hosted.proofs.writes.write_all.Goals as goal

pub returns-then-not-all_fit : goal.returns-then-not-all_fit
returns-then-not-all_fit c = (misfit c.args.memory.now.memory c.args.writes.now c.all_fit.result c.all_fit.ensures c.if-not-all_fit.true, refl)

pub returns-in-Err-Out : goal.returns-in-Err-Out
returns-in-Err-Out c = absurd (no_misfit c.args.memory.now.memory c.args.writes.now c.all_fit.result c.all_fit.ensures c.if-not-all_fit.false (c.in-Err-Out.ensures.out (ap Err c.in-Err-Out.field-0-is)))
