use Rattle.machine_steps.proofs.ReturnLaws.{leave_meets}
use Rattle.machine_steps.proofs.returns.leave.Goals as goal

pub returns : goal.returns
returns c = λ x code h g. leave_meets x c.args.m.now code h c.drop_frame.result c.drop_frame.new.m c.args.gives g c.drop_frame.ensures
