use Rattle.std.proofs.Common.{◌∙◌, add-one}
use Rattle.std.specs.Prelude.{None}
use Rattle.machine_steps.specs.calls.FramesMeet.{step_at}
use Rattle.machine_steps.proofs.Points.{becomes}
use Rattle.machine_steps.proofs.BlockLaws.{opened, loop_meets}
use Rattle.machine_steps.proofs.blocks.loop_.Goals as goal

pub returns-clause-meets : goal.returns-clause-meets
returns-clause-meets c = λ x code t h r. becomes x c.open.result (step_at x) c.open.new.m (opened x c.args.m.now code h c.args.m.now.values c.args.m.now.position None c.args.next) c.open.ensures.becomes (loop_meets x c.args.m.now code h t c.args.next r (c.requires ∙ add-one c.args.m.now.position))
