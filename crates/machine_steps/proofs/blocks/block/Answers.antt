use Rattle.std.proofs.Common.{◌∙◌, sym, add-one}
use Rattle.machine_steps.specs.calls.FramesMeet.{step_at}
use Rattle.machine_steps.proofs.Points.{becomes}
use Rattle.machine_steps.proofs.BlockLaws.{opened, block_meets}
use Rattle.machine_steps.proofs.blocks.block.Goals as goal

pub returns-in-Some-clause-meets : goal.returns-in-Some-clause-meets
returns-in-Some-clause-meets c = λ x h r. becomes x c.open.result (step_at x) c.open.new.m (opened x c.args.m.now c.args.code.now h c.args.m.now.values c.in-Some.side.end c.args.t c.args.next) (rw (← c.carries.ensures) c.open.ensures.becomes) (block_meets x c.args.m.now c.args.code.now h c.args.t c.in-Some.side c.args.next r (sym c.in-Some.ensures) (c.requires ∙ add-one c.args.m.now.position))
