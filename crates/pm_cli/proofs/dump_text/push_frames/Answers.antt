use Rattle.pm_cli.specs.Show.{frame_text}
use Rattle.pm_cli.proofs.Numbered.{goes_on, is_done}
use Rattle.pm_cli.proofs.dump_text.push_frames.Goals as goal

pub loop-i-preserved : goal.loop-i-preserved
loop-i-preserved c = goes_on frame_text c.args.frames.now c.loop-i.i c.index-frames-i.result _ c.loop-i.out c.push_frame.new.out _ c.loop-i-test.true c.index-frames-i.is c.in_ok-push_frame.ensures c.loop-i.invariant

pub returns : goal.returns
returns c = is_done frame_text c.args.frames.now c.loop-i.i c.loop-i.out _ c.loop-i-test.false c.loop-i.invariant
