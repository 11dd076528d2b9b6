use Rattle.std.proofs.Common.{◌≡◌, ◌++◌, drop}
use Rattle.pm_cli.specs.Show.{frame_text}
use Rattle.pm_cli.proofs.dump_text.push_frames.Given as goal
use Rattle.commands.specs.Values.{numbered}

abbrev pub invariant-loop-i : goal.invariant-loop-i
invariant-loop-i l = l.out ++ numbered frame_text l.i (drop l.i l.frames) ≡ l.fn.out ++ numbered frame_text 0 l.frames
