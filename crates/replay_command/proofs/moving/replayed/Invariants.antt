use Rattle.std.proofs.Common.{length}
use denote.Text.{Utf8}
use denote.Shadow.{shadow}
use Rattle.replay_command.specs.ReplayText.{commands_in}
use Rattle.replay_command.proofs.Turns.{Reached}
use Rattle.replay_command.proofs.moving.replayed.Given as goal

abbrev pub invariant-loop-out : goal.invariant-loop-out
invariant-loop-out l = record {
  text : shadow (Utf8 l.rest);
  reached : Reached l.fn.replayer l.fn.viewer (commands_in l.commands) l.replayer l.viewer (commands_in l.rest) l.out;
}

abbrev pub decreases-loop-out : goal.decreases-loop-out
decreases-loop-out l = length l.rest
