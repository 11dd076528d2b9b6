use Rattle.std.proofs.Common.{[], rules}
use Rattle.replay_command.specs.ReplayText.{commands_in}
use Rattle.replay_command.proofs.Turns.{reached_none, reached_more, reached_all}
use Rattle.replay_command.proofs.moving.replayed.Goals as goal

pub loop-out-init : goal.loop-out-init
loop-out-init c = record { text = search rules; reached = reached_none c.args.replayer.now c.args.viewer.now (commands_in c.args.commands.now) c.new-out.result c.new-out.ensures }

pub loop-out-preserved : goal.loop-out-preserved
loop-out-preserved c = record {
  text = search rules;
  reached = reached_more c.args.replayer.now c.args.viewer.now (commands_in c.args.commands.now) c.loop-out.replayer c.take_turn.new.replayer c.loop-out.viewer c.take_turn.new.viewer (commands_in c.loop-out.rest.now) (commands_in c.in-Some.behind.now) c.loop-out.out c.take_turn.new.out
      c.loop-out.invariant.reached (rw c.in-Some.is at c.in_ok-left.ensures.took);
}

pub returns-in-None : goal.returns-in-None
returns-in-None c =
    reached_all c.args.replayer.now c.args.viewer.now c.args.commands.now c.take_turn.new.replayer c.take_turn.new.viewer c.take_turn.new.out c.requires.step c.requires.chosen
    (reached_more c.args.replayer.now c.args.viewer.now (commands_in c.args.commands.now) c.loop-out.replayer c.take_turn.new.replayer c.loop-out.viewer c.take_turn.new.viewer (commands_in c.loop-out.rest.now) [] c.loop-out.out c.take_turn.new.out
    c.loop-out.invariant.reached (rw c.in-None.is at c.in_ok-left.ensures.took))
    c.know_end.ensures
