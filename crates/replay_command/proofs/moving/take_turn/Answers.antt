use Rattle.std.proofs.Common.{sym, ◌∙◌, arith}
use Rattle.replay_command.specs.declared.moves.Move.TheVariants.{Goto, Back, Until}
use Rattle.replay_command.specs.ReplayText.{commands_in}
use Rattle.replay_command.specs.inner.Steps.{left_in}
use Rattle.replay_command.proofs.Turns.{hands_any, hands_out, on_ok_to, took_move, went_back}
use Rattle.replay_command.proofs.moving.take_turn.Goals as goal

pub returns-in-Goto-clause-took : goal.returns-in-Goto-clause-took
returns-in-Goto-clause-took c =
    rw c.and.ensures (hands_out c.go.result c.first_command.result.1 _ (on_ok_to c.go.result _ _
    (took_move c.args.replayer.now c.go.new.replayer c.args.viewer.now c.go.new.viewer c.args.out.now c.go.new.out c.first_command.result.0.now (commands_in c.args.commands.now) (left_in c.first_command.result.1) (Goto c.in-Goto.step)
    c.first_command.ensures.commands (sym c.read_move.ensures ∙ c.in-Goto.is)) c.go.ensures))

pub returns-in-Goto-clause-shorter : goal.returns-in-Goto-clause-shorter
returns-in-Goto-clause-shorter c = rw c.and.ensures (hands_any c.go.result c.first_command.result.1 _ c.first_command.ensures.shorter)

pub returns-in-Back-clause-took : goal.returns-in-Back-clause-took
returns-in-Back-clause-took c =
    rw c.and-in-Back.ensures (hands_out c.go-in-Back.result c.first_command.result.1 _ (on_ok_to c.go-in-Back.result _ _
    (λ moves.
    took_move c.args.replayer.now c.go-in-Back.new.replayer c.args.viewer.now c.go-in-Back.new.viewer c.args.out.now c.go-in-Back.new.out c.first_command.result.0.now (commands_in c.args.commands.now) (left_in c.first_command.result.1) (Back)
    c.first_command.ensures.commands (sym c.read_move.ensures ∙ c.in-Back.is)
    (went_back c.args.replayer.now c.go-in-Back.new.replayer c.args.viewer.now c.go-in-Back.new.viewer c.args.out.now c.go-in-Back.new.out c.saturating_sub-step.result (omega (arith, c.saturating_sub-step.ensures, c.step.ensures.step)) (omega (arith, c.saturating_sub-step.ensures, c.step.ensures.within)) moves))
    c.go-in-Back.ensures))

pub returns-in-Back-clause-shorter : goal.returns-in-Back-clause-shorter
returns-in-Back-clause-shorter c = rw c.and-in-Back.ensures (hands_any c.go-in-Back.result c.first_command.result.1 _ c.first_command.ensures.shorter)

pub returns-in-Until-clause-took : goal.returns-in-Until-clause-took
returns-in-Until-clause-took c =
    rw c.and-in-Until.ensures (hands_out c.go_until.result c.first_command.result.1 _ (on_ok_to c.go_until.result _ _
    (took_move c.args.replayer.now c.go_until.new.replayer c.args.viewer.now c.go_until.new.viewer c.args.out.now c.go_until.new.out c.first_command.result.0.now (commands_in c.args.commands.now) (left_in c.first_command.result.1) (Until c.in-Until.function c.in-Until.offset)
    c.first_command.ensures.commands (sym c.read_move.ensures ∙ c.in-Until.is)) c.go_until.ensures))

pub returns-in-Until-clause-shorter : goal.returns-in-Until-clause-shorter
returns-in-Until-clause-shorter c = rw c.and-in-Until.ensures (hands_any c.go_until.result c.first_command.result.1 _ c.first_command.ensures.shorter)
