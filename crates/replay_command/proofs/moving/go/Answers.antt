use Rattle.std.proofs.Common.{subst}
use Rattle.replay.specs.Moves.{Went}
use Rattle.replay.specs.Replays.{IsOutcome}
use Rattle.replay_command.proofs.Turns.{on_line, went_to}
use Rattle.replay_command.proofs.moving.go.Goals as goal

pub returns : goal.returns
returns c =
    on_line c.push_shown.result (IsOutcome c.goto.new.self.outcome) _ _
    (went_to c.args.replayer.now c.goto.new.self c.args.viewer.now c.choose_innermost.new.self c.args.out.now c.push_shown.new.out c.args.step (subst (λ n. Went c.args.replayer.now c.goto.new.self n) c.in_ok-goto.ensures.step c.in_ok-goto.ensures.went) c.choose_innermost.ensures)
    c.push_shown.ensures
