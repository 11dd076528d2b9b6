use Rattle.replay.specs.Replays.{IsOutcome}
use Rattle.replay_command.proofs.Turns.{on_line, on_ok_to, found_next, found_none}
use Rattle.replay_command.proofs.moving.go_until.Goals as goal

pub returns-then-found : goal.returns-then-found
returns-then-found c =
    on_line c.push_shown.result (IsOutcome c.until.new.self.outcome) _ _
    (found_next c.args.replayer.now c.until.new.self c.args.viewer.now c.choose_innermost.new.self c.args.out.now c.push_shown.new.out c.args.function c.args.offset (rw c.if-found.true at c.in_ok-found.ensures.found) c.choose_innermost.ensures)
    c.push_shown.ensures

pub returns-else-found : goal.returns-else-found
returns-else-found c =
    on_ok_to c.push_str.result _ _
    (found_none c.args.replayer.now c.until.new.self c.args.viewer.now c.args.out.now c.push_str.new.self c.args.function c.args.offset (rw c.if-found.false at c.in_ok-found.ensures.found))
    c.push_str.ensures.ok
