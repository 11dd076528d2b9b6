use Rattle.replay_command.proofs.Turns.{on_ok_to, step_line}
use Rattle.replay_command.proofs.texts.push_step.Goals as goal

pub returns : goal.returns
returns c = λ o is.
    on_ok_to c.push_str.result _ _
    (step_line c.args.step c.args.end o c.args.out.now c.push_number.new.out c.push_number-2.new.out c.push_ending_at.new.out c.push_str.new.self c.in_ok-push_number.ensures c.in_ok-push_number-2.ensures (c.in_ok-push_ending_at.ensures o is))
    c.push_str.ensures.ok
