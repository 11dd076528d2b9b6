use Rattle.std.proofs.Common.{◌*◌}
use Rattle.selftest_command.proofs.Ranges.{code_made}
use Rattle.selftest_command.proofs.code.function_code.Goals as goal

pub returns : goal.returns
returns c = λ e.
    code_made c.args.count c.args.i c.in_ok-last.last c.new-code.result c.push_beginning.new.code c.push_mixing.new.code c.push_ending.new.code c.push.new.self c.new-code.ensures c.in_ok-push_beginning.ensures
    (c.in_ok-last.ensures c.args.count (16 * c.args.i) e) c.in_ok-push_ending.ensures c.in_ok-push.ensures.ok
