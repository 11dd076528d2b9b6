use Rattle.dump_write.specs.Pictured.{bytes_in}
use Rattle.selftest_command.proofs.Runs.{shown_line}
use Rattle.selftest_command.proofs.running.shown.Goals as goal

pub returns : goal.returns
returns c =
    shown_line c.args.count c.args.own.now c.args.calls.now (bytes_in c.args.instance.now.machine.shared.memory) c.args.instance.now.steps c.steps.result c.in_ok-handed.handed c.handed_summary.result
    (c.in_ok-handed.ensures.handed c.args.instance.now.machine.shared.memory c.memory.ensures.memory) c.handed_summary.ensures c.steps.ensures
