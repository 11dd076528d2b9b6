use Rattle.std.proofs.Common.{subst, Err}
use Rattle.wasm_syntax.specs.Run.{element_out, data_out}
use Rattle.wasm_machine.specs.calls.Instances.{Begins}
use Rattle.selftest_command.proofs.Runs.{segment_cause, none_begun}
use Rattle.selftest_command.proofs.running.not_begun.Goals as goal

pub returns-in-ElementOut : goal.returns-in-ElementOut
returns-in-ElementOut c = λ m own whole begins.
    none_begun c.args.count own m whole c.nothing_run.result (segment_cause c.args.count m (element_out c.in-ElementOut.index) (subst (λ f. Begins (Err f) m) c.in-ElementOut.is begins)) c.nothing_run.ensures

pub returns-in-DataOut : goal.returns-in-DataOut
returns-in-DataOut c = λ m own whole begins.
    none_begun c.args.count own m whole c.nothing_run-in-DataOut.result (segment_cause c.args.count m (data_out c.in-DataOut.index) (subst (λ f. Begins (Err f) m) c.in-DataOut.is begins)) c.nothing_run-in-DataOut.ensures
