use Rattle.std.proofs.Common.{subst, Err}
use Rattle.wasm_syntax.specs.Run.{element_out, data_out}
use Rattle.wasm_machine.specs.calls.Instances.{Begins}
use Rattle.selftest_command.proofs.Runs.{segment_cause}
use Rattle.selftest_command.proofs.Alone.{alone_not_begun}
use Rattle.selftest_command.proofs.original.no_dump.Goals as goal

pub returns-in-ElementOut : goal.returns-in-ElementOut
returns-in-ElementOut c = λ n m whole begins. alone_not_begun n m whole _ (segment_cause n m (element_out c.in-ElementOut.index) (subst (λ f. Begins (Err f) m) c.in-ElementOut.is begins))

pub returns-in-DataOut : goal.returns-in-DataOut
returns-in-DataOut c = λ n m whole begins. alone_not_begun n m whole _ (segment_cause n m (data_out c.in-DataOut.index) (subst (λ f. Begins (Err f) m) c.in-DataOut.is begins))
