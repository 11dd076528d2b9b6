use Rattle.wasm_machine.proofs.SessionLaws.{goes_on_behind}
use Rattle.wasm_machine.proofs.laws.session_goes_on.Goals as goal

pub returns : goal.returns
returns c = λ M codes used_up i rest f due m m' left asked answer steps ready more e h came. goes_on_behind M codes used_up i rest f due m m' left asked answer steps ready more e h came
