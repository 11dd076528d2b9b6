use Rattle.std.proofs.Common.{◌≡◌, subst}
use Rattle.std.specs.Prelude.{Some}
use Rattle.wasm_machine.specs.calls.Instances.{State, IsOf, Stopped}
use Rattle.wasm_machine.proofs.instance.Instance.last.Goals as goal

pub returns-clause-stopped : goal.returns-clause-stopped
returns-clause-stopped c = λ l p there is.
    subst (λ (s : State). s.last ≡ Some l → IsOf s p → Stopped s l p) c.self.view_is (λ kept of. c.self.invariant.stopped l kept p of) there is
