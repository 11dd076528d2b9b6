use Rattle.wasm_validate.proofs.HeightLaws.{all_low}
use Rattle.wasm_validate.proofs.validated.Validated.module.Goals as goal

pub returns-clause-heights : goal.returns-clause-heights
returns-clause-heights c = rw (← c.self.view_is) (all_low c.self.inside.marks c.self.inside.«module» c.self.invariant.marked c.self.invariant.low)
