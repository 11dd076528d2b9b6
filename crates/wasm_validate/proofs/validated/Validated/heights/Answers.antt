use Rattle.wasm_validate.proofs.HeightLaws.{heights_are}
use Rattle.wasm_validate.proofs.validated.Validated.heights.Goals as goal

pub returns : goal.returns
returns c = rw (← c.self.view_is) (heights_are c.self.inside.marks c.self.inside.«module» c.self.inside.heights c.self.invariant.marked c.self.invariant.heights_are)
