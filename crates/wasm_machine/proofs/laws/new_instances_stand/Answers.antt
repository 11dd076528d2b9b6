use Rattle.wasm_machine.proofs.StandingLaws.{new_stands}
use Rattle.wasm_machine.proofs.laws.new_instances_stand.Goals as goal

pub returns : goal.returns
returns c = λ m s p replies new is. new_stands m s p replies new is
