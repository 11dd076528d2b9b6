use Rattle.machine_basics.proofs.Keeping.{operands_keep}
use Rattle.machine_basics.proofs.laws.effects_keep.Goals as goal

pub returns : goal.returns
returns c = λ i w locals operands. operands_keep w locals i operands
