use Rattle.operand_spill.proofs.Apart.{apart, behind, counted}
use Rattle.operand_spill.proofs.laws.slots_are_apart.Goals as goal

pub returns : goal.returns
returns c = record { distinct = apart; behind = behind; counted = counted }
