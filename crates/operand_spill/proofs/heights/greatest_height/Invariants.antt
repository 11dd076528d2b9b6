use Rattle.operand_spill.specs.inner.Greatest.{IsGreatestUpTo}
use Rattle.operand_spill.proofs.heights.greatest_height.Given as goal

abbrev pub invariant-loop-op : goal.invariant-loop-op
invariant-loop-op l = IsGreatestUpTo l.source l.func l.op l.most
