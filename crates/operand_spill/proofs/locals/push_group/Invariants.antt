use Rattle.std.proofs.Common.{◌≡◌, ◌++◌, replicate}
use Rattle.operand_spill.proofs.locals.push_group.Given as goal

abbrev pub invariant-loop-i : goal.invariant-loop-i
invariant-loop-i l = l.types ≡ l.fn.types ++ replicate l._i l.group.vtype
