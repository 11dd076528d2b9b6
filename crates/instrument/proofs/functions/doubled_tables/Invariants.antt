use Rattle.std.proofs.Common.{◌≡◌, map, take}
use Rattle.rewrite_modules.specs.Interface.{doubled}
use Rattle.instrument.proofs.functions.doubled_tables.Given as goal

abbrev pub invariant-loop-limits : goal.invariant-loop-limits
invariant-loop-limits l = l.out ≡ map doubled (take l.limits-index l.tables)
