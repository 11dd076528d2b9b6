use Rattle.std.proofs.Common.{take}
use Rattle.std.specs.List.{AllByRecursion}
use Rattle.rewrite_modules.specs.Instrumentable.{SmallInstr}
use Rattle.instrument.proofs.accesses.code_is_small.Given as goal

abbrev pub invariant-loop-op : goal.invariant-loop-op
invariant-loop-op l = AllByRecursion (λ o. SmallInstr o.code) (take l.op-index l.ops)
