use Rattle.std.proofs.Common.{take}
use Rattle.std.specs.List.{AllByRecursion}
use Rattle.rewrite_modules.specs.Instrumentable.{SmallInstr}
use Rattle.instrument.proofs.accesses.parts_are_small.Given as goal

abbrev pub invariant-loop-body : goal.invariant-loop-body
invariant-loop-body l = AllByRecursion (λ body. AllByRecursion (λ o. SmallInstr o.code) body.ops) (take l.body-index l.parts.bodies)
