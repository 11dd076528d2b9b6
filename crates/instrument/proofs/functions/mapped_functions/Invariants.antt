use Rattle.std.proofs.Common.{◌≡◌, map, take}
use Rattle.rewrite_bodies.specs.Numbering.{mapped}
use Rattle.instrument.proofs.functions.mapped_functions.Given as goal

abbrev pub invariant-loop-function : goal.invariant-loop-function
invariant-loop-function l = l.out ≡ map (mapped l.numbers) (take l.function-index l.functions)
