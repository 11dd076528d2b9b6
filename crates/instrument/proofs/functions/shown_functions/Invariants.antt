use Rattle.std.proofs.Common.{◌≡◌, map, take}
use Rattle.rewrite_bodies.specs.Numbering.{shown}
use Rattle.instrument.proofs.functions.shown_functions.Given as goal

abbrev pub invariant-loop-function : goal.invariant-loop-function
invariant-loop-function l = l.out ≡ map (shown l.numbers) (take l.function-index l.functions)
