use Rattle.std.proofs.Common.{◌≡◌, ◌++◌, map, take}
use Rattle.rewrite_modules.specs.calls.Instrument.{wrapper_type}
use Rattle.instrument.proofs.functions.push_wrappers.Given as goal

abbrev pub invariant-loop-function : goal.invariant-loop-function
invariant-loop-function l = l.out ≡ l.initial.out ++ map (wrapper_type l.parts) (take l.function-index l.functions)
