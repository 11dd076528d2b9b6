use Rattle.std.proofs.Common.{◌≡◌, ◌++◌, map, take}
use Rattle.rewrite_modules.specs.calls.Instrument.{shown_element}
use Rattle.instrument.proofs.functions.push_shown.Given as goal

abbrev pub invariant-loop-element : goal.invariant-loop-element
invariant-loop-element l = l.out ≡ l.initial.out ++ map (shown_element l.numbers) (take l.element-index l.element-items)
