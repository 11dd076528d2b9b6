use Rattle.std.proofs.Common.{◌≡◌, ◌++◌, map, take}
use Rattle.instrument.specs.inner.Parts.{written_element}
use Rattle.instrument.proofs.functions.push_inner.Given as goal

abbrev pub invariant-loop-element : goal.invariant-loop-element
invariant-loop-element l = l.out ≡ l.initial.out ++ map (written_element l.numbers) (take l.element-index l.element-items)
