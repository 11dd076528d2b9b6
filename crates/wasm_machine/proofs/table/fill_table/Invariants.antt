use Rattle.std.proofs.Common.{◌≡◌, drop}
use Rattle.std.specs.Prelude.{fold}
use Rattle.wasm_syntax.specs.calls.Starting.{put_element}
use Rattle.wasm_machine.proofs.table.fill_table.Given as goal

abbrev pub invariant-loop-element : goal.invariant-loop-element
invariant-loop-element l = fold (put_element l.fn.m) l.table (drop l.element-index l.elements) ≡ fold (put_element l.fn.m) l.initial.table l.elements
