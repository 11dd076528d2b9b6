use Rattle.std.proofs.Common.{◌≡◌, ◌+◌, take, map}
use Rattle.std.specs.Prelude.{Some}
use Rattle.wasm_syntax.specs.Run.{over}
use Rattle.wasm_syntax.proofs.start.put_functions.Given as goal

abbrev pub invariant-loop-function : goal.invariant-loop-function
invariant-loop-function l = record {
  place : l.next ≡ l.fn.at + l.function-index;
  so_far : l.table ≡ over l.initial.table l.fn.at (map Some (take l.function-index l.functions));
}
