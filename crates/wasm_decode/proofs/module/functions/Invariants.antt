use Rattle.std.proofs.Common.{◌≡◌, ◌++◌}
use Rattle.std.specs.Vec.Iter.{into_iter_items}
use Rattle.wasm_decode.specs.Decode.{functions_of}
use Rattle.wasm_decode.proofs.module.functions.Given as goal

abbrev pub invariant-loop-imported : goal.invariant-loop-imported
invariant-loop-imported l = functions_of l.fn.imports ≡ l.functions.items ++ functions_of (into_iter_items l.imported-iterator)
