use Rattle.std.proofs.Common.{◌≡◌, ◌++◌, take}
use Rattle.std.specs.List.{flat_map, AllByRecursion}
use Rattle.wasm_format.specs.Encoding.{encoding, IsCode}
use Rattle.wasm_encode.proofs.expression.write_expression.Given as goal

abbrev pub invariant-loop-op : goal.invariant-loop-op
invariant-loop-op l = record {
  written : l.out.items ≡ l.initial.out.items ++ flat_map (λ o. encoding l.body.targets o.code) (take l.op-index l.body.ops);
  fit : AllByRecursion (λ o. IsCode l.body.targets o.code) (take l.op-index l.body.ops);
}
