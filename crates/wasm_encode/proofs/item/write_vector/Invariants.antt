use Rattle.std.proofs.Common.{◌≡◌, ◌++◌, take}
use Rattle.std.specs.List.{flat_map, AllByRecursion}
use Rattle.wasm_encode.proofs.item.write_vector.Given as goal

abbrev pub invariant-loop-item : goal.invariant-loop-item
invariant-loop-item g l = record {
  written : l.out.items ≡ l.initial.out.items ++ flat_map g.T.Item.bytes (take l.item-index l.items);
  fit : AllByRecursion g.T.Item.fits (take l.item-index l.items);
}
