use Rattle.std.proofs.Common.{◌≡◌, ◌≤◌, map, drop}
use Rattle.std.specs.Prelude.{max}
use Rattle.wasm_syntax.specs.Sizes.{deepest}
use Rattle.wasm_syntax.proofs.sizes.most_open.Given as goal

abbrev pub invariant-loop-op : goal.invariant-loop-op
invariant-loop-op l = record {
  so_far : deepest 0 (map (λ o. o.code) l.ops) ≡ max l.most (deepest l.depth (map (λ o. o.code) (drop l.op-index l.ops)));
  below : l.depth ≤ l.most;
  few : l.depth ≤ l.op-index;
}
