use Rattle.std.proofs.Common.{◌≡◌, drop}
use Rattle.wasm_decode.specs.Decode.{first_other, other_from}
use Rattle.wasm_decode.proofs.module.first_other.Given as goal

abbrev pub invariant-loop-imported : goal.invariant-loop-imported
invariant-loop-imported l = record {
  counted : l.index ≡ l.imported-index;
  so_far : first_other l.imports ≡ other_from l.index (drop l.imported-index l.imports);
}
