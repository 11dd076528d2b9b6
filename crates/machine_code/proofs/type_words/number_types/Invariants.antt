use Rattle.std.proofs.Common.{◌≡◌, ℕ, length, take}
use Rattle.std.specs.Prelude.{Some, slice_get}
use Rattle.wasm_syntax.specs.declared.parts.FuncType.{FuncType}
use Rattle.machine_code.specs.inner.Tree.{IsTree, reaches, word}
use Rattle.machine_code.proofs.type_words.number_types.Given as goal

abbrev pub invariant-loop-ftype : goal.invariant-loop-ftype
invariant-loop-ftype l = record {
  tree : IsTree l.nodes.items;
  count : length l.numbers.items ≡ l.ftype-index;
  words : ((j : ℕ) (t : FuncType) (k : ℕ) → slice_get (take l.ftype-index l.types) j ≡ Some t → slice_get l.numbers.items j ≡ Some k → reaches l.nodes.items (word t) ≡ Some k);
}
