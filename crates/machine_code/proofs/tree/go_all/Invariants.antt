use Rattle.std.proofs.Common.{◌≡◌, ◌<◌, ◌++◌, List, map, reverse, length, take}
use Rattle.std.specs.Prelude.{Some}
use Rattle.machine_code.specs.declared.tree.Letter.{Letter}
use Rattle.machine_code.specs.inner.Tree.{IsTree, Extends, reaches, letter_of}
use Rattle.machine_code.proofs.tree.go_all.Given as goal

abbrev pub invariant-loop-t : goal.invariant-loop-t
invariant-loop-t l = record {
  tree : IsTree l.nodes.items;
  extends : Extends l.initial.nodes.items l.nodes.items;
  there : l.to < length l.nodes.items;
  goes : ((w : List Letter) → reaches l.initial.nodes.items w ≡ Some l.fn.at → reaches l.nodes.items (reverse (map letter_of (take l.t-index l.types)) ++ w) ≡ Some l.to);
}
