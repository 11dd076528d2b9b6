use Rattle.std.proofs.Common.{◌≡◌, ◌∷◌, ◌++◌, [], List, length, sym, ap, subst, ◌∙◌}
use Rattle.std.specs.Prelude.{ℕ, Some, slice_set}
use Rattle.machine_code.specs.declared.tree.Letter.{Letter}
use Rattle.machine_code.specs.declared.tree.Node.{Node}
use Rattle.machine_code.specs.inner.Tree.{IsTree, Extends, edge, with_edge, empty, reaches}
use Rattle.machine_code.proofs.TreeLaws.{next_is, goes, reaches_kept, grown, tree_grown, extends_grown, new_edge}
use Rattle.machine_code.proofs.tree.go.Goals as goal

pub returns-in-Some-clause-there : goal.returns-in-Some-clause-there
returns-in-Some-clause-there c =
    let e = sym (next_is c.args.nodes.now.items c.args.at c.args.letter c.index-node.result.now c.requires.there) ∙ ap (λ n. edge n c.args.letter) (sym c.index-node.ensures) ∙ sym c.in-Some.ensures in
    (c.requires.tree.later c.args.at c.args.letter c.in-Some.to e).1

pub returns-in-Some-clause-goes : goal.returns-in-Some-clause-goes
returns-in-Some-clause-goes c = λ w q.
    let e = sym (next_is c.args.nodes.now.items c.args.at c.args.letter c.index-node.result.now c.requires.there) ∙ ap (λ n. edge n c.args.letter) (sym c.index-node.ensures) ∙ sym c.in-Some.ensures in
    goes c.args.nodes.now.items w c.args.at c.args.letter c.in-Some.to q e

-- the nodes then
grown_as : (ns more : List Node) (at : ℕ) (a : Letter) (node leaf put : Node) (k : ℕ) → more ≡ ns ++ leaf ∷ [] → leaf ≡ empty → put ≡ with_edge node a k → k ≡ length ns → slice_set more at put ≡ slice_set (ns ++ empty ∷ []) at (with_edge node a (length ns))
grown_as ns more at a node leaf put k m l p n = ap (λ z. slice_set z at put) (m ∙ ap (λ z. ns ++ z ∷ []) l) ∙ ap (λ z. slice_set (ns ++ empty ∷ []) at z) (p ∙ ap (with_edge node a) n)

pub returns-in_ok-push-in-None-clause-tree : goal.returns-in_ok-push-in-None-clause-tree
returns-in_ok-push-in-None-clause-tree c =
    let ns = c.args.nodes.now.items in
    let none = sym (next_is ns c.args.at c.args.letter c.index-node.result.now c.requires.there) ∙ ap (λ n. edge n c.args.letter) (sym c.index-node.ensures) ∙ sym c.in-None.ensures in
    let is = grown_as ns c.push.new.self.items c.args.at c.args.letter c.index-node.result.now c.leaf.result c.with_edge.result (length c.as_slice-to.result.now) c.in_ok-push-in-None.ensures.items c.leaf.ensures c.with_edge.ensures (ap length c.as_slice-to.ensures.value) in
    subst (λ (l : List Node). IsTree l) (sym is) (tree_grown ns c.requires.tree c.args.at c.args.letter c.index-node.result.now c.index-node.ensures c.requires.there none)

pub returns-in_ok-push-in-None-clause-extends : goal.returns-in_ok-push-in-None-clause-extends
returns-in_ok-push-in-None-clause-extends c =
    let ns = c.args.nodes.now.items in
    let none = sym (next_is ns c.args.at c.args.letter c.index-node.result.now c.requires.there) ∙ ap (λ n. edge n c.args.letter) (sym c.index-node.ensures) ∙ sym c.in-None.ensures in
    let is = grown_as ns c.push.new.self.items c.args.at c.args.letter c.index-node.result.now c.leaf.result c.with_edge.result (length c.as_slice-to.result.now) c.in_ok-push-in-None.ensures.items c.leaf.ensures c.with_edge.ensures (ap length c.as_slice-to.ensures.value) in
    subst (λ (l : List Node). Extends ns l) (sym is) (extends_grown ns c.requires.tree c.args.at c.args.letter c.index-node.result.now c.index-node.ensures c.requires.there none)

pub returns-in_ok-push-in-None-clause-goes : goal.returns-in_ok-push-in-None-clause-goes
returns-in_ok-push-in-None-clause-goes c = λ w q.
    let ns = c.args.nodes.now.items in
    let none = sym (next_is ns c.args.at c.args.letter c.index-node.result.now c.requires.there) ∙ ap (λ n. edge n c.args.letter) (sym c.index-node.ensures) ∙ sym c.in-None.ensures in
    let is = grown_as ns c.push.new.self.items c.args.at c.args.letter c.index-node.result.now c.leaf.result c.with_edge.result (length c.as_slice-to.result.now) c.in_ok-push-in-None.ensures.items c.leaf.ensures c.with_edge.ensures (ap length c.as_slice-to.ensures.value) in
    let new = grown ns c.requires.tree c.args.at c.args.letter c.index-node.result.now c.index-node.ensures c.requires.there none in
    let front = reaches_kept ns new (extends_grown ns c.requires.tree c.args.at c.args.letter c.index-node.result.now c.index-node.ensures c.requires.there none) w c.args.at q in
    let last = goes new w c.args.at c.args.letter (length ns) front (new_edge ns c.requires.tree c.args.at c.args.letter c.index-node.result.now c.index-node.ensures c.requires.there none) in
    subst (λ (l : List Node). reaches l (c.args.letter ∷ w) ≡ Some (length c.as_slice-to.result.now)) (sym is) (last ∙ ap Some (sym (ap length c.as_slice-to.ensures.value)))
