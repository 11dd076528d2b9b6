use Rattle.std.proofs.Common.{◌≡◌, ◌+◌, ◌<◌, ◌≤◌, ◌∷◌, [], get_or, length, sym, ap, ◌∙◌, arith, length-append}
use Rattle.std.specs.Prelude.{Some, slice_get}
use Rattle.machine_code.specs.inner.Tree.{reaches, word}
use Rattle.machine_code.proofs.WordLaws.{same_number}
use Rattle.machine_code.proofs.NumberLaws.{one_more, all_taken}
use Rattle.machine_code.proofs.type_words.number_types.Goals as goal

pub loop-ftype-preserved : goal.loop-ftype-preserved
loop-ftype-preserved c =
    let i = c.loop-ftype.ftype-index in
    let lt : i < length c.args.types.now = c.loop-ftype-test.true in
    let e : reaches c.number.new.nodes.items (word (get_or c.args.types.now i c.ftype-item.result)) ≡ Some c.in_ok-n.n = ap (λ t. reaches c.number.new.nodes.items (word t)) (sym c.ftype-item.is) ∙ c.in_ok-n.ensures.number in
    let more : length c.push.new.self.items ≡ i + 1 = omega (arith, ap length c.in_ok-push.ensures.items, length-append c.loop-ftype.numbers.items (c.in_ok-n.n ∷ []), c.loop-ftype.invariant.count) in
    record {
      tree = c.in_ok-n.ensures.tree;
      count = more;
      words = λ j t k p q. one_more c.args.types.now i c.ftype-item.result c.loop-ftype.numbers.items c.in_ok-n.n c.loop-ftype.nodes.items c.number.new.nodes.items lt c.loop-ftype.invariant.count c.in_ok-n.ensures.extends e c.loop-ftype.invariant.words j t k p (ap (λ l. slice_get l j) (sym c.in_ok-push.ensures.items) ∙ q);
    }

pub returns : goal.returns
returns c =
    let types = c.args.types.now in
    let i = c.loop-ftype.ftype-index in
    let ge : length types ≤ i = omega arith in
    let at_end : i ≡ length types = omega arith in
    let whole = all_taken types i ge in
    record {
      count = ap length c.from_vec.ensures ∙ c.loop-ftype.invariant.count ∙ at_end;
      same = λ m j a b k l p q r s. same_number c.loop-ftype.nodes.items c.loop-ftype.invariant.tree a b k l
          (c.loop-ftype.invariant.words m a k (ap (λ z. slice_get z m) whole ∙ p) (ap (λ z. slice_get z m) (sym c.from_vec.ensures) ∙ r))
          (c.loop-ftype.invariant.words j b l (ap (λ z. slice_get z j) whole ∙ q) (ap (λ z. slice_get z j) (sym c.from_vec.ensures) ∙ s));
    }
