use Rattle.std.proofs.Common.{[], ◌∷◌, ◌++◌, take, All, sym, ap, subst, ◌∙◌}
use Rattle.std.proofs.lemmas.List.{take_more}
use Rattle.std.proofs.lemmas.List.Elements.{All-push}
use Rattle.dump_write.proofs.Lists.{one_more}
use Rattle.dump_write.proofs.parts.encode_vector.Goals as goal

pub loop-item-preserved : goal.loop-item-preserved
loop-item-preserved g c =
    let xs = c.args.items.now in
    let i = c.loop-item.item-index in
    let x = c.item-item.result in
    let P = g.T.Encode.IsTyped in
    let grown = take_more xs i x c.loop-item-test.true ∙ ap (λ y. take i xs ++ y ∷ []) (sym c.item-item.is) in
    record {
      bytes = one_more g.T.Encode.bytes xs i x _ _ _ c.loop-item-test.true c.item-item.is c.loop-item.invariant.bytes c.in_ok-encode.ensures.bytes;
      typed = subst (All P) (sym grown) (All-push P (take i xs) x c.loop-item.invariant.typed c.in_ok-encode.ensures.typed);
    }
