use Rattle.std.proofs.Common.{sym, ap, ◌∙◌, reverse, length, drop, ◌-◌}
use Rattle.std.proofs.lemmas.List.{length-reverse}
use Rattle.pm_text.proofs.stack.Stack.keep.Goals as goal
use Rattle.pm_text.proofs.Lists.{reverse_take}

pub returns : goal.returns
returns g c =
    let xs = c.self.inside.items.items in
    ap reverse c.truncate.ensures.items ∙ reverse_take xs c.args.count ∙ ap (λ k. drop (k - c.args.count) (reverse xs)) (sym (length-reverse xs)) ∙ ap (λ l. drop (length l - c.args.count) l) c.self.view_is
