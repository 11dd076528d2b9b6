use Rattle.std.proofs.Common.{rules, ap, ◌∙◌, reverse, length, drop, take, ◌-◌, ◌≡◌}
use Rattle.pm_text.proofs.Stacks.{discarded}
use Rattle.pm_text.proofs.stack.Stack.discard.Goals as goal

pub returns : goal.returns
returns g c =
    let xs = c.self.inside.items.items in
    let n : c.saturating_sub-kept.result ≡ length xs - c.args.count = search rules in
    ap reverse c.truncate.ensures.items ∙ ap (λ k. reverse (take k xs)) n ∙ discarded xs c.args.count ∙ ap (drop c.args.count) c.self.view_is
