use Rattle.std.proofs.Common.{rules, ◌≡◌, ◌-◌, ◌<◌, ap, ◌∙◌, length, reverse}
use Rattle.std.specs.Prelude.{slice_set}
use Rattle.pm_text.proofs.Stacks.{topmost_set}
use Rattle.pm_text.proofs.stack.Stack.set_top.Goals as goal

pub returns-then-count-gt0 : goal.returns-then-count-gt0
returns-then-count-gt0 g c =
    let xs = c.self.inside.items.items in
    let n : c.len-count.result ≡ length xs = search rules in
    let some : 0 < length xs = search rules in
    ap (λ k. reverse (slice_set xs (k - 1) c.args.x)) n ∙ topmost_set xs c.args.x some ∙ ap (λ l. slice_set l 0 c.args.x) c.self.view_is
