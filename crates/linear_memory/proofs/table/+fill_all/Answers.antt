use Rattle.std.proofs.Common.{ℕ, ◌+◌, ◌-◌, ◌≤◌, List, length, replicate, ap, ◌∙◌, arith}
use Rattle.linear_memory.specs.Memory.{splice}
use Rattle.linear_memory.specs.inner.Table.{contents}
use Rattle.linear_memory.proofs.Contents.{length-contents}
use Rattle.linear_memory.proofs.Moves.{fill_twice}
use Rattle.linear_memory.proofs.table.+fill_all.Goals as goal

pub returns-clause-contents : goal.returns-clause-contents
returns-clause-contents t c =
    let at = c.args.at in let len = c.args.len in let v = c.args.byte in let step = c.min-step.result in let xs = contents c.args.pages.now in
    let le : step ≤ len = omega (arith, c.min-step.ensures) in
    let inside : at + len ≤ length xs = omega (arith, c.requires.inside, length-contents c.args.pages.now c.requires.whole) in
    c.fill_all.ensures.contents
    ∙ ap (λ (l : List ℕ). splice l (at + step) (replicate (len - step) v)) c.fill_in.ensures.contents
    ∙ fill_twice xs at step len v le inside
