use Rattle.std.proofs.Common.{ℕ, ◌+◌, ◌-◌, ◌≤◌, List, length, take, drop, ap, ◌∙◌, arith}
use Rattle.std.proofs.lemmas.List.{take_rest}
use Rattle.linear_memory.specs.Memory.{splice}
use Rattle.linear_memory.specs.inner.Table.{contents}
use Rattle.linear_memory.proofs.Contents.{put_twice, length-contents}
use Rattle.linear_memory.proofs.table.+put_all.Goals as goal

pub returns-clause-contents : goal.returns-clause-contents
returns-clause-contents t c =
    let bs = c.args.bytes.now in let step = c.min-step.result in let xs = contents c.args.pages.now in
    let le : step ≤ length bs = omega (arith, c.min-step.ensures) in
    let inside : c.args.at + length bs ≤ length xs = omega (arith, c.requires.inside, length-contents c.args.pages.now c.requires.whole) in
    c.put_all.ensures.contents
    ∙ ap (λ (l : List ℕ). splice l (c.args.at + step) (take (length bs - step) (drop step bs))) c.put_in.ensures.contents
    ∙ ap (λ (l : List ℕ). splice (splice xs c.args.at (take step bs)) (c.args.at + step) l) (take_rest bs step)
    ∙ put_twice xs bs c.args.at step le inside
