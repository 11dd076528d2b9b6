use Rattle.std.proofs.Common.{◌≡◌, ℕ, ◌+◌, ◌-◌, ◌<◌, ◌≤◌, List, length, ap, sym, ◌∙◌, arith}
use Rattle.linear_memory.specs.Memory.{window, splice}
use Rattle.linear_memory.specs.inner.Table.{contents}
use Rattle.linear_memory.proofs.Contents.{length-contents}
use Rattle.linear_memory.proofs.Moves.{forward_part, backward_part}
use Rattle.linear_memory.proofs.table.move_all.Goals as goal

pub loop-done-preserved : goal.loop-done-preserved
loop-done-preserved c =
    let xs = contents c.args.pages.now in let to = c.args.to in let from = c.args.from in let done = c.loop-done.done in let part = c.min.result in
    let sum : done + part ≤ c.args.len = omega (arith, c.min.ensures, c.loop-done.invariant.0) in
    let inside : from + done + part ≤ length xs = omega (arith, c.requires.inside, sum, length-contents c.args.pages.now c.requires.whole) in (
      omega (arith, sum, c.move_part-step.ensures.len),
      c.move_part-step.ensures.whole,
      c.move_part-step.ensures.made ∙ c.loop-done.invariant.2,
      c.move_part-step.ensures.contents
          ∙ ap (λ (l : List ℕ). splice l (to + done) (window l (from + done) part)) c.loop-done.invariant.3
          ∙ forward_part xs to from done part c.if-to-from.true inside
          ∙ ap (λ (k : ℕ). splice xs to (window xs from (done + k))) (sym c.move_part-step.ensures.len),
    )

pub loop-left-preserved : goal.loop-left-preserved
loop-left-preserved c =
    let xs = contents c.args.pages.now in let to = c.args.to in let from = c.args.from in let len = c.args.len in let left = c.loop-left.left in
    let part = c.min-part.result in let i = left - part in let now = contents c.loop-left.pages in
    let le : part ≤ left = omega (arith, c.min-part.ensures) in
    let whole : left ≡ i + part = omega (arith, le) in
    let to_i : to + left - part ≡ to + i = omega (arith, le) in
    let from_i : from + left - part ≡ from + i = omega (arith, le) in
    let below : from < to = omega (arith, c.if-to-from.false) in
    let inside : to + (i + part) + (len - left) ≤ length xs = omega (arith, whole, c.loop-left.invariant.0, c.requires.inside, length-contents c.args.pages.now c.requires.whole) in
    let count : part + (len - left) ≡ len - i = omega (arith, le, c.loop-left.invariant.0) in (
      omega (arith, c.loop-left.invariant.0),
      c.move_part-step-in-loop-left.ensures.whole,
      c.move_part-step-in-loop-left.ensures.made ∙ c.loop-left.invariant.2,
      c.move_part-step-in-loop-left.ensures.contents
          ∙ ap (λ (k : ℕ). splice now k (window now (from + left - part) part)) to_i
          ∙ ap (λ (k : ℕ). splice now (to + i) (window now k part)) from_i
          ∙ ap (λ (l : List ℕ). splice l (to + i) (window l (from + i) part)) (c.loop-left.invariant.3 ∙ ap (λ (k : ℕ). splice xs (to + k) (window xs (from + k) (len - left))) whole)
          ∙ backward_part xs to from i part (len - left) below inside
          ∙ ap (λ (k : ℕ). splice xs (to + i) (window xs (from + i) k)) count
          ∙ ap (λ (k : ℕ). splice xs (to + (left - k)) (window xs (from + (left - k)) (len - (left - k)))) (sym c.move_part-step-in-loop-left.ensures.len),
    )
