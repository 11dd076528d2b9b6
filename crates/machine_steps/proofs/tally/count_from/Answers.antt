use Rattle.std.proofs.Common.{◌≡◌, ◌+◌, ◌-◌, suc, ap, ◌∙◌, arith}
use Rattle.machine_steps.specs.inner.Cells.{cells_more, cells_run}
use Rattle.machine_steps.proofs.tally.count_from.Goals as goal

pub loop-index-init : goal.loop-index-init
loop-index-init c =
    let none : 0 ≡ c.args.start - c.args.start = omega arith in
    record { from = omega arith; few = omega arith; so_far = ap (cells_run c.args.cells.now c.args.start) none }

pub loop-index-preserved : goal.loop-index-preserved
loop-index-preserved c =
    let v = c.loop-index.invariant in
    let from = v.from in
    let lt = c.loop-index-test.true in
    let here : c.loop-index.index ≡ c.args.start + (c.loop-index.index - c.args.start) = omega (arith, from) in
    let one : suc (c.loop-index.index - c.args.start) ≡ (c.loop-index.index + 1) - c.args.start = omega (arith, from) in
    record {
      from = omega (arith, from);
      few = omega (arith, from, lt);
      so_far = c.count_in.ensures
          ∙ ap (λ l. cells_more l c.loop-index.index) v.so_far
          ∙ ap (cells_more (cells_run c.args.cells.now c.args.start (c.loop-index.index - c.args.start))) here
          ∙ ap (cells_run c.args.cells.now c.args.start) one;
    }

pub returns : goal.returns
returns c =
    let v = c.loop-index.invariant in
    let few = v.few in
    let past = c.loop-index-test.false in
    let all : c.loop-index.index - c.args.start ≡ c.args.end - c.args.start = omega (arith, few, past) in
    v.so_far ∙ ap (cells_run c.args.cells.now c.args.start) all
