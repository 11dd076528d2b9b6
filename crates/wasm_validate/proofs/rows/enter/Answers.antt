use Rattle.std.proofs.Common.{◌≡◌, ◌∙◌, ap}
use Rattle.std.specs.Prelude.{Some, slice_get}
use Rattle.wasm_laws.proofs.Lists.{get_within}
use Rattle.wasm_validate.proofs.RowLaws.{rows_next, when_ok}
use Rattle.wasm_validate.proofs.rows.enter.Goals as goal

pub returns-in_ok-reach-in-Some : goal.returns-in_ok-reach-in-Some
returns-in_ok-reach-in-Some c = λ marks e h.
    let rows = c.reach.new.rows.items in
    let k = c.in-Some.mark in
    let there : slice_get marks c.args.op ≡ Some (Some k) = e ∙ ap (λ x. Some x) c.in-Some.is in
    let g = get_within rows k.height c.in_ok-reach-in-Some.ensures.reached in
    when_ok c.add.result (λ q. rows_next rows c.add.new.rows.items marks c.args.op k g.0 (c.in_ok-reach-in-Some.ensures.same marks c.args.op h) there g.1 q) (c.add.ensures g.0 g.1)
