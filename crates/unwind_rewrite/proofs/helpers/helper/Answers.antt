use Rattle.rewrite_code.proofs.Loads.{when_ok}
use Rattle.unwind_rewrite.proofs.Bodies.{helper_written}
use Rattle.unwind_rewrite.proofs.helpers.helper.Goals as goal

pub returns : goal.returns
returns c = λ m t are.
    when_ok (helper_written m t c.args.labels.now are c.in_ok-open_two.ensures c.in_ok-open_two-2.ensures c.in_ok-select.ensures c.in_ok-close_says.ensures c.in_ok-close_says-2.ensures c.in_ok-close_says-3.ensures) c.close_says-4.result c.close_says-4.ensures
