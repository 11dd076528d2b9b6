use Rattle.rewrite_code.proofs.Loads.{when_ok}
use Rattle.unwind_rewrite.proofs.Landings.{body_opened}
use Rattle.unwind_rewrite.proofs.exits.open_body.Goals as goal

pub returns : goal.returns
returns c = when_ok (body_opened c.args.context.now c.gives.result c.gives.ensures c.in_ok-measure.ensures c.in_ok-open_block.ensures c.in_ok-open_landings.ensures) c.open_block-2.result c.open_block-2.ensures
