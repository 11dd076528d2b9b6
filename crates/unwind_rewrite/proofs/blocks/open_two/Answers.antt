use Rattle.rewrite_code.proofs.Loads.{when_ok}
use Rattle.unwind_rewrite.proofs.Branching.{two_opened}
use Rattle.unwind_rewrite.proofs.blocks.open_two.Goals as goal

pub returns : goal.returns
returns c = when_ok (two_opened c.in_ok-open_block.ensures) c.open_block-2.result c.open_block-2.ensures
