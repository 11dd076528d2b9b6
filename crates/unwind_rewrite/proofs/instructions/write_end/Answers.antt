use Rattle.rewrite_code.proofs.Loads.{when_ok}
use Rattle.unwind_rewrite.proofs.NodeLaws.{closed, below_fits}
use Rattle.unwind_rewrite.proofs.instructions.write_end.Goals as goal

pub close_block-requires : goal.close_block-requires
close_block-requires c = below_fits c.args.walk.now.opens c.below.result c.args.context.now.slots c.requires.«open» c.requires.room c.below.ensures

pub returns : goal.returns
returns c =
    when_ok (λ e. closed c.args.context.now c.args.passing c.args.walk.now c.close.new.self c.innermost.result c.end_gives-gives.result c.below.result c.innermost.ensures.block c.end_gives-gives.ensures c.below.ensures e c.in_ok-close_block.ensures) c.close.result c.close.ensures
