use Rattle.unwind_rewrite.proofs.NodeLaws.{loop_begun}
use Rattle.unwind_rewrite.proofs.instructions.write_loop.Goals as goal

pub returns : goal.returns
returns c = λ p o. loop_begun c.args.context.now p o c.args.gives c.args.walk.now c.open.new.self c.places.result.now c.places.ensures c.in_ok-open.ensures c.in_ok-open_loop.ensures
