use Rattle.unwind_rewrite.proofs.NodeLaws.{if_begun}
use Rattle.unwind_rewrite.proofs.instructions.write_if.Goals as goal

pub returns : goal.returns
returns c = λ p o.
    if_begun c.args.context.now p o c.args.gives c.args.walk.now c.open.new.self c.perform.new.self c.places.result.now c.in_ok-perform.ensures c.places.ensures c.in_ok-open.ensures c.in_ok-open_if.ensures.one_arm c.in_ok-open_if.ensures.two_arms
