use Rattle.rewrite_code.proofs.Loads.{when_ok}
use Rattle.rewrite_code.specs.calls.KeptLandings.{landing}
use Rattle.unwind_rewrite.proofs.Landings.{landing_written}
use Rattle.unwind_rewrite.proofs.exits.landing.Goals as goal

pub returns : goal.returns
returns c =
    when_ok (landing_written c.args.context.now (landing c.args.found.now) c.args.others c.kind_at.result c.kind_at.ensures c.in_ok-const_value.ensures c.in_ok-set.ensures c.in_ok-hand.ensures c.in_ok-hand_carried.ensures) c.branch-writer.result c.branch-writer.ensures
