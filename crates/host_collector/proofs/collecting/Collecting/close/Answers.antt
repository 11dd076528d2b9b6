use Rattle.host_collector.proofs.collecting.Collecting.close.Goals as goal

pub returns-clause-torn : goal.returns-clause-torn
returns-clause-torn g c at = rw c.calls.ensures at (c.close.ensures.torn at)
