use Rattle.rewrite_code.proofs.Pieces.{emits_then}
use Rattle.rewrite_code.proofs.Loads.{when_ok}
use Rattle.guard_insert.proofs.division.guard_zero.Goals as goal

pub returns : goal.returns
returns c = when_ok (emits_then c.in_ok-fetch.ensures) c.basic.result c.basic.ensures
