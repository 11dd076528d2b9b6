use Rattle.rewrite_code.proofs.Pieces.{emits_then}
use Rattle.rewrite_code.proofs.Loads.{when_ok}
use Rattle.guard_insert.proofs.division.kind_signed.Goals as goal

pub returns : goal.returns
returns c =
    when_ok (emits_then (emits_then c.in_ok-const_value.ensures (emits_then c.in_ok-const_value-2.ensures c.in_ok-guard_zero.ensures))) c.basic.result c.basic.ensures
