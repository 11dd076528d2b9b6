use Rattle.rewrite_code.specs.calls.Places.{place}
use Rattle.rewrite_code.proofs.Pieces.{emits_then}
use Rattle.rewrite_code.proofs.Loads.{when_ok}
use Rattle.guard_insert.proofs.Guarding.{next_zero}
use Rattle.guard_insert.proofs.division.guard_signed.Goals as goal

pub returns : goal.returns
returns c =
    when_ok (emits_then (emits_then c.in_ok-overflow_test.ensures (next_zero c.args.context.now c.args.t (place c.args.divisor) c.args.height c.above-upper.ensures c.in_ok-guard_zero.ensures))) c.basic.result c.basic.ensures
