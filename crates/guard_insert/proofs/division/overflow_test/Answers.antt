use Rattle.rewrite_code.specs.calls.Places.{place}
use Rattle.rewrite_code.proofs.Pieces.{emits_then}
use Rattle.rewrite_code.proofs.Loads.{when_ok}
use Rattle.guard_insert.proofs.Guarding.{const_at, next_fetch}
use Rattle.guard_insert.proofs.division.overflow_test.Goals as goal

pub returns : goal.returns
returns c =
    when_ok (emits_then (emits_then c.in_ok-fetch.ensures (emits_then (const_at c.least.ensures c.in_ok-const_value.ensures) (emits_then c.in_ok-basic.ensures (emits_then (next_fetch c.args.context.now (place c.args.divisor) c.args.height c.above-upper.ensures c.in_ok-fetch-2.ensures) (emits_then (const_at c.minus_one.ensures c.in_ok-const_value-2.ensures) c.in_ok-basic-2.ensures)))))) c.basic-3.result c.basic-3.ensures
