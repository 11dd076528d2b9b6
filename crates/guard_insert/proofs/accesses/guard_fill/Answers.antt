use Rattle.std.proofs.Common.{◌≡◌, suc, refl, arith}
use Rattle.rewrite_code.specs.calls.Places.{place}
use Rattle.rewrite_code.proofs.Loads.{when_ok}
use Rattle.guard_insert.proofs.Guarding.{range_at}
use Rattle.guard_insert.proofs.accesses.guard_fill.Goals as goal

pub returns : goal.returns
returns c =
    let two : c.above-third.result ≡ suc (suc c.args.height) = omega (arith, c.above-third.ensures) in
    when_ok (range_at c.args.context.now (place c.args.to) (place c.args.len) refl two) c.range_test.result c.range_test.ensures
