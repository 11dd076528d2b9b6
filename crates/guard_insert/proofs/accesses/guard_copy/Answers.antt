use Rattle.std.proofs.Common.{◌≡◌, suc, refl, arith}
use Rattle.rewrite_code.specs.calls.Places.{place}
use Rattle.rewrite_code.proofs.Pieces.{emits_then}
use Rattle.rewrite_code.proofs.Loads.{when_ok}
use Rattle.guard_insert.proofs.Guarding.{range_at}
use Rattle.guard_insert.proofs.accesses.guard_copy.Goals as goal

pub returns : goal.returns
returns c =
    let one : c.above-second.result ≡ suc c.args.height = omega (arith, c.above-second.ensures) in
    let two : c.above-third.result ≡ suc (suc c.args.height) = omega (arith, c.above-third.ensures) in
    when_ok (emits_then (emits_then (range_at c.args.context.now (place c.args.from) (place c.args.len) one two c.in_ok-range_test.ensures) (range_at c.args.context.now (place c.args.to) (place c.args.len) refl two c.in_ok-range_test-2.ensures))) c.basic.result c.basic.ensures
