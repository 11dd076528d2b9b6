use Rattle.std.proofs.Common.{◌≡◌, ◌-◌, length, ap}
use Rattle.rewrite_code.specs.calls.Places.{place}
use Rattle.rewrite_code.proofs.Loads.{when_ok}
use Rattle.guard_insert.proofs.Guarding.{copied}
use Rattle.guard_insert.proofs.choice.guard_copied.Goals as goal

pub returns : goal.returns
returns c =
    let height : c.len.result - 3 ≡ length c.args.places.now - 3 = ap (λ n. n - 3) c.len.ensures in
    when_ok (copied c.args.context.now c.args.places.now (place c.in-Some-peek-2.len) (place c.in-Some-peek.second) (place c.in-Some.to) (c.len.result - 3) c.in-Some-peek-2.ensures c.in-Some-peek.ensures c.in-Some.ensures height)
    c.guard_copy.result c.guard_copy.ensures
