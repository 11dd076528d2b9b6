use Rattle.std.proofs.Common.{◌≡◌, suc, ◌+◌, ◌-◌, length, ap, arith}
use Rattle.rewrite_code.specs.calls.Places.{place}
use Rattle.rewrite_code.proofs.Loads.{when_ok}
use Rattle.unwind_rewrite.proofs.Calling.{through_table}
use Rattle.unwind_rewrite.proofs.calls.call_through_table.Goals as goal

pub returns : goal.returns
returns c = λ e es helps is.
    let count : length c.as_slice.result.now + 1 ≡ suc (length c.args.ftype.now.params) = omega (arith, ap length c.as_slice.ensures) in
    let height : c.len.result - 1 ≡ length c.args.site.now.places.now - 1 = ap (λ k. k - 1) c.len.ensures in
    when_ok (through_table c.args.context.now c.args.site.now.labels c.args.site.now.places.now e (place c.in-Some.entry) es c.args.site.now.offset c.args.numbers.index c.args.numbers.helper (c.len.result - 1) (length c.as_slice.result.now + 1) c.args.ftype.now c.result_type-gives.result helps is c.in-Some.ensures height count c.result_type-gives.ensures
    c.in_ok-keep_verdict.ensures c.in_ok-call_where_sound.ensures c.in_ok-test_both.ensures) c.end_call.result c.end_call.ensures
