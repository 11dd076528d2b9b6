use Rattle.std.proofs.Common.{◌++◌, ◌+◌, ◌-◌, ap, sym, ◌∙◌}
use Rattle.dwarf_line.specs.inner.Order.{numbers_from}
use Rattle.dwarf_line.proofs.OrderLaws.{numbers_on}
use Rattle.dwarf_line.proofs.rows.numbers.Goals as goal

pub loop-number-preserved : goal.loop-number-preserved
loop-number-preserved c =
    let n = c.loop-number.number in
    ap (λ l. l ++ numbers_from (n + 1) (c.args.count - (n + 1))) c.in_ok-push.ensures.items ∙ sym (numbers_on c.loop-number.numbers.items n c.args.count c.loop-number-test.true) ∙ c.loop-number.invariant
