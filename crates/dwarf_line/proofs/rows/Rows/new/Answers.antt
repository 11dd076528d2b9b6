use Rattle.std.proofs.Common.{◌≡◌, false, sym, subst}
use Rattle.dwarf_line.specs.inner.Order.{IsOrder, Serves}
use Rattle.dwarf_line.proofs.OrderLaws.{order_serves}
use Rattle.dwarf_line.proofs.rows.Rows.new.Goals as goal

pub invariant_of-result-in-Ok : goal.invariant_of-result-in-Ok
invariant_of-result-in-Ok c =
    let is : IsOrder c.in-Ok.order.items c.args.rows = subst (λ rows. IsOrder c.in-Ok.order.items rows) c.as_slice-2.ensures c.in-Ok.ensures in
    subst (λ t. Serves t c.in-Ok.order.items c.args.rows) (sym c.if-ascend.false) (order_serves c.in-Ok.order.items c.args.rows is)
