use Rattle.std.proofs.Common.{◌-◌, leb, suc, sym, subst, ◌≡◌, ◌∙◌, rules, of_calls, arith}
use Rattle.std.proofs.lemmas.List.Sorted.{IsPartitionedBy-leb, IsPartitionPoint-from_clause}
use Rattle.dwarf_line.specs.inner.Order.{address_at}
use Rattle.dwarf_line.proofs.HalvingLaws.{IsPoint}
use Rattle.dwarf_line.proofs.OrderLaws.{order_rises, none_in_order, nearest_in_order}
use Rattle.dwarf_line.proofs.rows.nearest_by.Goals as goal

pub returns-then-count-eq0 : goal.returns-then-count-eq0
returns-then-count-eq0 c =
    let point = IsPartitionPoint-from_clause (λ n. leb (address_at c.args.rows.now n) c.args.address) c.args.order.now c.partition_point-count.result c.partition_point-count.ensures.partitioned
    (IsPartitionedBy-leb (address_at c.args.rows.now) c.args.order.now c.args.address (order_rises c.args.rows.now c.args.order.now c.requires)) (λ a r f k. search (rules, of_calls)) in
    sym (none_in_order c.args.address c.args.rows.now c.args.order.now c.requires (subst (λ i. IsPoint (address_at c.args.rows.now) c.args.address c.args.order.now i) c.if-count-eq0.true point))

pub returns : goal.returns
returns c =
    let count = c.partition_point-count.result in
    let point = IsPartitionPoint-from_clause (λ n. leb (address_at c.args.rows.now n) c.args.address) c.args.order.now count c.partition_point-count.ensures.partitioned
    (IsPartitionedBy-leb (address_at c.args.rows.now) c.args.order.now c.args.address (order_rises c.args.rows.now c.args.order.now c.requires)) (λ a r f k. search (rules, of_calls)) in
    let some : count ≡ suc (count - 1) = omega (arith, c.if-count-eq0.false) in
    let near = nearest_in_order c.args.address c.args.rows.now c.args.order.now (count - 1) _ c.requires (subst (λ i. IsPoint (address_at c.args.rows.now) c.args.address c.args.order.now i) some point) (omega (arith, c.partition_point-count.ensures.bound, some)) in
    c.row_at.ensures ∙ sym near
