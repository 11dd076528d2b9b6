use Rattle.std.proofs.Common.{leb, sym, subst, rules, of_calls}
use Rattle.std.proofs.lemmas.List.Sorted.{IsPartitionedBy-leb, IsPartitionPoint-from_clause}
use Rattle.dwarf_line.proofs.HalvingLaws.{IsPoint, address_of, ascends_all, none_reached, reached_at}
use Rattle.dwarf_line.proofs.rows.last_reached.Goals as goal

pub returns-then-count-eq0 : goal.returns-then-count-eq0
returns-then-count-eq0 c =
    let point = IsPartitionPoint-from_clause (λ r. leb (address_of r) c.args.address) c.args.rows.now c.partition_point-count.result c.partition_point-count.ensures.partitioned
    (IsPartitionedBy-leb address_of c.args.rows.now c.args.address (ascends_all address_of c.args.rows.now 0 c.requires)) (λ a r f k. search (rules, of_calls)) in
    sym (none_reached address_of c.args.address c.args.rows.now (subst (λ i. IsPoint address_of c.args.address c.args.rows.now i) c.if-count-eq0.true point))

pub returns : goal.returns
returns c =
    let point = IsPartitionPoint-from_clause (λ r. leb (address_of r) c.args.address) c.args.rows.now c.partition_point-count.result c.partition_point-count.ensures.partitioned
    (IsPartitionedBy-leb address_of c.args.rows.now c.args.address (ascends_all address_of c.args.rows.now 0 c.requires)) (λ a r f k. search (rules, of_calls)) in
    sym (reached_at address_of c.args.address c.args.rows.now c.partition_point-count.result _ point c.if-count-eq0.false c.partition_point-count.ensures.bound)
