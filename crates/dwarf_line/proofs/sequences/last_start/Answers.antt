use Rattle.std.proofs.Common.{leb, sym, subst, rules, of_calls}
use Rattle.std.proofs.lemmas.List.Sorted.{IsPartitionedBy-leb, IsPartitionPoint-from_clause}
use Rattle.dwarf_line.proofs.HalvingLaws.{IsPoint, ascends_all, none_reached, reached_at}
use Rattle.dwarf_line.proofs.StartLaws.{first_of}
use Rattle.dwarf_line.proofs.sequences.last_start.Goals as goal

pub returns-then-count-eq0 : goal.returns-then-count-eq0
returns-then-count-eq0 c =
    let point = IsPartitionPoint-from_clause (λ r. leb (first_of r) c.args.address) c.args.starts.now c.partition_point-count.result c.partition_point-count.ensures.partitioned
    (IsPartitionedBy-leb first_of c.args.starts.now c.args.address (ascends_all first_of c.args.starts.now 0 c.requires)) (λ a r f k. search (rules, of_calls)) in
    sym (none_reached first_of c.args.address c.args.starts.now (subst (λ i. IsPoint first_of c.args.address c.args.starts.now i) c.if-count-eq0.true point))

pub returns : goal.returns
returns c =
    let point = IsPartitionPoint-from_clause (λ r. leb (first_of r) c.args.address) c.args.starts.now c.partition_point-count.result c.partition_point-count.ensures.partitioned
    (IsPartitionedBy-leb first_of c.args.starts.now c.args.address (ascends_all first_of c.args.starts.now 0 c.requires)) (λ a r f k. search (rules, of_calls)) in
    sym (reached_at first_of c.args.address c.args.starts.now c.partition_point-count.result _ point c.if-count-eq0.false c.partition_point-count.ensures.bound)
