use Rattle.std.proofs.Common.{rules, of_calls}
use Rattle.std.specs.Prelude.{nat_le}
use Rattle.std.proofs.lemmas.List.Sorted.{IsPartitionedBy-leb, IsPartitionPoint-from_clause}
use Rattle.wasm_validate.proofs.RowLaws.{rises, none_up_to, last_up_to}
use Rattle.wasm_validate.proofs.rows.last_in.Goals as goal

pub returns-then-count-eq0 : goal.returns-then-count-eq0
returns-then-count-eq0 c =
    none_up_to c.args.row.now c.args.op c.partition_point-count.result c.if-count-eq0.true
    (IsPartitionPoint-from_clause (λ i. nat_le i c.args.op) c.args.row.now c.partition_point-count.result c.partition_point-count.ensures.partitioned
    (IsPartitionedBy-leb (λ i. i) c.args.row.now c.args.op (rises c.args.row.now c.requires)) (λ a r f k. search (rules, of_calls)))

pub returns : goal.returns
returns c =
    last_up_to c.args.row.now c.args.op c.partition_point-count.result c.if-count-eq0.false c.partition_point-count.ensures.bound c.requires
    (IsPartitionPoint-from_clause (λ i. nat_le i c.args.op) c.args.row.now c.partition_point-count.result c.partition_point-count.ensures.partitioned
    (IsPartitionedBy-leb (λ i. i) c.args.row.now c.args.op (rises c.args.row.now c.requires)) (λ a r f k. search (rules, of_calls)))
