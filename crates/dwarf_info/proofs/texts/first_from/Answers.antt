use Rattle.std.proofs.Common.{ltb, sym, ◌∙◌, rules, of_calls}
use Rattle.std.proofs.lemmas.List.Sorted.{IsPartitionedBy-ltb, IsPartitionPoint-from_clause}
use Rattle.dwarf_info.proofs.TextLaws.{found_at}
use Rattle.dwarf_info.proofs.texts.first_from.Goals as goal

pub returns : goal.returns
returns c =
    let point = IsPartitionPoint-from_clause (λ z. ltb z c.args.at) c.args.offsets.now c.partition_point-count.result c.partition_point-count.ensures.partitioned
    (IsPartitionedBy-ltb (λ z. z) c.args.offsets.now c.args.at c.requires) (λ a r f k. search (rules, of_calls)) in
    c.offset_at.ensures ∙ sym (found_at c.args.at c.args.offsets.now c.partition_point-count.result point)
