use Rattle.std.proofs.Common.{ltb, sym, ap, ◌∙◌, rules, of_calls}
use Rattle.std.proofs.lemmas.List.Sorted.{IsPartitionedBy-ltb, IsPartitionPoint-from_clause}
use Rattle.dwarf_info.specs.inner.Settling.{placed_by}
use Rattle.dwarf_info.proofs.PlaceLaws.{at_of, ascends_all, found_at}
use Rattle.dwarf_info.proofs.places.halved.Goals as goal

pub returns : goal.returns
returns c =
    let point = IsPartitionPoint-from_clause (λ e. ltb (at_of e) c.args.at) c.args.entries.now c.partition_point-count.result c.partition_point-count.ensures.partitioned
    (IsPartitionedBy-ltb at_of c.args.entries.now c.args.at (ascends_all c.args.entries.now 0 c.requires)) (λ a r f k. search (rules, of_calls)) in
    c.place_if.ensures ∙ ap (placed_by c.args.at) c.entry_at.ensures ∙ sym (found_at c.args.entries.now 0 c.args.at c.partition_point-count.result c.requires point)
