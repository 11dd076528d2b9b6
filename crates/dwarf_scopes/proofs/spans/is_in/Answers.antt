use Rattle.std.proofs.Common.{◌≡◌, ◌<◌, ◌≤◌, true, false, length, ltb, leb, ap, sym, ◌∙◌, arith, rules, of_calls}
use Rattle.std.proofs.lemmas.List.Sorted.{IsPartitionPoint-from_clause}
use Rattle.dwarf_scopes.specs.declared.spans.Span.{Span}
use Rattle.dwarf_scopes.proofs.OrderLaws.{is_partitioned}
use Rattle.dwarf_scopes.proofs.SpanLaws.{begin, falling, none_passed, at_passed}
use Rattle.dwarf_scopes.proofs.spans.is_in.Goals as goal

pub returns-in-None : goal.returns-in-None
returns-in-None c =
    let spans = c.args.spans.now in let a = c.args.address in let i = c.partition_point-passed.result in
    let point = IsPartitionPoint-from_clause (λ (s : Span). ltb a s.first) spans i c.partition_point-passed.ensures.partitioned (is_partitioned begin a spans (falling spans c.requires)) (λ x r f k. search (rules, of_calls)) in
    let past : ltb i (length spans) ≡ false = sym c.in-None.ensures.lookup.0 in
    let le : length spans ≤ i = grind (arith, past) in
    sym (none_passed a spans i le point)

pub returns-in-Some : goal.returns-in-Some
returns-in-Some c =
    let spans = c.args.spans.now in let a = c.args.address in let i = c.partition_point-passed.result in
    let point = IsPartitionPoint-from_clause (λ (s : Span). ltb a s.first) spans i c.partition_point-passed.ensures.partitioned (is_partitioned begin a spans (falling spans c.requires)) (λ x r f k. search (rules, of_calls)) in
    let within : ltb i (length spans) ≡ true = sym c.in-Some.ensures.lookup.0 in
    let lt : i < length spans = grind (arith, within) in
    ap (λ (s : Span). leb a s.last) c.in-Some.ensures.lookup.1 ∙ at_passed a spans i c.in-Some.span.now c.requires lt point
