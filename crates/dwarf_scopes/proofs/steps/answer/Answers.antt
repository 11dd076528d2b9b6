use Rattle.std.proofs.Common.{◌≡◌, ◌<◌, ◌≤◌, true, false, length, ltb, ap, sym, ◌∙◌, arith, rules, of_calls}
use Rattle.std.proofs.lemmas.List.Sorted.{IsPartitionPoint-from_clause}
use Rattle.dwarf_scopes.specs.declared.steps.Step.{Step}
use Rattle.dwarf_scopes.proofs.StepLaws.{none_passed, at_passed, falling}
use Rattle.dwarf_scopes.proofs.OrderLaws.{is_partitioned}
use Rattle.dwarf_scopes.proofs.steps.answer.Goals as goal

pub returns-in_err-get : goal.returns-in_err-get
returns-in_err-get c =
    let steps = c.args.steps.now in let a = c.args.address in let i = c.partition_point-passed.result in
    let point = IsPartitionPoint-from_clause (λ (s : Step). ltb a s.from) steps i c.partition_point-passed.ensures.partitioned (is_partitioned (λ (s : Step). s.from) a steps (falling steps c.requires)) (λ x r f k. search (rules, of_calls)) in
    let past : ltb i (length steps) ≡ false = sym c.in_err-get.ensures.lookup.0 in
    let le : length steps ≤ i = grind (arith, past) in
    c.from_residual.ensures ∙ sym (none_passed a steps i le point)

pub returns : goal.returns
returns c =
    let steps = c.args.steps.now in let a = c.args.address in let i = c.partition_point-passed.result in
    let point = IsPartitionPoint-from_clause (λ (s : Step). ltb a s.from) steps i c.partition_point-passed.ensures.partitioned (is_partitioned (λ (s : Step). s.from) a steps (falling steps c.requires)) (λ x r f k. search (rules, of_calls)) in
    let within : ltb i (length steps) ≡ true = sym c.in_ok-get.ensures.lookup.0 in
    let lt : i < length steps = grind (arith, within) in
    ap (λ (s : Step). s.index) c.in_ok-get.ensures.lookup.1 ∙ at_passed a steps i c.in_ok-get.field-0.now lt point
