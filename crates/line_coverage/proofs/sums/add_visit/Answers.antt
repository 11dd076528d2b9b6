use Rattle.std.proofs.Common.{◌≡◌, ℕ, ◌+◌, ◌-◌, ◌^◌, ap, ◌∙◌}
use Rattle.std.specs.Prelude.{min}
use Rattle.std.specs.Cmp.{nat_cmp_total}
use Rattle.std.specs.Ordering.{nat_cmp}
use Rattle.std.specs.BTreeMap.{insert_entry}
use Rattle.line_coverage.proofs.SumLaws.{adds_one}
use Rattle.line_coverage.proofs.SpotLaws.{tied_numbers}
use Rattle.line_coverage.proofs.sums.add_visit.Goals as goal

pub returns : goal.returns
returns c =
    let before : ℕ = c.visit_at-before.result in
    let is : c.insert.new.self.entries ≡ insert_entry nat_cmp c.args.visits.now.entries c.args.address (min (before + c.args.steps) (2 ^ 64 - 1)) = c.in_ok-insert.ensures.entries ∙ ap (insert_entry nat_cmp c.args.visits.now.entries c.args.address) c.saturating_add.ensures in
    adds_one nat_cmp_total tied_numbers c.args.visits.now.entries c.insert.new.self.entries c.args.address before c.args.steps c.insert.ensures.was_ordered c.visit_at-before.ensures is
