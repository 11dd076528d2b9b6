use Rattle.std.proofs.Common.{◌≡◌, ℕ, ◌+◌, ◌-◌, ◌^◌, ap, ◌∙◌}
use Rattle.std.specs.Prelude.{min}
use Rattle.std.specs.BTreeMap.{insert_entry}
use Rattle.line_coverage.specs.inner.Order.{spot_cmp}
use Rattle.line_coverage.proofs.SumLaws.{adds_one}
use Rattle.line_coverage.proofs.SpotLaws.{spot_total, tied_spots}
use Rattle.line_coverage.proofs.sums.add_spot.Goals as goal

pub returns : goal.returns
returns c =
    let before : ℕ = c.steps_at-before.result in
    let is : c.insert.new.self.entries ≡ insert_entry spot_cmp c.args.spots.now.entries c.args.spot (min (before + c.args.steps) (2 ^ 64 - 1)) = c.in_ok-insert.ensures.entries ∙ ap (insert_entry spot_cmp c.args.spots.now.entries c.args.spot) c.saturating_add.ensures in
    adds_one spot_total tied_spots c.args.spots.now.entries c.insert.new.self.entries c.args.spot before c.args.steps c.insert.ensures.was_ordered c.steps_at-before.ensures is
