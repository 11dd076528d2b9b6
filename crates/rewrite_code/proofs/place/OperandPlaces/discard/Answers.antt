use Rattle.std.proofs.Common.{rules, ap, ◌∙◌, length, take, ◌-◌, ◌≡◌}
use Rattle.rewrite_bodies.specs.calls.Slots.{less}
use Rattle.rewrite_code.specs.calls.Places.{from_top}
use Rattle.rewrite_code.proofs.Loads.{discarded}
use Rattle.rewrite_code.proofs.place.OperandPlaces.discard.Goals as goal

pub returns : goal.returns
returns c =
    let xs = c.self.inside.items.items in
    let n : c.saturating_sub-kept.result ≡ length xs - c.args.count = search rules in
    ap from_top c.truncate.ensures.items ∙ ap (λ k. from_top (take k xs)) n ∙ discarded xs c.args.count ∙ ap (less c.args.count) c.self.view_is
