use Rattle.std.proofs.Common.{◌≡◌, true, sym, ap, subst, ◌∙◌}
use Rattle.dwarf_line.specs.Place.{nearest}
use Rattle.dwarf_line.specs.inner.Halving.{ascends_from, last_reached}
use Rattle.dwarf_line.specs.inner.Order.{Serves}
use Rattle.dwarf_line.proofs.HalvingLaws.{address_of, nearest_last}
use Rattle.dwarf_line.proofs.rows.Rows.nearest.Goals as goal

pub returns-then-self : goal.returns-then-self
returns-then-self c =
    let up : ascends_from address_of 0 c.self.inside.rows ≡ true = subst (λ t. Serves t c.self.inside.order.items c.self.inside.rows) c.if-self.true c.self.invariant in
    c.last_reached.ensures ∙ ap (last_reached address_of c.args.address) c.as_slice.ensures ∙ sym (nearest_last c.args.address c.self.inside.rows up) ∙ ap (nearest c.args.address) c.self.view_is
