use Rattle.std.proofs.Common.{List, sym, ap, ◌∙◌}
use Rattle.std.specs.Prelude.{option_and_then}
use Rattle.dwarf_info.specs.declared.entry.Attribute.{Attribute}
use Rattle.dwarf_info.specs.Attributes.{attribute}
use Rattle.dwarf_info.specs.inner.Joined.{value_at}
use Rattle.dwarf_info.proofs.JoinedLaws.{found_value}
use Rattle.dwarf_info.proofs.attributes.Attributes.get.Goals as goal

pub returns-in_err-place : goal.returns-in_err-place
returns-in_err-place c =
    let slots = c.self.inside.slots in
    let own = c.self.inside.own.items in
    c.from_residual.ensures ∙ ap (option_and_then (value_at own)) c.in_err-place.ensures ∙ sym (found_value c.args.name slots own c.self.invariant) ∙ ap (λ (xs : List Attribute). attribute c.args.name xs) c.self.view_is

pub returns : goal.returns
returns c =
    let slots = c.self.inside.slots in
    let own = c.self.inside.own.items in
    c.value_at.ensures ∙ ap (λ (vs : List _). value_at vs c.in_ok-place.place) c.as_slice.ensures.value ∙ ap (option_and_then (value_at own)) c.in_ok-place.ensures
    ∙ sym (found_value c.args.name slots own c.self.invariant) ∙ ap (λ (xs : List Attribute). attribute c.args.name xs) c.self.view_is
