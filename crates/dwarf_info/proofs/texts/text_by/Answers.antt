use Rattle.std.proofs.Common.{Some, None, leb, subst, sym, ap, ◌∙◌, arith}
use Rattle.std.specs.Prelude.{find}
use Rattle.std.specs.List.Sorted.{IsNonDecreasing}
use Rattle.dwarf_info.proofs.TextLaws.{zeros_rise, text_ends, end_inside}
use Rattle.dwarf_info.proofs.texts.text_by.Goals as goal

pub first_from-requires : goal.first_from-requires
first_from-requires c = subst IsNonDecreasing (sym c.requires) (zeros_rise c.args.section.now 0)

pub slice_bounds-new-count : goal.slice_bounds-new-count
slice_bounds-new-count c = (end_inside c.args.section.now c.args.at c.in_ok-end.end (c.in_ok-end.ensures ∙ ap (find (leb c.args.at)) c.requires)).0

pub slice_bounds-new-start : goal.slice_bounds-new-start
slice_bounds-new-start c =
    let inside = end_inside c.args.section.now c.args.at c.in_ok-end.end (c.in_ok-end.ensures ∙ ap (find (leb c.args.at)) c.requires) in
    omega (arith, inside.0, inside.1)

pub slice_bounds-new-end : goal.slice_bounds-new-end
slice_bounds-new-end c =
    let inside = end_inside c.args.section.now c.args.at c.in_ok-end.end (c.in_ok-end.ensures ∙ ap (find (leb c.args.at)) c.requires) in
    omega (arith, inside.0, inside.1)

pub returns-in_err-end : goal.returns-in_err-end
returns-in_err-end c =
    c.from_residual.ensures ∙ sym (text_ends c.args.section.now c.args.at None (c.in_err-end.ensures ∙ ap (find (leb c.args.at)) c.requires))

pub returns : goal.returns
returns c =
    ap Some c.new.ensures ∙ sym (text_ends c.args.section.now c.args.at (Some c.in_ok-end.end) (c.in_ok-end.ensures ∙ ap (find (leb c.args.at)) c.requires))
