use Rattle.std.proofs.Common.{◌≡◌, length, sym, ap, subst, ◌∙◌}
use Rattle.std.specs.Prelude.{Some, None, slice_get}
use Rattle.std.specs.Option.{option_copied}
use Rattle.wasm_validate.specs.calls.Operands.{UpTo}
use Rattle.wasm_validate.proofs.RowLaws.{last_of_row, row_has_last}
use Rattle.wasm_validate.proofs.rows.last_top.Goals as goal

pub returns-in-Some-last_in : goal.returns-in-Some-last_in
returns-in-Some-last_in c = λ last mark h.
    let at : slice_get c.args.rows.now c.args.height ≡ Some c.in-Some.row.now = sym c.get.ensures.value ∙ ap (λ o. option_copied o) c.in-Some.is in
    c.top_in.ensures mark (last_of_row c.args.rows.now c.args.marks.now (length c.args.marks.now) c.args.height c.args.op c.in-Some-last_in.i last c.in-Some.row.now mark c.requires.rows c.requires.there at
    (subst (λ l. UpTo (Some c.in-Some-last_in.i) l c.args.op) c.as_slice.ensures c.in-Some-last_in.ensures) h)

pub returns-in-None-last_in : goal.returns-in-None-last_in
returns-in-None-last_in c = λ last mark h.
    let at : slice_get c.args.rows.now c.args.height ≡ Some c.in-Some.row.now = sym c.get.ensures.value ∙ ap (λ o. option_copied o) c.in-Some.is in
    row_has_last c.args.rows.now c.args.marks.now (length c.args.marks.now) c.args.height c.args.op last c.in-Some.row.now mark c.requires.rows c.requires.there at
    (subst (λ l. UpTo None l c.args.op) c.as_slice.ensures c.in-None-last_in.ensures) h
