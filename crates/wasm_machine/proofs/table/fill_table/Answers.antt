use Rattle.std.proofs.Common.{◌≡◌, map, sym, ap, ◌∙◌}
use Rattle.std.specs.Prelude.{None}
use Rattle.wasm_syntax.specs.Run.{element_fits, first_false}
use Rattle.wasm_machine.proofs.FillLaws.{element_inside}
use Rattle.wasm_machine.proofs.table.fill_table.Goals as goal

pub put_functions-requires : goal.put_functions-requires
put_functions-requires c =
    let m = c.args.m.now in
    let es = c.as_slice-elements.result.now in
    let fits : first_false 0 (map (element_fits m) es) ≡ None = ap (λ l. first_false 0 (map (element_fits m) l)) c.as_slice-elements.ensures ∙ c.requires.fits in
    element_inside m es c.loop-element.element-index c.element-item.result c.element_at-at.result c.as_slice.result.now c.loop-element-test.true (sym c.element-item.is) c.element_at-at.ensures c.as_slice.ensures c.loop-element.table fits (c.loop-element.auto.table ∙ c.requires.size)
