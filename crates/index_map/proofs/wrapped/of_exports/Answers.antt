use Rattle.std.proofs.Common.{◌++◌, length, flat_map, sym, ap, ◌∙◌, take_all, arith}
use Rattle.wasm_syntax.specs.declared.parts.Export.{Export}
use Rattle.rewrite_bodies.specs.Numbering.{wraps}
use Rattle.index_map.proofs.Exports.{wrapped_more}
use Rattle.index_map.proofs.wrapped.of_exports.Goals as goal

pub loop-export-preserved : goal.loop-export-preserved
loop-export-preserved c =
    let m = c.args.parts.now in
    c.in_ok-push_wrapped.ensures m (sym c.len-imports.ensures)
    ∙ ap (λ (e : Export). c.loop-export.out.items ++ wraps m e) c.export-item.is
    ∙ wrapped_more m c.as_slice-export-items.result.now c.loop-export.export-index c.export-item.result c.loop-export.out.items c.as_slice-export-items.ensures c.loop-export-test.true c.loop-export.invariant

pub returns : goal.returns
returns c =
    let m = c.args.parts.now in
    c.loop-export.invariant ∙ ap (flat_map (wraps m)) (take_all c.loop-export.export-index m.exports (omega (arith, c.loop-export-test.false, ap length c.as_slice-export-items.ensures)))
