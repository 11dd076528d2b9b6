use Rattle.std.proofs.Common.{◌≡◌, ◌<◌, ◌≤◌, ◌++◌, List, length, flat_map, get_or, map, take, sym, ap, ◌∙◌, append-nil, arith}
use Rattle.std.proofs.lemmas.List.{drop_all}
use Rattle.wasm_syntax.specs.declared.parts.Export.{Export}
use Rattle.rewrite_bodies.specs.Numbering.{wraps}
use Rattle.rewrite_modules.specs.calls.Instrument.{new_exports}
use Rattle.index_map.proofs.Exports.{few_before, count_more, indices_more}
use Rattle.index_map.proofs.wrapped.indices.Goals as goal

pub push_index-requires : goal.push_index-requires
push_index-requires c =
    let m = c.args.parts.now in
    let lt : c.loop-export.export-index < length m.exports = omega (arith, c.loop-export-test.true, ap length c.as_slice-export-items.ensures) in
    let few = few_before m m.exports c.loop-export.export-index c.export-item.result lt in
    omega (arith, few, c.loop-export.invariant.place, c.requires.few)

pub loop-export-preserved : goal.loop-export-preserved
loop-export-preserved c =
    let m = c.args.parts.now in
    let i = c.loop-export.export-index in
    let x = c.export-item.result in
    let lt : i < length m.exports = omega (arith, c.loop-export-test.true, ap length c.as_slice-export-items.ensures) in
    let is = c.export-item.is ∙ ap (λ (l : List Export). get_or l i x) c.as_slice-export-items.ensures in
    let before = length (flat_map (wraps m) (take i m.exports)) in
    record {
      place = omega (arith, c.in_ok-next.ensures.next m (sym c.len-imports.ensures), c.loop-export.invariant.place, count_more m i x lt is);
      so_far = indices_more m i x c.loop-export.out.items c.push_index.new.out.items _ lt is (c.in_ok-next.ensures.index m before (sym c.len-imports.ensures) c.loop-export.invariant.place) c.loop-export.invariant.so_far;
    }

pub returns : goal.returns
returns c =
    let m = c.args.parts.now in
    let i = c.loop-export.export-index in
    let out = c.loop-export.out.items in
    let le : length m.exports ≤ i = omega (arith, c.loop-export-test.false, ap length c.as_slice-export-items.ensures) in
    sym (append-nil out) ∙ ap (λ (es : List Export). out ++ map (λ e. e.index) (new_exports m (length (flat_map (wraps m) (take i m.exports))) es)) (sym (drop_all i m.exports le)) ∙ c.loop-export.invariant.so_far
