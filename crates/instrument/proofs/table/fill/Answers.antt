use Rattle.std.proofs.Common.{◌≡◌, ℕ, List, length, map, take, ap, ◌∙◌}
use Rattle.std.specs.Prelude.{Option, Some}
use Rattle.wasm_syntax.specs.Run.{element_at, over}
use Rattle.wasm_syntax.specs.calls.Starting.{put_element}
use Rattle.instrument.proofs.Tables.{put_length, put_next}
use Rattle.instrument.proofs.table.fill.Goals as goal

pub loop-element-preserved : goal.loop-element-preserved
loop-element-preserved c =
    let m = c.args.m.now in
    let table : List (Option ℕ) = c.loop-element.table in
    let old : List (Option ℕ) = c.args.table.now in
    let s = c.element-item.result in
    let size : length table ≡ length old = c.loop-element.invariant.size in
    let is : c.put_inside.new.table ≡ take (length table) (put_element m table s) =
    c.put_inside.ensures
    ∙ ap (λ k. take (length table) (over table k (map Some c.as_slice.result.now))) c.element_at-at.ensures
    ∙ ap (λ fs. take (length table) (over table (element_at m s) (map Some fs))) c.as_slice.ensures in
    record {
      size = ap length is ∙ put_length table (map Some s.functions) (element_at m s) ∙ size;
      goes_on = put_next m (length old) c.loop-element.element-index c.as_slice-elements.result.now s old table c.put_inside.new.table c.loop-element-test.true c.element-item.is (is ∙ ap (λ k. take k (put_element m table s)) size) c.loop-element.invariant.goes_on;
    }
