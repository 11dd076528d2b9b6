use Rattle.std.proofs.Common.{◌≡◌, ◌+◌, ◌<◌, ◌≤◌, length, map, take, set, get_or, sym, ap, ◌∙◌, arith}
use Rattle.std.proofs.lemmas.List.{map_more, length-map, length-take-le}
use Rattle.std.specs.Prelude.{Some}
use Rattle.wasm_syntax.specs.Run.{over}
use Rattle.wasm_syntax.proofs.Over.{over_more}
use Rattle.wasm_syntax.proofs.start.put_functions.Goals as goal

pub loop-function-preserved : goal.loop-function-preserved
loop-function-preserved c =
    let at = c.args.at in
    let i = c.loop-function.function-index in
    let fs = c.args.functions.now in
    let old = c.args.table.now in
    let n = c.loop-function.next in
    let lt : i < length fs = c.loop-function-test.true in
    let place : n ≡ at + i = c.loop-function.invariant.place in
    let fits : at + length fs ≤ length old = c.requires in
    let count : length (map Some (take i fs)) ≡ i = length-map (take i fs) Some ∙ length-take-le i fs (omega arith) in
    record {
      place = omega (arith, place);
      so_far = ap (λ l. set l n (Some (get_or fs i 0))) c.loop-function.invariant.so_far ∙ over_more old (map Some (take i fs)) at n (Some (get_or fs i 0)) (omega (arith, place, count)) (omega (arith, place, lt, fits)) ∙ ap (over old at) (sym (map_more Some fs i 0 lt));
    }
