use Rattle.std.proofs.Common.{◌≡◌, ℕ, [], Option, None, ◌+◌, length, map, replicate, sym, ap, ◌∙◌, arith, length-append}
use Rattle.std.proofs.lemmas.List.{length-map, length-replicate}
use Rattle.wasm_syntax.specs.Module.{function_types}
use Rattle.index_map.proofs.Places.{begun, table_kept, all_shown}
use Rattle.index_map.proofs.shown.table_functions.Goals as goal

pub returns-clause-shown : goal.returns-clause-shown
returns-clause-shown c =
    let m = c.args.parts.now in
    let made = c.in_ok-places.places.items in
    let left = c.meet_elements.new.places in
    let n = c.len-imports.result + c.len.result in
    let shown : c.deref_mut.result.now ≡ replicate n None = c.deref_mut.ensures.value ∙ c.in_ok-places.ensures in
    let same : length left ≡ length made = c.meet_elements.auto.places ∙ ap length c.deref_mut.ensures.value in
    let kept = table_kept made left c.in_ok-places.places.len same (sym c.deref_mut.ensures.len ∙ ap length c.deref_mut.ensures.value) in
    let types : length (function_types m) ≡ length m.imports + length m.functions = omega (arith, length-append (map (λ i. i.ftype) m.imports) m.functions, length-map m.imports (λ i. i.ftype)) in
    let count : length left ≡ length (function_types m) = omega (arith, same, ap length c.in_ok-places.ensures, length-replicate {A = Option ℕ} n None, c.len-imports.ensures, c.len.ensures, types) in
    all_shown m c.as_slice.result.now c.meet_elements.new.met.items c.from_vec.result left c.from_vec-2.result c.as_slice.ensures (c.from_vec.ensures ∙ c.reverse.ensures.items) (c.from_vec-2.ensures ∙ kept) count
    (c.in_ok-meet_elements.ensures [] m (sym c.len-imports.ensures) (begun n c.new-met.result.items c.deref_mut.result.now c.new-met.ensures.items shown))

pub returns-clause-listed : goal.returns-clause-listed
returns-clause-listed c = (returns-clause-shown c).functions_are
