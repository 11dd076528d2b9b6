use Rattle.std.proofs.Common.{◌≡◌, ℕ, subst}
use Rattle.wasm_bytes.specs.Place.{Place}
use Rattle.wasm_bytes.specs.Reading.{byte_item}
use Rattle.wasm_bytes.specs.Laws.{got, failed}
use Rattle.dwarf_expr.proofs.LocationLaws.{some_there, none_there}
use Rattle.dwarf_expr.proofs.alone.ends.Goals as goal

pub returns-in-Ok : goal.returns-in-Ok
returns-in-Ok c n left =
    let here = subst (λ (p : Place). byte_item p ≡ got c.in-Ok.field-0 c.byte.new.self) c.fork.ensures c.in-Ok.ensures.item in
    some_there c.args.reader.now c.byte.new.self c.in-Ok.field-0 n here left

pub returns-in-Err : goal.returns-in-Err
returns-in-Err c n left =
    let here = subst (λ (p : Place). byte_item p ≡ failed {A = ℕ} c.in-Err.field-0.at) c.fork.ensures c.in-Err.ensures.item in
    none_there c.args.reader.now c.in-Err.field-0.at n here
