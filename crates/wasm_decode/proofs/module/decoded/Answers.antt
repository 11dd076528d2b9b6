use Rattle.std.proofs.Common.{◌<◌, ◌≤◌, length, Result, Err, sym, ap, subst, ◌∙◌, arith}
use Rattle.wasm_syntax.specs.declared.quantity.Quantity.TheVariants.{ModuleBytes}
use Rattle.wasm_syntax.specs.declared.module.ModuleParts.{ModuleParts}
use Rattle.wasm_syntax.specs.Quantity.{greatest}
use Rattle.wasm_syntax.specs.Module.{IsModule}
use Rattle.wasm_bytes.specs.Laws.{IsBytes}
use Rattle.wasm_decode.specs.declared.fault.DecodeFault.{DecodeFault}
use Rattle.wasm_decode.specs.Decode.{Answers}
use Rattle.wasm_decode.proofs.Meanings.{known, read_is, broken_is, too_long, judged_ok}
use Rattle.wasm_decode.proofs.Sounds.{read_fits, read_module}
use Rattle.wasm_decode.proofs.module.decoded.Goals as goal

pub returns-then-count-limit : goal.returns-then-count-limit
returns-then-count-limit c =
    let many : greatest ModuleBytes < length c.args.bytes.now = omega (arith, c.if-count-limit.true, c.limit.ensures) in
    sym (too_long c.args.bytes.now many)

pub judged-requires : goal.judged-requires
judged-requires c =
    let fits : IsBytes c.args.bytes.now = λ i. omega (arith, c.type_inv.bytes i) in
    read_fits c.args.bytes.now c.in-Ok.spelled fits (omega (arith, c.if-count-limit.false, c.limit.ensures)) c.in-Ok.ensures

pub returns-in-Err-judged : goal.returns-in-Err-judged
returns-in-Err-judged c =
    let short : length c.args.bytes.now ≤ greatest ModuleBytes = omega (arith, c.if-count-limit.false, c.limit.ensures) in
    let is = read_is c.args.bytes.now c.in-Ok.spelled short c.in-Ok.ensures in
    subst (λ (r : Result ModuleParts DecodeFault). Answers (Err c.in-Err-judged.fault) r) (sym is) c.in-Err-judged.ensures

pub new-requires : goal.new-requires
new-requires c =
    let fits : IsBytes c.args.bytes.now = λ i. omega (arith, c.type_inv.bytes i) in
    subst IsModule (sym (judged_ok c.in-Ok.spelled c.in-Ok-judged.parts c.in-Ok-judged.ensures)) (read_module c.args.bytes.now c.in-Ok.spelled fits c.in-Ok.ensures)

pub returns-in-Ok-judged : goal.returns-in-Ok-judged
returns-in-Ok-judged c =
    let short : length c.args.bytes.now ≤ greatest ModuleBytes = omega (arith, c.if-count-limit.false, c.limit.ensures) in
    ap known c.new.ensures ∙ c.in-Ok-judged.ensures ∙ sym (read_is c.args.bytes.now c.in-Ok.spelled short c.in-Ok.ensures)

pub returns-in-At : goal.returns-in-At
returns-in-At c =
    let short : length c.args.bytes.now ≤ greatest ModuleBytes = omega (arith, c.if-count-limit.false, c.limit.ensures) in
    sym (broken_is c.args.bytes.now c.in-At.at short (rw c.in-At.is at c.in-Err.ensures))
