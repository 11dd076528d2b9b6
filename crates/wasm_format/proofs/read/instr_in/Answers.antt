use Rattle.std.proofs.lemmas.Result.{err_from_is_err_and}
use Rattle.wasm_format.specs.Reading.{instr_at}
use Rattle.wasm_format.proofs.Codes.{instr_known, instr_fails}
use Rattle.wasm_format.proofs.read.instr_in.Goals as goal

pub returns-in_err-code : goal.returns-in_err-code
unfolding instr_at
returns-in_err-code c =
    let p = err_from_is_err_and c.from_residual.result c.from_residual.ensures.1 in
    let fails = rw (c.new-targets.ensures, c.starting_at-reader.ensures) at c.in_err-code.ensures.item in
    rw (p.1, p.2) (instr_fails (record { block = c.args.block.now; at = c.args.at }) c.in_err-code.field-0.0 fails)

pub returns : goal.returns
unfolding instr_at
returns c =
    let reads = rw (c.new-targets.ensures, c.starting_at-reader.ensures) at c.in_ok-code.ensures.item in
    rw (c.known.ensures, c.at.ensures.is) (instr_known (record { block = c.args.block.now; at = c.args.at }) c.read_code.new.reader c.in_ok-code.code c.read_code.new.targets reads)
