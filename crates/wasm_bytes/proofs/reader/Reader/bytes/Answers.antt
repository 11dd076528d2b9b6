use Rattle.std.proofs.Common.{◌∙◌, refl, arith}
use Rattle.std.proofs.lemmas.Result.{err_from_is_err_and}
use Rattle.wasm_bytes.proofs.Loops.{bytes_on, bytes_fail, bytes_done}
use Rattle.wasm_bytes.proofs.reader.Reader.bytes.Goals as goal

pub returns-in_err-fixed-clause-item : goal.returns-in_err-fixed-clause-item
returns-in_err-fixed-clause-item c =
    let p = err_from_is_err_and c.from_residual.result c.from_residual.ensures.1 in
    let failing = bytes_fail c.args.expected.now c.loop-byte.byte-index c.in_err-fixed.field-0.0.at c.loop-byte.self c.loop-byte-test.true c.in_err-fixed.ensures.item in
    rw (p.1, p.2, c.loop-byte.invariant.so_far, failing) refl

pub loop-byte-preserved : goal.loop-byte-preserved
loop-byte-preserved c = record {
  so_far = c.loop-byte.invariant.so_far ∙ bytes_on c.args.expected.now c.loop-byte.byte-index c.loop-byte.self c.fixed.new.self c.loop-byte-test.true c.in_ok-fixed.ensures.item;
  stays = grind arith;
}

pub returns-clause-item : goal.returns-clause-item
returns-clause-item c = c.loop-byte.invariant.so_far ∙ bytes_done c.args.expected.now c.loop-byte.byte-index c.loop-byte.self c.loop-byte-test.false
