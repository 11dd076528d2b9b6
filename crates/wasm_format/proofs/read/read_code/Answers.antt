use Rattle.std.proofs.Common.{length}
use Rattle.std.proofs.lemmas.Result.{err_from_is_err_and}
use Rattle.wasm_bytes.specs.declared.faults.ItemFault.TheVariants as faults
use Rattle.wasm_format.proofs.Codes.{byte_fails, plain_read, plain_fails, labels_same}
use Rattle.wasm_format.proofs.read.read_code.Goals as goal

pub returns-in_err-opcode-clause-item : goal.returns-in_err-opcode-clause-item
returns-in_err-opcode-clause-item c =
    let p = err_from_is_err_and c.from_residual.result c.from_residual.ensures.1 in
    rw (p.1, p.2) (byte_fails c.args.targets.now c.args.reader.now (faults.At c.in_err-opcode.field-0.0.at) c.in_err-opcode.ensures.item)

pub returns-then-opcode-eq14-clause-item : goal.returns-then-opcode-eq14-clause-item
returns-then-opcode-eq14-clause-item c =
    let same = labels_same c.args.targets.now c.args.reader.now c.byte.new.self c.in_ok-opcode.opcode c.in_ok-opcode.ensures.item c.if-opcode-eq14.true in
    rw same c.read_labels.ensures.item

pub returns-in_err-read_plain-clause-item : goal.returns-in_err-read_plain-clause-item
returns-in_err-read_plain-clause-item c =
    let p = err_from_is_err_and c.from_residual-in_err-read_plain.result c.from_residual-in_err-read_plain.ensures.1 in
    let before = c.args.targets.now in
    rw (p.1, p.2) (plain_fails before c.args.reader.now c.byte.new.self c.in_ok-opcode.opcode c.at-at.result (faults.At c.in_err-read_plain.field-0.0.at) c.in_ok-opcode.ensures.item c.at-at.ensures.is (c.in_err-read_plain.ensures.item (length before)))

pub returns-clause-item : goal.returns-clause-item
returns-clause-item c =
    let before = c.args.targets.now in
    plain_read before c.args.reader.now c.byte.new.self c.read_plain.new.reader c.in_ok-opcode.opcode c.at-at.result c.in_ok-read_plain.field-0 c.in_ok-opcode.ensures.item c.at-at.ensures.is (c.in_ok-read_plain.ensures.item (length before))
