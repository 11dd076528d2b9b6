use Rattle.std.proofs.Common.{◌∙◌, arith}
use Rattle.std.proofs.lemmas.Result.{err_from_is_err_and}
use Rattle.dwarf_bytes.specs.Format.{made}
use Rattle.dwarf_line.specs.declared.opcodes.Opcode.{Opcode}
use Rattle.dwarf_line.specs.declared.opcodes.Opcode.TheVariants.{Passed}
use Rattle.dwarf_line.proofs.Skips.{skip_on, skip_fails, skip_done}
use Rattle.dwarf_line.proofs.opcodes.skip.Goals as goal

pub returns-in_err-_operand-clause-item : goal.returns-in_err-_operand-clause-item
returns-in_err-_operand-clause-item c =
    let p = err_from_is_err_and c.from_residual.result c.from_residual.ensures.1 in
    rw (p.1, p.2) (c.loop.invariant.so_far ∙ skip_fails {A = Opcode} (made Passed) c.args.count c.loop.counter c.loop.reader _ c.loop-test.true c.in_err-_operand.ensures.item)

pub loop-preserved : goal.loop-preserved
loop-preserved c = record {
  so_far = c.loop.invariant.so_far ∙ skip_on {A = Opcode} (made Passed) c.args.count c.loop.counter c.loop.reader c.u64.new.self _ c.loop-test.true c.in_ok-_operand.ensures.item;
  stays = grind arith;
}

pub returns-clause-item : goal.returns-clause-item
returns-clause-item c = c.loop.invariant.so_far ∙ skip_done {A = Opcode} Passed c.args.count c.loop.counter c.loop.reader c.loop-test.false
