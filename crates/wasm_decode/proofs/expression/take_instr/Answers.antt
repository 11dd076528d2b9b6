use Rattle.std.proofs.Common.{sym, ◌∙◌}
use Rattle.std.proofs.lemmas.Result.{err_from_is_err_and}
use Rattle.wasm_decode.proofs.Instructions.{instr_found, instr_refused, instr_fails}
use Rattle.wasm_decode.proofs.expression.take_instr.Goals as goal

pub returns-in_err-code-clause-item : goal.returns-in_err-code-clause-item
returns-in_err-code-clause-item c =
    let p = err_from_is_err_and c.from_residual.result c.from_residual.ensures.1 in
    rw (p.1, p.2) (instr_fails c.in_err-code.field-0.0 c.args.expression.now c.args.input.now c.in_err-code.ensures.item)

pub returns-then-not-may_stand-clause-item : goal.returns-then-not-may_stand-clause-item
returns-then-not-may_stand-clause-item c =
    instr_refused c.args.expression.now c.args.input.now c.code.new.self c.in_ok-code.code c.at-at.result c.first-opcode.result c.instr_of-instr.result c.code.new.targets c.in_ok-code.ensures.item
    c.at-at.ensures.is c.first-opcode.ensures c.instr_of-instr.ensures (sym c.may_stand.ensures ∙ c.if-not-may_stand.true)

pub returns-clause-item : goal.returns-clause-item
returns-clause-item c =
    instr_found c.args.expression.now c.args.input.now c.code.new.self c.in_ok-code.code c.at-at.result c.first-opcode.result c.at.result c.saturating_sub.result c.instr_of-instr.result c.push.new.self c.code.new.targets c.go_behind.new.blocks c.float_of.result c.or-expression.result c.in_ok-code.ensures.item
    (record {
      here = c.at-at.ensures.is;
      first = c.first-opcode.ensures;
      is = c.instr_of-instr.ensures;
      stands = sym c.may_stand.ensures ∙ c.if-not-may_stand.false;
      behind = c.at.ensures.is;
      placed = c.saturating_sub.ensures;
      pushed = c.in_ok-push.ensures.ok;
      opened = c.in_ok-go_behind.ensures;
      its = c.float_of.ensures;
      noted = c.or-expression.ensures;
    })
