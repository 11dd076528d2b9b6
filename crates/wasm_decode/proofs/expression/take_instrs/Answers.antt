use Rattle.std.proofs.Common.{◌≡◌, ◌-◌, ◌<◌, ◌∙◌, ℕ, suc, length, true, false, ap, arith, eq-eqb}
use Rattle.std.specs.Prelude.{◌==◌}
use Rattle.std.proofs.lemmas.Bool.{ne_eqb}
use Rattle.std.proofs.lemmas.Result.{err_from_is_err_and}
use Rattle.wasm_bytes.specs.Reading.{steps_while_due, steps_until_done}
use Rattle.wasm_bytes.proofs.Loops.{due_on, due_fails, none_due}
use Rattle.wasm_format.specs.Expressions.{instr_step, is_closed}
use Rattle.wasm_decode.specs.calls.Steps.{instr_steps}
use Rattle.wasm_decode.proofs.expression.take_instrs.Goals as goal

some_open : (n : ℕ) → 0 < n → (n == 0) ≡ false
some_open n some = ne_eqb n 0 (λ e. omega (arith, e, some))

pub instrs-preserved : goal.instrs-preserved
instrs-preserved c =
    let s = c.instrs.invariant.so_far in
    let n : s.0 ≡ suc (s.0 - 1) = omega (arith, s.1, c.at-at.ensures.inside) in
    let due : is_closed c.instrs.expression ≡ false = some_open (length c.instrs.expression.blocks) (omega (arith, c.len.ensures, c.instrs-test.true)) in
    let on = due_on is_closed instr_step (s.0 - 1) c.instrs.expression c.take_instr.new.expression c.instrs.input c.take_instr.new.input due c.in_ok-take_instr.ensures.item in
    record {
      so_far = (
        s.0 - 1,
        omega (arith, s.1, c.at-at.ensures.inside, c.in_ok-take_instr.ensures.moves.0, ap length c.in_ok-take_instr.ensures.moves.1),
        s.2 ∙ ap (λ k. steps_while_due is_closed instr_step k c.instrs.expression c.instrs.input) n ∙ on,
      );
      stays = grind arith;
      few = c.in_ok-take_instr.ensures.few;
    }

pub returns-in_err-take_instr-clause-item : goal.returns-in_err-take_instr-clause-item
unfolding instr_steps steps_until_done
returns-in_err-take_instr-clause-item c =
    let p = err_from_is_err_and c.from_residual.result c.from_residual.ensures.1 in
    let s = c.instrs.invariant.so_far in
    let n : s.0 ≡ suc (s.0 - 1) = omega (arith, s.1, c.at-at.ensures.inside) in
    let due : is_closed c.instrs.expression ≡ false = some_open (length c.instrs.expression.blocks) (omega (arith, c.len.ensures, c.instrs-test.true)) in
    rw (p.1, p.2, s.2, n) (due_fails is_closed instr_step (s.0 - 1) c.instrs.expression c.instrs.input c.in_err-take_instr.field-0.0 due c.in_err-take_instr.ensures.item)

pub returns-clause-item : goal.returns-clause-item
unfolding instr_steps steps_until_done
returns-clause-item c =
    let s = c.instrs.invariant.so_far in
    let all : is_closed c.instrs.expression ≡ true = eq-eqb (length c.instrs.expression.blocks) 0 (omega (arith, c.len.ensures, c.instrs-test.false)) in
    s.2 ∙ none_due is_closed instr_step s.0 c.instrs.expression c.instrs.input all
