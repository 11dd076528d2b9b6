use Rattle.std.proofs.Common.{◌≡◌, ◌-◌, ◌<◌, ◌∙◌, suc, length, ap, arith}
use Rattle.std.proofs.lemmas.Result.{err_from_is_err_and}
use Rattle.wasm_bytes.specs.Reading.{steps_until_end, steps_to_end}
use Rattle.wasm_bytes.proofs.Loops.{end_step_on, end_step_fails, end_steps_done}
use Rattle.wasm_format.specs.Sections.{section_step}
use Rattle.wasm_decode.proofs.sections.sections.Goals as goal

pub returns-in_err-section-clause-item : goal.returns-in_err-section-clause-item
unfolding steps_to_end
returns-in_err-section-clause-item c =
    let p = err_from_is_err_and c.from_residual.result c.from_residual.ensures.1 in
    let s = c.sections.invariant.so_far in
    let inside : c.sections.input.at < length c.sections.input.block = omega (arith, c.left.ensures, c.sections-test.true) in
    let n : s.0 ≡ suc (s.0 - 1) = omega (arith, s.1, inside) in
    rw (p.1, p.2, s.2, n) (end_step_fails section_step (s.0 - 1) c.sections.spelled c.sections.input c.in_err-section.field-0.0 inside c.in_err-section.ensures.item)

pub sections-preserved : goal.sections-preserved
sections-preserved c =
    let s = c.sections.invariant.so_far in
    let inside : c.sections.input.at < length c.sections.input.block = omega (arith, c.left.ensures, c.sections-test.true) in
    let n : s.0 ≡ suc (s.0 - 1) = omega (arith, s.1, inside) in
    let on = end_step_on section_step (s.0 - 1) c.sections.spelled c.section.new.spelled c.sections.input c.section.new.input inside c.in_ok-section.ensures.item in
    record {
      so_far = (
        s.0 - 1,
        omega (arith, s.1, inside, c.in_ok-section.ensures.moves.0, ap length c.in_ok-section.ensures.moves.1),
        s.2 ∙ ap (λ k. steps_until_end section_step k c.sections.spelled c.sections.input) n ∙ on,
      );
      stays = grind arith;
      counted = c.in_ok-section.ensures.counted;
    }

pub returns-clause-item : goal.returns-clause-item
unfolding steps_to_end
returns-clause-item c =
    let s = c.sections.invariant.so_far in
    s.2 ∙ end_steps_done section_step s.0 c.sections.spelled c.sections.input (omega (arith, c.left.ensures, c.sections-test.false))
