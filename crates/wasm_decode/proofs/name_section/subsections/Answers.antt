use Rattle.std.proofs.Common.{◌≡◌, ◌-◌, ◌<◌, ◌∙◌, suc, length, ap, arith}
use Rattle.std.proofs.lemmas.Result.{err_from_is_err_and}
use Rattle.wasm_bytes.specs.Reading.{steps_until_end, steps_to_end}
use Rattle.wasm_bytes.proofs.Loops.{end_step_on, end_step_fails, end_steps_done}
use Rattle.wasm_decode.specs.Names.{subsection_step}
use Rattle.wasm_decode.proofs.name_section.subsections.Goals as goal

pub returns-in_err-subsection-clause-item : goal.returns-in_err-subsection-clause-item
unfolding steps_to_end
returns-in_err-subsection-clause-item c =
    let p = err_from_is_err_and c.from_residual.result c.from_residual.ensures.1 in
    let s = c.subsections.invariant.so_far in
    let inside : c.subsections.input.at < length c.subsections.input.block = omega (arith, c.left.ensures, c.subsections-test.true) in
    let n : s.0 ≡ suc (s.0 - 1) = omega (arith, s.1, inside) in
    rw (p.1, p.2, s.2, n) (end_step_fails subsection_step (s.0 - 1) c.subsections.found c.subsections.input c.in_err-subsection.field-0.0 inside c.in_err-subsection.ensures.item)

pub subsections-preserved : goal.subsections-preserved
subsections-preserved c =
    let s = c.subsections.invariant.so_far in
    let inside : c.subsections.input.at < length c.subsections.input.block = omega (arith, c.left.ensures, c.subsections-test.true) in
    let n : s.0 ≡ suc (s.0 - 1) = omega (arith, s.1, inside) in
    let on = end_step_on subsection_step (s.0 - 1) c.subsections.found c.subsection.new.found c.subsections.input c.subsection.new.input inside c.in_ok-subsection.ensures.item in
    record {
      so_far = (
        s.0 - 1,
        omega (arith, s.1, inside, c.in_ok-subsection.ensures.moves.0, ap length c.in_ok-subsection.ensures.moves.1),
        s.2 ∙ ap (λ k. steps_until_end subsection_step k c.subsections.found c.subsections.input) n ∙ on,
      );
      stays = grind arith;
    }

pub returns-clause-item : goal.returns-clause-item
unfolding steps_to_end
returns-clause-item c =
    let s = c.subsections.invariant.so_far in
    s.2 ∙ end_steps_done subsection_step s.0 c.subsections.found c.subsections.input (omega (arith, c.left.ensures, c.subsections-test.false))
