use Rattle.std.proofs.Common.{◌≡◌, ◌-◌, ◌<◌, ◌∙◌, suc, length, ap, arith}
use Rattle.std.proofs.lemmas.Result.{err_from_is_err_and}
use Rattle.wasm_bytes.specs.Place.{Moves}
use Rattle.wasm_bytes.specs.Reading.{steps_until_end}
use Rattle.wasm_bytes.proofs.Loops.{end_step_on, end_step_fails, end_steps_done}
use Rattle.wasm_bytes.proofs.gather.gather_left.Goals as goal

pub returns-in_err-take-clause-item : goal.returns-in_err-take-clause-item
returns-in_err-take-clause-item g c =
    let p = err_from_is_err_and c.from_residual.result c.from_residual.ensures.1 in
    let s = c.elements.invariant.so_far in
    let inside : c.elements.reader.at < length c.elements.reader.block = omega arith in
    let n : s.0 ≡ suc (s.0 - 1) = omega (arith, s.1) in
    rw (p.1, p.2, s.2, n) (end_step_fails g.S.Gather.step (s.0 - 1) c.elements.state c.elements.reader c.in_err-take.field-0.0 inside c.in_err-take.ensures.item)

pub elements-preserved : goal.elements-preserved
elements-preserved g c =
    let s = c.elements.invariant.so_far in
    let inside : c.elements.reader.at < length c.elements.reader.block = omega arith in
    let n : s.0 ≡ suc (s.0 - 1) = omega (arith, s.1) in
    let on = end_step_on g.S.Gather.step (s.0 - 1) c.elements.state c.take.new.self c.elements.reader c.take.new.reader inside c.in_ok-take.ensures.item in
    let moves : Moves c.elements.reader c.take.new.reader = c.in_ok-take.ensures.moves in
    record {
      so_far = (
        s.0 - 1,
        omega (arith, s.1, moves.0, ap length moves.1),
        s.2 ∙ ap (λ k. steps_until_end g.S.Gather.step k c.elements.state c.elements.reader) n ∙ on,
      );
      stays = (omega (arith, c.elements.invariant.stays.0, moves.0), moves.1 ∙ c.elements.invariant.stays.1);
    }

pub returns-clause-item : goal.returns-clause-item
returns-clause-item g c =
    let s = c.elements.invariant.so_far in
    s.2 ∙ end_steps_done g.S.Gather.step s.0 c.elements.state c.elements.reader (omega arith)
