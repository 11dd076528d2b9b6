use Rattle.std.proofs.Common.{◌≡◌, ◌-◌, ◌∙◌, sym, suc, length, true, false, ap, arith}
use Rattle.std.proofs.lemmas.Result.{err_from_is_err_and}
use Rattle.wasm_bytes.specs.Place.{Moves}
use Rattle.wasm_bytes.specs.Reading.{steps_while_due, steps_until_done}
use Rattle.wasm_bytes.proofs.Loops.{due_on, due_fails, none_due}
use Rattle.wasm_bytes.proofs.gather.gather_until_done.Goals as goal

pub elements-preserved : goal.elements-preserved
elements-preserved g c =
    let done = g.S.GatherUntilDone.done in
    let s = c.elements.invariant.so_far in
    let n : s.0 ≡ suc (s.0 - 1) = omega (arith, s.1, c.at-at.ensures.inside) in
    let due : done c.elements.state ≡ false = sym c.is_done.ensures ∙ c.elements-test.true in
    let on = due_on done g.S.Gather.step (s.0 - 1) c.elements.state c.take.new.self c.elements.reader c.take.new.reader due c.in_ok-take.ensures.item in
    let moves : Moves c.elements.reader c.take.new.reader = c.in_ok-take.ensures.moves in
    record {
      so_far = (
        s.0 - 1,
        omega (arith, s.1, c.at-at.ensures.inside, moves.0, ap length moves.1),
        s.2 ∙ ap (λ k. steps_while_due done g.S.Gather.step k c.elements.state c.elements.reader) n ∙ on,
      );
      stays = (omega (arith, c.elements.invariant.stays.0, moves.0), moves.1 ∙ c.elements.invariant.stays.1);
    }

pub returns-in_err-take-clause-item : goal.returns-in_err-take-clause-item
unfolding steps_until_done
returns-in_err-take-clause-item g c =
    let done = g.S.GatherUntilDone.done in
    let p = err_from_is_err_and c.from_residual.result c.from_residual.ensures.1 in
    let s = c.elements.invariant.so_far in
    let n : s.0 ≡ suc (s.0 - 1) = omega (arith, s.1, c.at-at.ensures.inside) in
    let due : done c.elements.state ≡ false = sym c.is_done.ensures ∙ c.elements-test.true in
    rw (p.1, p.2, s.2, n) (due_fails done g.S.Gather.step (s.0 - 1) c.elements.state c.elements.reader c.in_err-take.field-0.0 due c.in_err-take.ensures.item)

pub returns-clause-item : goal.returns-clause-item
unfolding steps_until_done
returns-clause-item g c =
    let s = c.elements.invariant.so_far in
    let all : g.S.GatherUntilDone.done c.elements.state ≡ true = sym c.is_done.ensures ∙ c.elements-test.false in
    s.2 ∙ none_due g.S.GatherUntilDone.done g.S.Gather.step s.0 c.elements.state c.elements.reader all
