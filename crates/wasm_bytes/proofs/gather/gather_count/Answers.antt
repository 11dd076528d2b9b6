use Rattle.std.proofs.Common.{◌∙◌, arith}
use Rattle.std.proofs.lemmas.Result.{err_from_is_err_and}
use Rattle.wasm_bytes.proofs.Loops.{step_on, step_fails, steps_done}
use Rattle.wasm_bytes.proofs.gather.gather_count.Goals as goal

pub returns-in_err-take-clause-item : goal.returns-in_err-take-clause-item
returns-in_err-take-clause-item g c =
    let place = g.R.Cursor.place in
    let p = err_from_is_err_and c.from_residual.result c.from_residual.ensures.1 in
    rw (p.1, p.2, c.loop.invariant.so_far) (step_fails g.S.Gather.step c.args.count c.loop.counter c.loop.state (place c.loop.reader) c.in_err-take.field-0.0 c.loop-test.true c.in_err-take.ensures.item)

pub loop-preserved : goal.loop-preserved
loop-preserved g c =
    let place = g.R.Cursor.place in
    let moves = c.in_ok-take.ensures.moves in
    record {
      so_far = c.loop.invariant.so_far ∙ step_on g.S.Gather.step c.args.count c.loop.counter c.loop.state c.take.new.self (place c.loop.reader) (place c.take.new.reader) c.loop-test.true c.in_ok-take.ensures.item;
      stays = (omega (arith, c.loop.invariant.stays.0, moves.0), moves.1 ∙ c.loop.invariant.stays.1);
    }

pub returns-clause-item : goal.returns-clause-item
returns-clause-item g c = c.loop.invariant.so_far ∙ steps_done g.S.Gather.step c.args.count c.loop.counter c.loop.state (g.R.Cursor.place c.loop.reader) c.loop-test.false
