use Rattle.std.proofs.Common.{◌∙◌, arith}
use Rattle.std.proofs.lemmas.Result.{err_from_is_err_and}
use Rattle.wasm_bytes.proofs.Loops.{in_front, one_more, no_more, left_fails, count_on, count_fails, count_done}
use Rattle.wasm_bytes.proofs.item.items_of.Goals as goal

pub returns-in_err-read-clause-item : goal.returns-in_err-read-clause-item
returns-in_err-read-clause-item g c =
    let p = err_from_is_err_and c.from_residual.result c.from_residual.ensures.1 in
    let failing = count_fails g.T.Item.item c.args.count c.loop.counter (g.R.Cursor.place c.loop.reader) c.in_err-read.field-0.0 c.loop-test.true c.in_err-read.ensures.item in
    rw (p.1, p.2) (left_fails _ _ (in_front c.loop.items.items) c.in_err-read.field-0.0 c.loop.invariant.so_far failing)

pub loop-preserved : goal.loop-preserved
loop-preserved g c =
    let on = count_on g.T.Item.item c.args.count c.loop.counter (g.R.Cursor.place c.loop.reader) (g.R.Cursor.place c.read.new.reader) c.in_ok-read.field-0 c.loop-test.true c.in_ok-read.ensures.item in
    let moves = c.in_ok-read.ensures.moves in
    record {
      so_far = rw c.in_ok-push.ensures.items (one_more _ _ c.loop.items.items c.in_ok-read.field-0 (rw on at c.loop.invariant.so_far));
      stays = (omega (arith, c.loop.invariant.stays.0, moves.0), moves.1 ∙ c.loop.invariant.stays.1);
    }

pub returns-clause-item : goal.returns-clause-item
returns-clause-item g c =
    let done = count_done g.T.Item.item c.args.count c.loop.counter (g.R.Cursor.place c.loop.reader) c.loop-test.false in
    rw c.from_vec.ensures (no_more _ c.loop.items.items (g.R.Cursor.place c.loop.reader) (rw done at c.loop.invariant.so_far))
