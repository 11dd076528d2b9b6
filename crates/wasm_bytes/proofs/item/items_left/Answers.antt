use Rattle.std.proofs.Common.{◌≡◌, ◌-◌, ◌<◌, ◌∙◌, suc, length, ap, arith}
use Rattle.std.proofs.lemmas.Result.{err_from_is_err_and}
use Rattle.wasm_bytes.specs.Place.{Moves}
use Rattle.wasm_bytes.proofs.Loops.{in_front, one_more, no_more, left_fails, end_on, end_fails, end_done}
use Rattle.wasm_bytes.proofs.item.items_left.Goals as goal

pub returns-in_err-read-clause-item : goal.returns-in_err-read-clause-item
returns-in_err-read-clause-item g c =
    let p = err_from_is_err_and c.from_residual.result c.from_residual.ensures.1 in
    let s = c.items.invariant.so_far in
    let inside : c.items.reader.at < length c.items.reader.block = omega arith in
    let n : s.0 ≡ suc (s.0 - 1) = omega (arith, s.1) in
    let failing = end_fails g.T.Item.item (s.0 - 1) c.items.reader c.in_err-read.field-0.0 inside c.in_err-read.ensures.item in
    rw (p.1, p.2) (left_fails _ _ (in_front c.items.items.items) c.in_err-read.field-0.0 (rw n at s.2) failing)

pub items-preserved : goal.items-preserved
items-preserved g c =
    let s = c.items.invariant.so_far in
    let inside : c.items.reader.at < length c.items.reader.block = omega arith in
    let n : s.0 ≡ suc (s.0 - 1) = omega (arith, s.1) in
    let on = end_on g.T.Item.item (s.0 - 1) c.items.reader c.read.new.reader c.in_ok-read.field-0 inside c.in_ok-read.ensures.item in
    let moves : Moves c.items.reader c.read.new.reader = c.in_ok-read.ensures.moves in
    record {
      so_far = (
        s.0 - 1,
        omega (arith, s.1, moves.0, ap length moves.1),
        rw c.in_ok-push.ensures.items (one_more _ _ c.items.items.items c.in_ok-read.field-0 (rw on at (rw n at s.2))),
      );
      stays = (omega (arith, c.items.invariant.stays.0, moves.0), moves.1 ∙ c.items.invariant.stays.1);
    }

pub returns-clause-item : goal.returns-clause-item
returns-clause-item g c =
    let s = c.items.invariant.so_far in
    let done = end_done g.T.Item.item s.0 c.items.reader (omega arith) in
    rw c.from_vec.ensures (no_more _ c.items.items.items c.items.reader (rw done at s.2))
