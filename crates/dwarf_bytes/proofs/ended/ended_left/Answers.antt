use Rattle.std.proofs.Common.{◌≡◌, ◌-◌, suc, length, ap, arith}
use Rattle.std.proofs.lemmas.Result.{err_from_is_err_and}
use Rattle.wasm_bytes.proofs.Loops.{in_front, one_more, no_more, left_fails}
use Rattle.dwarf_bytes.proofs.Loops.{ended_on, ended_fails, ended_done}
use Rattle.dwarf_bytes.proofs.ended.ended_left.Goals as goal

pub returns-in_err-item-clause-item : goal.returns-in_err-item-clause-item
returns-in_err-item-clause-item g c =
    let p = err_from_is_err_and c.from_residual.result c.from_residual.ensures.1 in
    let s = c.items.invariant.so_far in
    let n : s.0 ≡ suc (s.0 - 1) = omega (arith, s.1, c.at-at.ensures.inside) in
    let failing = ended_fails g.T.Ended.item (s.0 - 1) c.items.reader c.in_err-item.field-0.0 c.in_err-item.ensures.item in
    rw (p.1, p.2) (left_fails _ _ (in_front c.items.items.items) c.in_err-item.field-0.0 (rw n at s.2) failing)

pub items-preserved : goal.items-preserved
items-preserved g c =
    let s = c.items.invariant.so_far in
    let n : s.0 ≡ suc (s.0 - 1) = omega (arith, s.1, c.at-at.ensures.inside) in
    let on = ended_on g.T.Ended.item (s.0 - 1) c.items.reader c.read.new.reader c.in-Some.item (rw c.in-Some.is at c.in_ok-item.ensures.item) in
    record {
      so_far = (
        s.0 - 1,
        omega (arith, s.1, c.at-at.ensures.inside, c.in_ok-item.ensures.moves.0, ap length c.in_ok-item.ensures.moves.1),
        rw c.in_ok-push.ensures.items (one_more _ _ c.items.items.items c.in-Some.item (rw on at (rw n at s.2))),
      );
      stays = grind arith;
    }

pub returns-in_default-clause-item : goal.returns-in_default-clause-item
returns-in_default-clause-item g c =
    let s = c.items.invariant.so_far in
    let n : s.0 ≡ suc (s.0 - 1) = omega (arith, s.1, c.at-at.ensures.inside) in
    let done = ended_done g.T.Ended.item (s.0 - 1) c.items.reader c.read.new.reader (rw c.in_default.is at c.in_ok-item.ensures.item) in
    rw c.from_vec.ensures (no_more _ c.items.items.items c.read.new.reader (rw done at (rw n at s.2)))
