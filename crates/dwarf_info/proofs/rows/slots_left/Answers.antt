use Rattle.std.proofs.Common.{◌≡◌, ◌-◌, suc, length, ap, arith}
use Rattle.std.proofs.lemmas.Result.{err_from_is_err_and}
use Rattle.wasm_bytes.specs.declared.faults.ItemFault.TheVariants as faults
use Rattle.wasm_bytes.proofs.Loops.{in_front, one_more, no_more, left_fails}
use Rattle.dwarf_bytes.proofs.Loops.{ended_on, ended_fails, ended_done}
use Rattle.dwarf_info.proofs.rows.slots_left.Goals as goal

pub returns-in_err-slot-clause-item : goal.returns-in_err-slot-clause-item
returns-in_err-slot-clause-item g c =
    let p = err_from_is_err_and c.from_residual.result c.from_residual.ensures.1 in
    let s = c.slots.invariant.so_far in
    let e = faults.At c.in_err-slot.field-0.0.at in
    let n : s.0 ≡ suc (s.0 - 1) = omega (arith, s.1, c.at-at.ensures.inside) in
    let failing = ended_fails g.V.UnitVersion.pair (s.0 - 1) c.slots.reader e c.in_err-slot.ensures.item in
    rw (p.1, p.2) (left_fails _ _ (in_front c.slots.slots) e (rw n at s.2) failing)

pub slots-preserved : goal.slots-preserved
slots-preserved g c =
    let s = c.slots.invariant.so_far in
    let n : s.0 ≡ suc (s.0 - 1) = omega (arith, s.1, c.at-at.ensures.inside) in
    let on = ended_on g.V.UnitVersion.pair (s.0 - 1) c.slots.reader c.read_pair.new.reader c.in-Some.slot (rw c.in-Some.is at c.in_ok-slot.ensures.item) in
    record {
      so_far = (
        s.0 - 1,
        omega (arith, s.1, c.at-at.ensures.inside, c.in_ok-slot.ensures.moves.0, ap length c.in_ok-slot.ensures.moves.1),
        rw c.in_ok-push.ensures.ok (one_more _ _ c.slots.slots c.in-Some.slot (rw on at (rw n at s.2))),
      );
      stays = grind arith;
    }

pub returns-in_default-clause-item : goal.returns-in_default-clause-item
returns-in_default-clause-item g c =
    let s = c.slots.invariant.so_far in
    let n : s.0 ≡ suc (s.0 - 1) = omega (arith, s.1, c.at-at.ensures.inside) in
    let done = ended_done g.V.UnitVersion.pair (s.0 - 1) c.slots.reader c.read_pair.new.reader (rw c.in_default.is at c.in_ok-slot.ensures.item) in
    no_more _ c.slots.slots c.read_pair.new.reader (rw done at (rw n at s.2))
