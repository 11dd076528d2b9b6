use Rattle.std.proofs.Common.{◌≡◌, ◌-◌, ◌<◌, suc, length, ap, arith}
use Rattle.wasm_bytes.proofs.Loops.{one_more, no_more, end_on, end_done}
use Rattle.dwarf_info.specs.Units.{answer_item}
use Rattle.dwarf_info.proofs.answers.answers_left.Goals as goal

pub units-preserved : goal.units-preserved
units-preserved g c =
    let f = answer_item c.args.sections.now g.W.UnitVersions.versions in
    let s = c.units.invariant.so_far in
    let inside : c.units.reader.at < length c.units.reader.block = omega arith in
    let n : s.0 ≡ suc (s.0 - 1) = omega (arith, s.1) in
    let on = end_on f (s.0 - 1) c.units.reader c.read_answer.new.reader c.in-Ok.answer inside c.in-Ok.ensures.item in
    record {
      so_far = (
        s.0 - 1,
        omega (arith, s.1, c.in-Ok.ensures.moves.0, ap length c.in-Ok.ensures.moves.1),
        rw c.in_ok-push-in-Ok.ensures.ok (one_more _ _ c.units.units c.in-Ok.answer (rw on at (rw n at s.2))),
      );
      stays = grind arith;
      ready = c.in-Ok.ensures.ready;
    }

pub returns : goal.returns
returns g c =
    let f = answer_item c.args.sections.now g.W.UnitVersions.versions in
    let s = c.units.invariant.so_far in
    let done = end_done f s.0 c.units.reader (omega arith) in
    record { item = no_more _ c.units.units c.units.reader (rw done at s.2) }
