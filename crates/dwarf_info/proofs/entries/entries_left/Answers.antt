use Rattle.std.proofs.Common.{◌≡◌, ◌-◌, ◌∙◌, sym, suc, length, true, false, ap, arith}
use Rattle.std.proofs.lemmas.Result.{err_from_is_err_and}
use Rattle.wasm_bytes.specs.Reading.{steps_while_due}
use Rattle.wasm_bytes.proofs.Loops.{due_on, due_fails, none_due}
use Rattle.dwarf_info.specs.Entries.{step_item, is_whole}
use Rattle.dwarf_info.specs.inner.Contexts.{seen}
use Rattle.dwarf_info.proofs.entries.entries_left.Goals as goal

pub entries-preserved : goal.entries-preserved
entries-preserved g c =
    let f = step_item (seen g.V.UnitVersion.version g.V.UnitVersion.looked c.args.context.now) in
    let s = c.entries.invariant.so_far in
    let n : s.0 ≡ suc (s.0 - 1) = omega (arith, s.1, c.at-at.ensures.inside) in
    let due : is_whole c.entries.growing ≡ false = sym c.is_whole.ensures ∙ c.entries-test.true in
    let on = due_on is_whole f (s.0 - 1) c.entries.growing c.step.new.growing c.entries.reader c.step.new.reader due c.in_ok-step.ensures.item in
    record {
      so_far = (
        s.0 - 1,
        omega (arith, s.1, c.at-at.ensures.inside, c.in_ok-step.ensures.moves.0, ap length c.in_ok-step.ensures.moves.1),
        s.2 ∙ ap (λ k. steps_while_due is_whole f k c.entries.growing c.entries.reader) n ∙ on,
      );
      stays = grind arith;
      depth = c.in_ok-step.ensures.depth;
    }

pub returns-in_err-step-clause-item : goal.returns-in_err-step-clause-item
returns-in_err-step-clause-item g c =
    let f = step_item (seen g.V.UnitVersion.version g.V.UnitVersion.looked c.args.context.now) in
    let p = err_from_is_err_and c.from_residual.result c.from_residual.ensures.1 in
    let s = c.entries.invariant.so_far in
    let n : s.0 ≡ suc (s.0 - 1) = omega (arith, s.1, c.at-at.ensures.inside) in
    let due : is_whole c.entries.growing ≡ false = sym c.is_whole.ensures ∙ c.entries-test.true in
    rw (p.1, p.2, s.2, n) (due_fails is_whole f (s.0 - 1) c.entries.growing c.entries.reader c.in_err-step.field-0.0 due c.in_err-step.ensures.item)

pub returns-clause-item : goal.returns-clause-item
returns-clause-item g c =
    let f = step_item (seen g.V.UnitVersion.version g.V.UnitVersion.looked c.args.context.now) in
    let s = c.entries.invariant.so_far in
    let all : is_whole c.entries.growing ≡ true = sym c.is_whole.ensures ∙ c.entries-test.false in
    s.2 ∙ none_due is_whole f s.0 c.entries.growing c.entries.reader all
