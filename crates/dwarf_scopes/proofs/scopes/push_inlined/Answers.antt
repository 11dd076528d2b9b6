use Rattle.std.proofs.Common.{◌+◌, ◌++◌, ◌∙◌, false, List, sym, ap, subst, arith}
use Rattle.std.specs.Prelude.{filter}
use Rattle.dwarf_info.specs.declared.entry.Entry.{Entry}
use Rattle.dwarf_entries.specs.Standing.{Standing, standing_in}
use Rattle.dwarf_scopes.specs.inner.Picks.{is_wanted}
use Rattle.dwarf_scopes.specs.inner.Fronts.{StandFrom}
use Rattle.dwarf_scopes.proofs.LevelLaws.{stand_behind}
use Rattle.dwarf_scopes.proofs.scopes.push_inlined.Goals as goal

pub overflow_add-at : goal.overflow_add-at
overflow_add-at c = omega (arith, c.entries.invariant.stand.fits, c.quiet_among-quiet.ensures.few)

pub overflow_add-at-else-quiet-gt0 : goal.overflow_add-at-else-quiet-gt0
overflow_add-at-else-quiet-gt0 c = omega (arith, c.entries.invariant.stand.fits, c.in-len1-up.len_at_least)

pub entries-preserved-then-quiet-gt0 : goal.entries-preserved-then-quiet-gt0
entries-preserved-then-quiet-gt0 c =
    let quiet = c.quiet_among-quiet.result in
    let all = c.args.unit.now.entries in
    let F = λ (xs : List Entry). filter (is_wanted false c.args.pick.now.sections.now c.args.pick.now.address) (standing_in c.args.unit.now xs) in
    record {
      right = c.entries.invariant.right;
      stand = subst (λ (xs : List Entry). StandFrom (c.entries.at + quiet) xs all) (sym c.entries_from-left.ensures) (stand_behind quiet c.entries.at c.entries.left.now all c.quiet_among-quiet.ensures.few c.entries.invariant.stand);
      so_far = c.entries.invariant.so_far ∙ ap (λ (xs : List Standing). c.entries.found ++ xs) (c.quiet_among-quiet.ensures.none ∙ ap F (sym c.entries_from-left.ensures));
    }
