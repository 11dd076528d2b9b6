use Rattle.std.proofs.Common.{◌≡◌, length, refl, ap, ◌∙◌, arith}
use Rattle.dwarf_scopes.proofs.Counts.{insides_length, fits, step_fits, child_step}
use Rattle.dwarf_scopes.proofs.variables.push_children.Goals as goal

pub bounds-counts-at : goal.bounds-counts-at
bounds-counts-at c = let same : length c.args.counts.now ≡ length c.args.entries.now = ap length c.requires ∙ insides_length c.args.entries.now in omega (arith, same, c.entries-test.true)

pub passed-at-requires : goal.passed-at-requires
passed-at-requires c = let most = fits c.args.entries.now c.args.counts.now c.entries.at c.index-entries-at.result 0 _ c.entries-test.true c.requires refl in omega (arith, most)

pub overflow_add-at : goal.overflow_add-at
overflow_add-at c =
    let most = fits c.args.entries.now c.args.counts.now c.entries.at c.index-entries-at.result 0 _ c.entries-test.true c.requires refl in
    let less = step_fits c.entries.at _ c.passed-at.result (length c.args.entries.now) _ c.passed-at.ensures most in
    omega (arith, less)

pub entries-preserved : goal.entries-preserved
entries-preserved c =
    let most = fits c.args.entries.now c.args.counts.now c.entries.at c.index-entries-at.result 0 _ c.entries-test.true c.requires refl in (
      step_fits c.entries.at _ c.passed-at.result (length c.args.entries.now) _ c.passed-at.ensures most,
      child_step c.args.depth c.args.unit.now c.args.entries.now c.args.counts.now c.entries.at c.index-entries-at.result c.index-entries-at.result 0 _ c.passed-at.result c.entries_behind-behind.result.now _ c.entries.variables c.push_if_variable.new.variables c.entries-test.true c.index-entries-at.is c.requires refl c.passed-at.ensures c.entries_behind-behind.ensures c.in_ok-push_if_variable.ensures c.entries.invariant.1,
    )
