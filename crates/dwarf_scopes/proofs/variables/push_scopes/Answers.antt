use Rattle.std.proofs.Common.{◌≡◌, ◌+◌, length, drop, sym, ap, ◌∙◌, arith}
use Rattle.dwarf_scopes.specs.Scopes.{is_scope_at}
use Rattle.dwarf_scopes.specs.inner.Insides.{deeper, insides}
use Rattle.dwarf_scopes.proofs.Counts.{insides_length, insides_drop, counted_at, scope_step}
use Rattle.dwarf_scopes.proofs.variables.push_scopes.Goals as goal

pub counts_behind-counts_behind-requires : goal.counts_behind-counts_behind-requires
counts_behind-counts_behind-requires c = let same : length c.args.counts.now ≡ length c.args.entries.now = ap length c.requires.counts ∙ insides_length c.args.entries.now in omega (arith, same, c.entries-test.true)

pub bounds-counts-at : goal.bounds-counts-at
bounds-counts-at c = let same : length c.args.counts.now ≡ length c.args.entries.now = ap length c.requires.counts ∙ insides_length c.args.entries.now in omega (arith, same, c.entries-test.true)

pub push_if_scope-requires-clause-inside : goal.push_if_scope-requires-clause-inside
push_if_scope-requires-clause-inside c =
    counted_at c.args.entries.now c.args.counts.now c.entries.at c.index-entries-at.result c.index-entries-at.result 0 c.entries-test.true c.index-entries-at.is c.requires.counts
    ∙ ap (deeper c.index-entries-at.result.depth) (sym c.entries_behind-behind.ensures)

pub push_if_scope-requires-clause-counts : goal.push_if_scope-requires-clause-counts
push_if_scope-requires-clause-counts c =
    c.counts_behind-counts_behind.ensures ∙ ap (drop (c.entries.at + 1)) c.requires.counts ∙ sym (insides_drop (c.entries.at + 1) c.args.entries.now) ∙ ap insides (sym c.entries_behind-behind.ensures)

pub entries-preserved : goal.entries-preserved
entries-preserved c = (
  omega (arith, c.entries-test.true),
  c.push_if_scope.ensures.right,
  scope_step (is_scope_at c.args.pick.now.sections.now c.args.pick.now.address) c.args.unit.now c.args.entries.now c.entries.at c.index-entries-at.result c.index-entries-at.result c.entries_behind-behind.result.now _ c.entries.variables c.push_if_scope.new.variables c.entries-test.true c.index-entries-at.is c.entries_behind-behind.ensures c.in_ok-push_if_scope.ensures.variables c.entries.invariant.2,
)
