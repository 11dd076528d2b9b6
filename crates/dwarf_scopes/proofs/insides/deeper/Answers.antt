use Rattle.std.proofs.Common.{◌≡◌, ◌<◌, length, refl, sym, ap, subst, ◌∙◌, arith}
use Rattle.dwarf_info.specs.declared.entry.Entry.{Entry}
use Rattle.dwarf_scopes.proofs.Counts.{insides_length, fits, steps}
use Rattle.dwarf_scopes.proofs.insides.deeper.Goals as goal

pub bounds-counts-at : goal.bounds-counts-at
bounds-counts-at c = let same : length c.args.counts.now ≡ length c.args.entries.now = ap length c.requires ∙ insides_length c.args.entries.now in omega (arith, same, c.entries-test.true)

pub overflow_add-at : goal.overflow_add-at
overflow_add-at c = let most = fits c.args.entries.now c.args.counts.now c.entries.at c.index-entries-at.result 0 _ c.entries-test.true c.requires refl in omega (arith, most)

pub overflow_add-at-in-entries : goal.overflow_add-at-in-entries
overflow_add-at-in-entries c = let most = fits c.args.entries.now c.args.counts.now c.entries.at c.index-entries-at.result 0 _ c.entries-test.true c.requires refl in omega (arith, most)

pub entries-preserved : goal.entries-preserved
entries-preserved c =
    let most = fits c.args.entries.now c.args.counts.now c.entries.at c.index-entries-at.result 0 _ c.entries-test.true c.requires refl in
    let more = steps c.args.depth c.args.entries.now c.args.counts.now c.entries.at c.index-entries-at.result c.index-entries-at.result 0 _ c.entries-test.true c.index-entries-at.is c.requires refl (subst (λ (e : Entry). c.args.depth < e.depth) (sym c.index-entries-at.is) c.if-entries-at.true) in
    (omega (arith, most), omega (arith, c.entries.invariant.1, more))
