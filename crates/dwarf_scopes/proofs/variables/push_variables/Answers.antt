use Rattle.std.proofs.Common.{◌≡◌, ◌++◌, List, length, sym, ap, subst, ◌∙◌, arith}
use Rattle.std.specs.Prelude.{OnOk, filter}
use Rattle.dwarf_info.specs.declared.entry.Entry.{Entry}
use Rattle.dwarf_entries.specs.Standing.{Standing, standing_in}
use Rattle.dwarf_scopes.specs.inner.Insides.{insides}
use Rattle.dwarf_scopes.specs.inner.Picks.{is_variable_of}
use Rattle.dwarf_scopes.proofs.Counts.{insides_length, taken, within, scope_variables}
use Rattle.dwarf_scopes.proofs.variables.push_variables.Goals as goal

pub first_entries-entries-requires : goal.first_entries-entries-requires
first_entries-entries-requires c = within c.args.entry.now.depth c.args.inside c.args.behind.now c.requires.inside

pub first_counts-counts-requires : goal.first_counts-counts-requires
first_counts-counts-requires c =
    let same : length c.args.counts.now ≡ length c.args.behind.now = ap length c.requires.counts ∙ insides_length c.args.behind.now in
    let most = within c.args.entry.now.depth c.args.inside c.args.behind.now c.requires.inside in
    omega (arith, same, most)

pub push_children-requires : goal.push_children-requires
push_children-requires c =
    c.first_counts-counts.ensures ∙ taken c.args.entry.now.depth c.args.inside c.args.behind.now c.args.counts.now c.requires.inside c.requires.counts ∙ ap insides (sym c.first_entries-entries.ensures)

pub returns : goal.returns
returns c =
    let is = ap (λ (es : List Entry). filter (is_variable_of c.args.entry.now.depth) (standing_in c.args.unit.now es)) c.first_entries-entries.ensures ∙ scope_variables c.args.unit.now c.args.entry.now c.args.behind.now c.args.inside c.requires.inside in
    subst (λ (vs : List Standing). OnOk c.push_children.result (c.push_children.new.variables ≡ c.args.variables.now ++ vs)) is c.push_children.ensures
