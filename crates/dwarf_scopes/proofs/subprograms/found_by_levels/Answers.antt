use Rattle.std.proofs.Common.{ℕ, ◌+◌, ◌<◌, List, Some, length, take, sym, ap, subst, ◌∙◌, arith}
use Rattle.dwarf_info.specs.declared.entry.Entry.{Entry}
use Rattle.dwarf_entries.specs.Standing.{Standing, entries_inside}
use Rattle.dwarf_scopes.specs.inner.Insides.{insides}
use Rattle.dwarf_scopes.specs.inner.Picks.{inlined_from}
use Rattle.dwarf_scopes.specs.inner.Fronts.{StandFrom}
use Rattle.dwarf_scopes.specs.calls.Levels.{AreLevels}
use Rattle.dwarf_scopes.proofs.Counts.{within}
use Rattle.dwarf_scopes.proofs.LevelLaws.{count_is, inside_stands, stands_there}
use Rattle.dwarf_scopes.proofs.subprograms.found_by_levels.Goals as goal

pub first_entries-inside-requires : goal.first_entries-inside-requires
first_entries-inside-requires c =
    let e = c.index-entries-number.result in
    let all = c.as_slice-entries.result.now in
    let lt : c.args.number < length all = omega (arith, c.if-number-entries.false) in
    let counted = count_is all c.args.levels.now.counts c.args.number c.count_of-count.result e _ c.entries_behind-behind.result.now lt c.index-entries-number.is
    (c.requires.counts ∙ ap insides (sym c.as_slice-entries.ensures)) c.entries_behind-behind.ensures c.count_of-count.ensures in
    within e.depth c.count_of-count.result c.entries_behind-behind.result.now counted

pub inlined_by-requires-clause-inside : goal.inlined_by-requires-clause-inside
inlined_by-requires-clause-inside c =
    let e = c.index-entries-number.result in
    let all = c.as_slice-entries.result.now in
    let behind = c.entries_behind-behind.result.now in
    let lt : c.args.number < length all = omega (arith, c.if-number-entries.false) in
    let counted = count_is all c.args.levels.now.counts c.args.number c.count_of-count.result e _ behind lt c.index-entries-number.is
    (c.requires.counts ∙ ap insides (sym c.as_slice-entries.ensures)) c.entries_behind-behind.ensures c.count_of-count.ensures in
    c.first_entries-inside.ensures ∙ ap (λ (m : ℕ). take m behind) counted ∙ ap entries_inside (sym (c.copied.ensures ∙ c.new-subprogram.ensures))

pub inlined_by-requires-clause-levels : goal.inlined_by-requires-clause-levels
inlined_by-requires-clause-levels c = subst (λ (x : Standing). AreLevels x.unit.entries c.args.levels.now) (sym (c.copied.ensures ∙ c.new-subprogram.ensures)) c.requires

pub inlined_by-requires-clause-stand : goal.inlined_by-requires-clause-stand
inlined_by-requires-clause-stand c =
    let e = c.index-entries-number.result in
    let all = c.as_slice-entries.result.now in
    let behind = c.entries_behind-behind.result.now in
    let inside = c.first_entries-inside.result.now in
    let lt : c.args.number < length all = omega (arith, c.if-number-entries.false) in
    let counted = count_is all c.args.levels.now.counts c.args.number c.count_of-count.result e _ behind lt c.index-entries-number.is
    (c.requires.counts ∙ ap insides (sym c.as_slice-entries.ensures)) c.entries_behind-behind.ensures c.count_of-count.ensures in
    let stand = inside_stands all c.args.number c.count_of-count.result behind inside (omega arith) lt c.entries_behind-behind.ensures (within e.depth c.count_of-count.result behind counted) c.first_entries-inside.ensures in
    subst (λ (x : Standing). StandFrom (c.args.number + 1) inside x.unit.entries) (sym (c.copied.ensures ∙ c.new-subprogram.ensures))
    (subst (λ (es : List Entry). StandFrom (c.args.number + 1) inside es) c.as_slice-entries.ensures stand)

pub returns-in-Ok-clause-subprogram : goal.returns-in-Ok-clause-subprogram
returns-in-Ok-clause-subprogram c =
    let all = c.as_slice-entries.result.now in
    let lt : c.args.number < length all = omega (arith, c.if-number-entries.false) in
    stands_there c.args.unit.now all c.args.number c.index-entries-number.result _ c.entries_behind-behind.result.now c.new-subprogram.result c.as_slice-entries.ensures lt c.index-entries-number.is c.entries_behind-behind.ensures c.new-subprogram.ensures

pub returns-in-Ok-clause-inlined : goal.returns-in-Ok-clause-inlined
returns-in-Ok-clause-inlined c =
    let all = c.as_slice-entries.result.now in
    let lt : c.args.number < length all = omega (arith, c.if-number-entries.false) in
    let there = stands_there c.args.unit.now all c.args.number c.index-entries-number.result _ c.entries_behind-behind.result.now c.new-subprogram.result c.as_slice-entries.ensures lt c.index-entries-number.is c.entries_behind-behind.ensures c.new-subprogram.ensures in
    c.in-Ok.ensures ∙ ap (λ (x : Standing). inlined_from c.args.sections.now c.args.address (Some x)) c.copied.ensures ∙ ap (inlined_from c.args.sections.now c.args.address) there
