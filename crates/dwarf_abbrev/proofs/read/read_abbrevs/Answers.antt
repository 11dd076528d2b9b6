use Rattle.std.proofs.Common.{◌≡◌, Some, sym, ap, refl, ◌∙◌, arith}
use Rattle.dwarf_bytes.specs.Items.{reading_of, read_at}
use Rattle.dwarf_bytes.proofs.Standing.{read_stands}
use Rattle.dwarf_abbrev.specs.Reading.{abbrevs_item}
use Rattle.dwarf_abbrev.specs.calls.Grammar.{abbrevs}
use Rattle.dwarf_abbrev.proofs.Exact.{abbrevs_exact, abbrevs_past, none_stands, fails_none}
use Rattle.dwarf_abbrev.proofs.read.read_abbrevs.Goals as goal

pub returns-then-at-section-clause-exact : goal.returns-then-at-section-clause-exact
returns-then-at-section-clause-exact c = rw (abbrevs_past c.args.section.now c.args.at c.if-at-section.true) refl

pub returns-in-Ok-new-clause-spelled : goal.returns-in-Ok-new-clause-spelled
returns-in-Ok-new-clause-spelled c =
    let read : read_at abbrevs_item c.args.section.now c.args.at ≡ Some c.in-Ok-new.table =
    ap reading_of (ap abbrevs_item (sym c.starting_at.ensures) ∙ c.in-Ok.ensures.item) ∙ ap Some (sym c.in-Ok-new.ensures) in
    read_stands abbrevs abbrevs_item abbrevs_exact c.args.section.now c.args.at c.in-Ok-new.table (λ i. omega (arith, c.type_inv.section i)) c.if-at-section.false read

pub returns-then-at-section-clause-unreadable : goal.returns-then-at-section-clause-unreadable
returns-then-at-section-clause-unreadable c = λ is. none_stands c.args.section.now c.args.at (abbrevs_past c.args.section.now c.args.at c.if-at-section.true)

pub returns-in-Err-At-clause-unreadable : goal.returns-in-Err-At-clause-unreadable
returns-in-Err-At-clause-unreadable c =
    let failed = fails_none c.in-Err-At.field-0 _ (abbrevs_item c.starting_at.result) c.in-Err-At.field-0-is c.in-Err-At.ensures.item in
    λ is. none_stands c.args.section.now c.args.at (ap (λ p. reading_of (abbrevs_item p)) (sym c.starting_at.ensures) ∙ failed)
