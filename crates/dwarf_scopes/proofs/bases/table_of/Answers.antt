use Rattle.std.proofs.Common.{◌<◌, ap, length, arith}
use Rattle.dwarf_scopes.proofs.BaseLaws.{table_past}
use Rattle.dwarf_scopes.proofs.bases.table_of.Goals as goal

pub returns-then-place-section : goal.returns-then-place-section
returns-then-place-section g c =
    let section = g.K.ListKind.section c.args.sections.now in
    let past : length (section c.args.place.way) < c.args.place.at = omega (arith, c.if-place-section.true, ap length c.section-section.ensures) in
    table_past section (g.K.ListKind.item c.args.sections.now) c.args.address c.args.place.way c.args.place.at 0 past
