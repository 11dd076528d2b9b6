use Rattle.std.proofs.Common.{◌<◌, ap, length, arith}
use Rattle.std.proofs.lemmas.Result.{IfOk-weaker}
use Rattle.dwarf_scopes.proofs.KnownLaws.{is_said_in, said_past}
use Rattle.dwarf_scopes.proofs.known.said_at.Goals as goal

pub returns-then-place-section-clause-said : goal.returns-then-place-section-clause-said
returns-then-place-section-clause-said g c =
    let section = g.K.ListKind.section c.args.sections.now in
    let past : length (section c.args.place.way) < c.args.place.at = omega (arith, c.if-place-section.true, ap length c.section-section.ensures) in
    said_past section (g.K.ListKind.item c.args.sections.now) c.args.address c.args.place past

pub returns-clause-said : goal.returns-clause-said
returns-clause-said g c =
    IfOk-weaker c.said_from_place-said.result _ _ (λ said is. is_said_in (g.K.ListKind.section c.args.sections.now) (g.K.ListKind.item c.args.sections.now) c.args.address c.args.place said is) c.said_from_place-said.ensures.said
