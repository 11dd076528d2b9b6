use Rattle.std.proofs.lemmas.Result.{IfOk-weaker}
use Rattle.dwarf_info.proofs.known.pairs_at.Goals as goal

pub returns-in-Ok-known_of_rows : goal.returns-in-Ok-known_of_rows
returns-in-Ok-known_of_rows g c =
    let pair = g.V.UnitVersion.pair in
    let section = c.args.section.now in
    IfOk-weaker c.shared_pairs.result _ _ (λ all knows. knows pair section (c.in-Ok-known_of_rows.ensures pair section c.in-Ok.ensures)) c.shared_pairs.ensures
