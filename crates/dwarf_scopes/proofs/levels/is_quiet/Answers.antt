use Rattle.std.proofs.Common.{◌≡◌, ◌<◌, ◌/◌, true, false, ltb, length, Some, sym, ap, ◌∙◌, arith}
use Rattle.std.specs.Prelude.{slice_get}
use Rattle.std.proofs.lemmas.Option.{slice_get-get_or}
use Rattle.dwarf_scopes.specs.calls.Spans.{covers}
use Rattle.dwarf_scopes.proofs.LevelLaws.{opposite, quiet_at}
use Rattle.dwarf_scopes.proofs.levels.is_quiet.Goals as goal

pub returns-in-Some : goal.returns-in-Some
returns-in-Some c = λ entries are quiet.
    let i = c.args.at / c.args.size in
    let spans = c.in-Some.spans.now in
    let within : ltb i (length c.args.parts.now) ≡ true = sym c.in-Some.ensures.lookup.0 in
    let lt : i < length c.args.parts.now = grind (arith, within) in
    let got : slice_get c.args.parts.now i ≡ Some spans = slice_get-get_or c.args.parts.now i spans lt ∙ ap Some (sym c.in-Some.ensures.lookup.1) in
    let none : covers spans c.args.address ≡ false = opposite (covers spans c.args.address) (sym c.is_outside.ensures ∙ quiet) in
    quiet_at c.args.size c.args.address c.args.at c.args.parts.now spans entries (omega arith) c.if-at-size-ne0.false got none are
