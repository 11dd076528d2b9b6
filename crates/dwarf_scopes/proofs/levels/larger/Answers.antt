use Rattle.std.proofs.Common.{List, subst}
use Rattle.std.proofs.lemmas.Result.{IfOk-weaker}
use Rattle.dwarf_scopes.specs.declared.spans.Span.{Span}
use Rattle.dwarf_scopes.proofs.LevelLaws.{AreDoubled, are_larger}
use Rattle.dwarf_scopes.proofs.levels.larger.Goals as goal

pub returns : goal.returns
returns c =
    let double = c.in_ok-double.double in
    let fourfold = c.in_ok-fourfold.fourfold in
    let two = subst (λ (ps : List (List Span)). AreDoubled ps fourfold) c.as_slice.ensures c.in_ok-fourfold.ensures in
    IfOk-weaker c.doubled-eightfold.result _ _
    (λ more three. are_larger c.args.parts.now double fourfold more c.in_ok-double.ensures two (subst (λ (ps : List (List Span)). AreDoubled ps more) c.as_slice-2.ensures three))
    c.doubled-eightfold.ensures
