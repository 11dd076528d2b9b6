use Rattle.std.proofs.Common.{◌∙◌}
use Rattle.std.proofs.lemmas.Result.{IfOk-weaker}
use Rattle.dwarf_scopes.proofs.SpanLaws.{are_joined}
use Rattle.dwarf_scopes.proofs.spans.joined.Goals as goal

pub returns : goal.returns
returns c =
    IfOk-weaker c.apart.result _ _
    (λ spans is. are_joined c.args.left.now c.args.right.now c.as_slice.result.now spans.items c.requires.left c.requires.right (c.as_slice.ensures.value ∙ c.in_ok-both.ensures) is)
    c.apart.ensures
