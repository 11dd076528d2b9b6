use Rattle.std.proofs.Common.{◌≡◌, map, ap, ◌∙◌, subst}
use Rattle.std.specs.Prelude.{IfOk}
use Rattle.rewrite_bodies.specs.calls.Guards.{entry_label, helper}
use Rattle.wasm_syntax.specs.SameCode.{body_code}
use Rattle.rewrite_modules.specs.calls.FlatCode.{body_of}
use Rattle.rewrite_code.specs.calls.Writing.{EmitsLast, nothing}
use Rattle.instrument.proofs.entries.helper_body.Goals as goal

pub returns-clause-code : goal.returns-clause-code
returns-clause-code c =
    let m = c.args.parts.now in
    let t = c.args.ftype in
    let labels = c.as_slice.ensures ∙ c.in_ok-labels.ensures ∙ ap (map (entry_label m t)) c.requires in
    let one : EmitsLast (helper m t) c.new-writer.result c.helper.new.writer = c.in_ok-helper.ensures m t labels in
    let whole : EmitsLast (helper m t) nothing c.helper.new.writer = subst (λ w. EmitsLast (helper m t) w c.helper.new.writer) c.new-writer.ensures one in
    subst (λ gs. IfOk c.finish.result (λ out. body_code out ≡ body_code (body_of gs (helper m t)))) c.new.ensures (c.finish.ensures.code (helper m t) whole)
