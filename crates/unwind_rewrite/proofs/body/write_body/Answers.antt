use Rattle.std.proofs.Common.{◌≡◌, ◌++◌, ap, ◌∙◌, subst}
use Rattle.std.specs.Prelude.{IfOk}
use Rattle.rewrite_bodies.specs.calls.Rewrite.{laid}
use Rattle.rewrite_bodies.specs.calls.Slots.{groups}
use Rattle.wasm_syntax.specs.SameCode.{body_code}
use Rattle.rewrite_modules.specs.calls.FlatCode.{body_of}
use Rattle.rewrite_code.specs.calls.Writing.{EmitsLast, nothing}
use Rattle.unwind_rewrite.proofs.body.write_body.Goals as goal

pub returns-clause-code : goal.returns-clause-code
returns-clause-code c = λ tree writes fine.
    let C = c.args.context.now in
    let all : EmitsLast (laid C tree.nodes) c.new-writer.result c.write_code.new.writer = c.in_ok-write_code.ensures tree writes fine in
    let whole : EmitsLast (laid C tree.nodes) nothing c.write_code.new.writer = subst (λ w. EmitsLast (laid C tree.nodes) w c.write_code.new.writer) c.new-writer.ensures all in
    let locals = c.in_ok-locals.ensures ∙ ap (λ gs. gs ++ groups c.slots.result) c.as_slice.ensures ∙ ap (λ n. c.args.body.now.groups ++ groups n) c.slots.ensures.count in
    subst (λ gs. IfOk c.finish.result (λ out. body_code out ≡ body_code (body_of gs (laid C tree.nodes)))) locals (c.finish.ensures.code (laid C tree.nodes) whole)
