use Rattle.std.proofs.Common.{◌≡◌, sym, ap, subst, ◌∙◌}
use Rattle.std.specs.Prelude.{Some, None}
use Rattle.std.specs.Option.{option_copied}
use Rattle.wasm_syntax.specs.Valid.{body_of}
use Rattle.dump_match.specs.States.{SomeClosesAt}
use Rattle.wasm_validate.specs.calls.Deciding.{Decides}
use Rattle.dump_match.proofs.Closings.{frame_closes, none_closes}
use Rattle.dump_match.proofs.close.is_at_close.Goals as goal

pub returns-in-Some : goal.returns-in-Some
returns-in-Some c =
    let m = c.parts.ensures.value ∙ c.module.ensures.value in
    let e : body_of c.args.m.now c.args.frame.now.function ≡ Some c.in-Some.body.now = ap (λ x. body_of x c.args.frame.now.function) (sym m) ∙ sym c.body_of.ensures ∙ ap (λ o. option_copied o) c.in-Some.is in
    frame_closes c.some_closes_at.result c.args.m.now c.args.frame.now c.in-Some.body.now c.module.ensures.valid e
    (subst (λ ops. Decides c.some_closes_at.result (SomeClosesAt ops c.args.frame.now.offset)) c.as_slice.ensures c.some_closes_at.ensures)

pub returns-in-None : goal.returns-in-None
returns-in-None c =
    let m = c.parts.ensures.value ∙ c.module.ensures.value in
    let e : body_of c.args.m.now c.args.frame.now.function ≡ None = ap (λ x. body_of x c.args.frame.now.function) (sym m) ∙ sym c.body_of.ensures ∙ ap (λ o. option_copied o) c.in-None.is in
    none_closes c.args.m.now c.args.frame.now e
