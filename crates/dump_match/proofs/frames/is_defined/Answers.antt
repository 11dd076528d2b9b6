use Rattle.std.proofs.Common.{◌≡◌, sym, ap, ◌∙◌}
use Rattle.std.specs.Prelude.{Some, None}
use Rattle.std.specs.Option.{option_copied}
use Rattle.wasm_syntax.specs.Valid.{body_of}
use Rattle.dump_match.proofs.Spots.{defined_fits, undefined}
use Rattle.dump_match.proofs.frames.is_defined.Goals as goal

pub returns-in-Some : goal.returns-in-Some
returns-in-Some c =
    let m = c.parts.ensures.value ∙ c.module.ensures.value in
    let e : body_of c.args.m.now c.args.frame.now.function ≡ Some c.in-Some._body.now = ap (λ x. body_of x c.args.frame.now.function) (sym m) ∙ sym c.body_of.ensures ∙ ap (λ o. option_copied o) c.in-Some.is in
    defined_fits c.args.m.now c.args.frame.now c.in-Some._body.now c.module.ensures.valid e

pub returns-in-None : goal.returns-in-None
returns-in-None c =
    let m = c.parts.ensures.value ∙ c.module.ensures.value in
    let e : body_of c.args.m.now c.args.frame.now.function ≡ None = ap (λ x. body_of x c.args.frame.now.function) (sym m) ∙ sym c.body_of.ensures ∙ ap (λ o. option_copied o) c.in-None.is in
    undefined c.args.m.now c.args.frame.now e
