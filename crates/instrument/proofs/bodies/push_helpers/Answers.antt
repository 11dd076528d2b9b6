use Rattle.std.proofs.Common.{◌+◌, [], take, get_or, sym, ap, ◌∙◌, subst}
use Rattle.wasm_syntax.specs.declared.module.ModuleParts.{ModuleParts as Module}
use Rattle.rewrite_bodies.specs.calls.Guards.{helper}
use Rattle.wasm_syntax.specs.SameCode.{body_code}
use Rattle.rewrite_modules.specs.calls.FlatCode.{body_of}
use Rattle.instrument.specs.inner.Adding.{Adds, helper_bodies}
use Rattle.instrument.proofs.Adding.{one_added, mapped_at, item_at}
use Rattle.instrument.proofs.bodies.push_helpers.Goals as goal

pub loop-ftype-preserved : goal.loop-ftype-preserved
loop-ftype-preserved c =
    let m = c.args.numbers.now in
    let i = c.loop-ftype.ftype-index in
    let t = get_or c.helped-ftype-items.result.now i 0 in
    let more = helper_bodies m in
    let at = mapped_at (λ u. body_of [] (helper m u)) _ i t (item_at _ c.helped-ftype-items.result.now i c.helped-ftype-items.ensures.flat c.loop-ftype-test.true) in
    subst (λ z. Adds (take (i + 1) more) c.args.out.now z) (sym c.in_ok-push.ensures.ok)
    (one_added more c.args.out.now c.loop-ftype.out i _ c.in_ok-body.body at (c.in_ok-body.ensures.code ∙ ap (λ (x : Module). body_code (body_of [] (helper x t))) c.source-parts.ensures) c.in_ok-body.ensures.offsets c.loop-ftype.invariant)
