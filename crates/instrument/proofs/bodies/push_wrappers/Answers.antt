use Rattle.std.proofs.Common.{◌+◌, [], take, get_or, sym, subst}
use Rattle.rewrite_modules.specs.calls.FlatCode.{body_of}
use Rattle.rewrite_modules.specs.calls.Wrappers.{wrapper}
use Rattle.instrument.specs.inner.Adding.{Adds, wrapper_bodies}
use Rattle.instrument.proofs.Adding.{one_added, mapped_at, item_at}
use Rattle.instrument.proofs.Wrapped.{function_there, few_parameters}
use Rattle.instrument.proofs.bodies.push_wrappers.Goals as goal

pub wrapper_body-requires-clause-there : goal.wrapper_body-requires-clause-there
wrapper_body-requires-clause-there c =
    let i = c.loop-function.function-index in
    let f = get_or c.wrapped-function-items.result.now i 0 in
    function_there c.args.numbers.now c.requires i f (item_at _ c.wrapped-function-items.result.now i c.wrapped-function-items.ensures c.loop-function-test.true)

pub wrapper_body-requires-clause-few : goal.wrapper_body-requires-clause-few
wrapper_body-requires-clause-few c =
    let i = c.loop-function.function-index in
    let f = get_or c.wrapped-function-items.result.now i 0 in
    few_parameters c.args.numbers.now c.requires i f (item_at _ c.wrapped-function-items.result.now i c.wrapped-function-items.ensures c.loop-function-test.true)

pub loop-function-preserved : goal.loop-function-preserved
loop-function-preserved c =
    let m = c.args.numbers.now in
    let i = c.loop-function.function-index in
    let f = get_or c.wrapped-function-items.result.now i 0 in
    let more = wrapper_bodies m in
    let at = mapped_at (λ g. body_of [] (wrapper m g)) _ i f (item_at _ c.wrapped-function-items.result.now i c.wrapped-function-items.ensures c.loop-function-test.true) in
    subst (λ z. Adds (take (i + 1) more) c.args.out.now z) (sym c.in_ok-push.ensures.ok)
    (one_added more c.args.out.now c.loop-function.out i _ c.in_ok-body.body at c.in_ok-body.ensures.code c.in_ok-body.ensures.offsets c.loop-function.invariant)
