use Rattle.std.proofs.Common.{map}
use Rattle.std.proofs.lemmas.Result.{err_from_is_err_and}
use Rattle.run_words.specs.Invocations.{invocation, invocations, is_plus}
use Rattle.run_words.proofs.EachLaws.{one_read, one_refused, all_read, some_parts, left_now, none_left}
use Rattle.run_words.proofs.invoking.invocations.Goals as goal

pub returns-in_err-invocation-clause-usage : goal.returns-in_err-invocation-clause-usage
unfolding invocations
returns-in_err-invocation-clause-usage c =
    let p = err_from_is_err_and c.from_residual-in_err-invocation.result c.from_residual-in_err-invocation.ensures.1 in
    λ is. one_refused invocation _ c.loop-part.invocations _ _ _ c.loop-part.invariant (left_now (λ p. map (λ w. w.now) p.now) c.deref-part-items.result.now c.loop-part.part-index _ c.loop-part-test.true) (c.in_err-invocation.ensures.usage cc)

pub loop-part-preserved : goal.loop-part-preserved
loop-part-preserved c =
    rw c.in_ok-push.ensures.ok (one_read invocation _ c.loop-part.invocations _ _ _ c.in_ok-invocation.field-0 c.loop-part.invariant (left_now (λ p. map (λ w. w.now) p.now) c.deref-part-items.result.now c.loop-part.part-index _ c.loop-part-test.true) c.in_ok-invocation.ensures.ok)

pub returns-clause-ok : goal.returns-clause-ok
unfolding invocations
returns-clause-ok c = all_read invocation _ c.loop-part.invocations _ c.loop-part.invariant (none_left (λ p. map (λ w. w.now) p.now) c.deref-part-items.result.now c.loop-part.part-index c.loop-part-test.false)

pub returns-clause-some : goal.returns-clause-some
returns-clause-some c =
    some_parts invocation is_plus (map (λ w. w.now) c.args.words.now) c.loop-part.invocations
    (all_read invocation _ c.loop-part.invocations _ c.loop-part.invariant (none_left (λ p. map (λ w. w.now) p.now) c.deref-part-items.result.now c.loop-part.part-index c.loop-part-test.false))
