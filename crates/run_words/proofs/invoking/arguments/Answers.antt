use Rattle.std.proofs.Common.{sym}
use Rattle.run_words.specs.Invocations.{argument}
use Rattle.run_words.proofs.EachLaws.{one_read, one_refused, all_read, left_now, none_left}
use Rattle.run_words.proofs.invoking.arguments.Goals as goal

pub returns-in_default-clause-usage : goal.returns-in_default-clause-usage
returns-in_default-clause-usage c = λ _. one_refused argument _ c.loop-word.values _ _ _ c.loop-word.invariant (left_now (λ w. w.now) c.args.words.now c.loop-word.word-index _ c.loop-word-test.true) (sym c.in_default.ensures)

pub loop-word-preserved : goal.loop-word-preserved
loop-word-preserved c = rw c.in_ok-push.ensures.ok (one_read argument _ c.loop-word.values _ _ _ c.in-Some.value c.loop-word.invariant (left_now (λ w. w.now) c.args.words.now c.loop-word.word-index _ c.loop-word-test.true) (sym c.in-Some.ensures))

pub returns-clause-ok : goal.returns-clause-ok
returns-clause-ok c = all_read argument _ c.loop-word.values _ c.loop-word.invariant (none_left (λ w. w.now) c.args.words.now c.loop-word.word-index c.loop-word-test.false)
