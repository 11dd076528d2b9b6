use Rattle.run_session.proofs.Handing.{told_with, told_without}
use Rattle.run_session.proofs.told.tell.Goals as goal

pub returns-then-words-clause-told : goal.returns-then-words-clause-told
returns-then-words-clause-told c = λ deliver delivers.
    told_with c.args.words.now.collect deliver c.args.answer.now c.args.instance.now c.args.calls.now c.args.words.now.name c.as_str-name.result.now c.if-words.true c.as_str-name.ensures.value c.with_calls.result (c.with_calls.ensures.told deliver delivers)

pub returns-else-words-clause-told : goal.returns-else-words-clause-told
returns-else-words-clause-told c = λ deliver delivers.
    told_without c.args.words.now.collect deliver c.args.answer.now c.args.instance.now c.args.calls.now c.args.words.now.name c.as_str-name.result.now c.if-words.false c.as_str-name.ensures.value c.without_calls.result c.without_calls.ensures.told
