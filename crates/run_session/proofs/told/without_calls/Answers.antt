use Rattle.run_session.proofs.Handing.{finish_told, trap_came, trap_told, nothing_told}
use Rattle.run_session.proofs.told.without_calls.Goals as goal

pub returns-in-Finished-clause-told : goal.returns-in-Finished-clause-told
returns-in-Finished-clause-told c p used_up o d came = finish_told p used_up c.args.answer.now c.args.instance.now o d c.in-Finished.value c.in-Finished.is came

pub returns-in_ok-dump-in-Trapped-clause-told : goal.returns-in_ok-dump-in-Trapped-clause-told
returns-in_ok-dump-in-Trapped-clause-told c p used_up o d came =
    let at = trap_came p used_up c.args.answer.now c.args.instance.now o d c.in-Trapped.kind c.in-Trapped.is came in
    trap_told p c.args.instance.now o d _ c.code.result c.args.name.now c.in_ok-dump-in-Trapped.dump c.code.ensures at (c.in_ok-dump-in-Trapped.ensures.image p d at.stands) (c.in_ok-dump-in-Trapped.ensures.bytes p d at.stands)

pub returns-in_default-clause-told : goal.returns-in_default-clause-told
returns-in_default-clause-told c p used_up o d came = nothing_told p used_up c.args.answer.now o d c.in_default.not-Finished c.in_default.not-Trapped c.requires came.outcome
