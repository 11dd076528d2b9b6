use Rattle.std.proofs.Common.{subst}
use Rattle.std.specs.Prelude.{IfOk}
use Rattle.dump_write.specs.Pictured.{bytes_in}
use Rattle.run_session.specs.inner.Dumping.{IsTold}
use Rattle.run_session.proofs.Handing.{shown_is, as_run_told, dump_told, bare_told, torn_told}
use Rattle.run_session.proofs.told.with_calls.Goals as goal

pub returns-in-AsRun-clause-told : goal.returns-in-AsRun-clause-told
returns-in-AsRun-clause-told c deliver delivers p used_up o d came =
    subst (λ t. IfOk c.without_calls.result (IsTold t c.args.name.now)) (as_run_told p used_up c.args.answer.now c.args.instance.now o d c.args.name.now c.requires came deliver c.args.calls.now c.shown_by.result c.in-AsRun.is
    (shown_is p used_up c.args.answer.now o c.args.name.now (bytes_in c.args.instance.now.machine.shared.memory) c.args.calls.now deliver delivers c.shown_by.result c.in_ok-handed.handed
    (c.in_ok-handed.ensures.handed c.args.instance.now.machine.shared.memory c.memory.ensures.memory) (λ delivery handed. c.shown_by.ensures.shown p used_up o came.outcome c.requires delivery (bytes_in c.args.instance.now.machine.shared.memory) c.args.name.now handed)))
    (c.without_calls.ensures.told p used_up o d came)

pub returns-in-Collected-clause-told : goal.returns-in-Collected-clause-told
returns-in-Collected-clause-told c deliver delivers p used_up o d came =
    dump_told p used_up c.args.answer.now c.args.instance.now o d c.args.name.now c.requires came deliver c.args.calls.now c.shown_by.result _ c.in-Collected.is
    (shown_is p used_up c.args.answer.now o c.args.name.now (bytes_in c.args.instance.now.machine.shared.memory) c.args.calls.now deliver delivers c.shown_by.result c.in_ok-handed.handed
    (c.in_ok-handed.ensures.handed c.args.instance.now.machine.shared.memory c.memory.ensures.memory) (λ delivery handed. c.shown_by.ensures.shown p used_up o came.outcome c.requires delivery (bytes_in c.args.instance.now.machine.shared.memory) c.args.name.now handed))

pub returns-in-NoDump-clause-told : goal.returns-in-NoDump-clause-told
returns-in-NoDump-clause-told c deliver delivers p used_up o d came =
    bare_told p used_up c.args.answer.now c.args.instance.now o d c.args.name.now c.requires came deliver c.args.calls.now c.shown_by.result c.in-NoDump.kind c.code.result c.in-NoDump.is c.code.ensures
    (shown_is p used_up c.args.answer.now o c.args.name.now (bytes_in c.args.instance.now.machine.shared.memory) c.args.calls.now deliver delivers c.shown_by.result c.in_ok-handed.handed
    (c.in_ok-handed.ensures.handed c.args.instance.now.machine.shared.memory c.memory.ensures.memory) (λ delivery handed. c.shown_by.ensures.shown p used_up o came.outcome c.requires delivery (bytes_in c.args.instance.now.machine.shared.memory) c.args.name.now handed))

pub returns-in-Torn-clause-told : goal.returns-in-Torn-clause-told
returns-in-Torn-clause-told c deliver delivers p used_up o d came =
    torn_told p used_up c.args.answer.now c.args.instance.now o d c.args.name.now c.requires came deliver c.args.calls.now c.shown_by.result c.in-Torn.at c.in-Torn.is
    (shown_is p used_up c.args.answer.now o c.args.name.now (bytes_in c.args.instance.now.machine.shared.memory) c.args.calls.now deliver delivers c.shown_by.result c.in_ok-handed.handed
    (c.in_ok-handed.ensures.handed c.args.instance.now.machine.shared.memory c.memory.ensures.memory) (λ delivery handed. c.shown_by.ensures.shown p used_up o came.outcome c.requires delivery (bytes_in c.args.instance.now.machine.shared.memory) c.args.name.now handed))
