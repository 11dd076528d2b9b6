use Rattle.selftest_command.proofs.Alone.{same_items}
use Rattle.selftest_command.proofs.original.dump_behind.Goals as goal

pub returns-in_ok-dump-in-Trapped-clause-dump : goal.returns-in_ok-dump-in-Trapped-clause-dump
returns-in_ok-dump-in-Trapped-clause-dump c = λ p at kind is stands. same_items c.dump_bytes.result c.dump_bytes.ensures.bytes (c.in_ok-dump-in-Trapped.ensures.bytes p at stands)

pub returns-in_default-end-clause-dump : goal.returns-in_default-end-clause-dump
returns-in_default-end-clause-dump c = λ p at kind is stands. absurd (c.in_default-end.not-Trapped kind is)
