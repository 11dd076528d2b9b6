use Rattle.commands.proofs.Endings.{ended_some}
use Rattle.dump_format.specs.Decode.{dump_from}
use Rattle.debug_command.specs.Answer.{DumpAnswer}
use Rattle.debug_command.proofs.Judged.{dump_read, dump_refused}
use Rattle.debug_command.proofs.answering.on_dump.Goals as goal

pub returns-in-Ok-clause-value : goal.returns-in-Ok-clause-value
returns-in-Ok-clause-value c = dump_read (DumpAnswer c.args.commands.now c.args.bytes.now c.args.m.now) c.in-Ok.dump (dump_from c.args.dump_bytes.now) c.judged-answer.result c.in-Ok.ensures.exact c.judged-answer.ensures.value

pub returns-in-Err-clause-value : goal.returns-in-Err-clause-value
returns-in-Err-clause-value c = dump_refused (DumpAnswer c.args.commands.now c.args.bytes.now c.args.m.now) c.in-Err.fault (dump_from c.args.dump_bytes.now) c.refused_dump.result c.in-Err.ensures.exact c.refused_dump.ensures.value (ended_some (λ o. ⊥) c.refused_dump.result c.refused_dump.ensures.ended)
