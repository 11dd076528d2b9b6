use Rattle.causes.specs.Counts.{Rose}
use Rattle.commands.proofs.Endings.{ended_read}
use Rattle.replay_command.proofs.Files.{module_whole, module_refused, log_ended, source_ended}
use Rattle.replay_command.proofs.command.replay_file.Goals as goal
use Rattle.commands.proofs.ReadFiles.{rose_since}

pub returns-in-Value-clause-told : goal.returns-in-Value-clause-told
returns-in-Value-clause-told g c =
    module_whole (g.F.Files.told c.args.files.now) (g.F.Files.told c.read_input.new.files) c.args.words.now c.as_str.result.now c.in_ok-input.input c.in-Value.bytes c.deref.result.now c.replay_log.result
    c.in_ok-input.ensures.files.same c.as_str.ensures.value c.in-Value.is c.deref.ensures.value c.in_ok-input.ensures.told c.replay_log.ensures.told

pub returns-in-Refused-clause-told : goal.returns-in-Refused-clause-told
returns-in-Refused-clause-told g c =
    module_refused (g.F.Files.told c.args.files.now) c.args.words.now c.as_str.result.now c.in_ok-input.input c.in-Refused.refusal c.as_str.ensures.value c.in-Refused.is c.in_ok-input.ensures.told

pub returns-in-Value-clause-ended : goal.returns-in-Value-clause-ended
returns-in-Value-clause-ended g c =
    let before = g.F.Files.faults c.args.files.now in
    let middle = g.F.Files.faults c.read_input.new.files in
    let after = g.F.Files.faults c.replay_log.new.files in
    log_ended c.args.words.now (Rose middle after) (Rose before after) c.replay_log.result (λ x. rose_since before middle after c.in_ok-input.ensures.files.later x) c.replay_log.ensures.ended

pub returns-in-Refused-clause-ended : goal.returns-in-Refused-clause-ended
returns-in-Refused-clause-ended g c =
    let rose = Rose (g.F.Files.faults c.args.files.now) (g.F.Files.faults c.read_input.new.files) in
    source_ended c.args.words.now rose c.in-Refused.refusal (ended_read c.as_str.result.now c.args.words.now.source rose c.in_ok-input.input c.in-Refused.refusal c.as_str.ensures.value c.in-Refused.is c.in_ok-input.ensures.ended)
