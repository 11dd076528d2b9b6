use Rattle.causes.specs.Counts.{Rose}
use Rattle.commands.proofs.Endings.{ended_read}
use Rattle.debug_command.proofs.Answers.{module_whole, module_refused, dump_ended, source_ended}
use Rattle.debug_command.proofs.command.debug_file.Goals as goal
use Rattle.commands.proofs.ReadFiles.{rose_since}

pub returns-in-Value-clause-told : goal.returns-in-Value-clause-told
returns-in-Value-clause-told g c =
    module_whole (g.F.Files.told c.args.files.now) (g.F.Files.told c.read_input.new.files) c.args.words.now c.as_str.result.now c.in_ok-input.input c.in-Value.bytes c.deref.result.now c.debug_dump.result
    c.in_ok-input.ensures.files.same c.as_str.ensures.value c.in-Value.is c.deref.ensures.value c.in_ok-input.ensures.told c.debug_dump.ensures.told

pub returns-in-Refused-clause-told : goal.returns-in-Refused-clause-told
returns-in-Refused-clause-told g c =
    module_refused (g.F.Files.told c.args.files.now) c.args.words.now c.as_str.result.now c.in_ok-input.input c.in-Refused.refusal c.as_str.ensures.value c.in-Refused.is c.in_ok-input.ensures.told

pub returns-in-Value-clause-ended : goal.returns-in-Value-clause-ended
returns-in-Value-clause-ended g c =
    let before = g.F.Files.faults c.args.files.now in
    let middle = g.F.Files.faults c.read_input.new.files in
    let after = g.F.Files.faults c.debug_dump.new.files in
    dump_ended c.args.words.now (Rose middle after) (Rose before after) c.debug_dump.result (λ x. rose_since before middle after c.in_ok-input.ensures.files.later x) c.debug_dump.ensures.ended

pub returns-in-Refused-clause-ended : goal.returns-in-Refused-clause-ended
returns-in-Refused-clause-ended g c =
    let rose = Rose (g.F.Files.faults c.args.files.now) (g.F.Files.faults c.read_input.new.files) in
    source_ended c.args.words.now rose c.in-Refused.refusal (ended_read c.as_str.result.now c.args.words.now.source rose c.in_ok-input.input c.in-Refused.refusal c.as_str.ensures.value c.in-Refused.is c.in_ok-input.ensures.ended)
