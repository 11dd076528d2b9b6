use Rattle.std.proofs.Common.{◌≡◌}
use Rattle.commands.specs.Texts.{file_fault}
use Rattle.causes.specs.Counts.{Rose}
use Rattle.commands.proofs.Endings.{ended_for, ended_read}
use Rattle.commands.proofs.Unless.{all_answers}
use Rattle.debug_command.proofs.Answers.{dump_whole, dump_refused}
use Rattle.debug_command.proofs.command.debug_dump.Goals as goal

pub returns-in-Value-clause-told : goal.returns-in-Value-clause-told
returns-in-Value-clause-told g c =
    dump_whole (g.F.Files.told c.args.files.now) c.args.words.now c.args.bytes.now c.as_str.result.now c.as_slice.result.now c.in_ok-input.input c.in-Value.dump_bytes c.deref.result.now c.on_bytes.result
    c.as_str.ensures.value c.as_slice.ensures c.in-Value.is c.deref.ensures.value c.in_ok-input.ensures.told (all_answers _ c.on_bytes.result c.on_bytes.ensures.value)

pub returns-in-Refused-clause-told : goal.returns-in-Refused-clause-told
returns-in-Refused-clause-told g c =
    dump_refused (g.F.Files.told c.args.files.now) c.args.words.now c.args.bytes.now c.as_str.result.now c.in_ok-input.input c.in-Refused.refusal c.as_str.ensures.value c.in-Refused.is c.in_ok-input.ensures.told

pub returns-in-Value-clause-ended : goal.returns-in-Value-clause-ended
returns-in-Value-clause-ended g c =
    ended_for (λ o. ⊥) (λ o. (o ≡ file_fault c.args.words.now.dump) × Rose (g.F.Files.faults c.args.files.now) (g.F.Files.faults c.read_input.new.files)) c.on_bytes.result c.on_bytes.ensures.ended (λ o none. absurd none)

pub returns-in-Refused-clause-ended : goal.returns-in-Refused-clause-ended
returns-in-Refused-clause-ended g c =
    ended_read c.as_str.result.now c.args.words.now.dump (Rose (g.F.Files.faults c.args.files.now) (g.F.Files.faults c.read_input.new.files)) c.in_ok-input.input c.in-Refused.refusal c.as_str.ensures.value c.in-Refused.is c.in_ok-input.ensures.ended
