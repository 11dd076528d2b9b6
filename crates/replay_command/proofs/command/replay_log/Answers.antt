use Rattle.std.proofs.Common.{◌≡◌}
use Rattle.commands.specs.Texts.{file_fault}
use Rattle.causes.specs.Counts.{Rose}
use Rattle.commands.proofs.Endings.{ended_for, ended_read}
use Rattle.commands.proofs.Unless.{all_answers}
use Rattle.replay_command.proofs.Files.{log_whole, log_refused}
use Rattle.replay_command.proofs.command.replay_log.Goals as goal

pub returns-in-Value-clause-told : goal.returns-in-Value-clause-told
returns-in-Value-clause-told g c =
    log_whole (g.F.Files.told c.args.files.now) c.args.words.now c.args.bytes.now c.as_str.result.now c.in_ok-input.input c.in-Value.log c.deref.result.now c.on_bytes.result
    c.as_str.ensures.value c.in-Value.is c.deref.ensures.value c.in_ok-input.ensures.told (all_answers _ c.on_bytes.result c.on_bytes.ensures.value)

pub returns-in-Refused-clause-told : goal.returns-in-Refused-clause-told
returns-in-Refused-clause-told g c =
    log_refused (g.F.Files.told c.args.files.now) c.args.words.now c.args.bytes.now c.as_str.result.now c.in_ok-input.input c.in-Refused.refusal c.as_str.ensures.value c.in-Refused.is c.in_ok-input.ensures.told

pub returns-in-Value-clause-ended : goal.returns-in-Value-clause-ended
returns-in-Value-clause-ended g c =
    ended_for (λ o. ⊥) (λ o. (o ≡ file_fault c.args.words.now.log) × Rose (g.F.Files.faults c.args.files.now) (g.F.Files.faults c.read_input.new.files)) c.on_bytes.result c.on_bytes.ensures.ended (λ o none. absurd none)

pub returns-in-Refused-clause-ended : goal.returns-in-Refused-clause-ended
returns-in-Refused-clause-ended g c =
    ended_read c.as_str.result.now c.args.words.now.log (Rose (g.F.Files.faults c.args.files.now) (g.F.Files.faults c.read_input.new.files)) c.in_ok-input.input c.in-Refused.refusal c.as_str.ensures.value c.in-Refused.is c.in_ok-input.ensures.ended
