use Rattle.causes.specs.Counts.{Rose}
use Rattle.commands.specs.Texts.{file_fault}
use Rattle.commands.proofs.Endings.{ended_for}
use Rattle.std.proofs.Common.{◌≡◌}
use Rattle.wasm_syntax.specs.declared.quantity.Quantity.TheVariants.{DumpBytes}
use Rattle.commands.proofs.Unless.{all_answers}
use Rattle.commands.proofs.ReadFiles.{whole_then, refused_then}
use Rattle.dump_format.specs.Decode.{dump_from}
use Rattle.pm_cli.specs.Answer.{shown}
use Rattle.pm_cli.proofs.showing.show_file.Goals as goal

pub returns-in-Value-clause-told : goal.returns-in-Value-clause-told
returns-in-Value-clause-told g c =
    whole_then (g.F.Files.told c.args.files.now) DumpBytes c.args.file.now c.in_ok-input.input c.in-Value.bytes c.deref.result.now (λ bytes o. o ≡ shown (dump_from bytes)) c.show_bytes.result
    c.in-Value.is c.deref.ensures.value c.in_ok-input.ensures.told (all_answers _ c.show_bytes.result c.show_bytes.ensures.value)

pub returns-in-Refused-clause-told : goal.returns-in-Refused-clause-told
returns-in-Refused-clause-told g c =
    refused_then (g.F.Files.told c.args.files.now) DumpBytes c.args.file.now c.in_ok-input.input c.in-Refused.refusal (λ bytes o. o ≡ shown (dump_from bytes))
    c.in-Refused.is c.in_ok-input.ensures.told

pub returns-in-Value-clause-ended : goal.returns-in-Value-clause-ended
returns-in-Value-clause-ended g c =
    ended_for (λ o. ⊥) (λ o. (o ≡ file_fault c.args.file.now) × Rose (g.F.Files.faults c.args.files.now) (g.F.Files.faults c.read_input.new.files)) c.show_bytes.result c.show_bytes.ensures.ended (λ o none. absurd none)
