use Rattle.run_command.specs.calls.Scripts.{script_result}
use Rattle.cover_command.proofs.Commands.{with_module, module_refused}
use Rattle.cover_command.proofs.command.cover_bytes.Goals as goal

pub returns-in-Value-clause-told : goal.returns-in-Value-clause-told
returns-in-Value-clause-told g c =
    with_module (g.D.Devices.shown c.args.devices.now) (g.D.Devices.shown c.cover_scripted-outcome.new.devices) c.args.words.now c.cover_scripted-outcome.result (script_result c.args.script) c.args.bytes.now c.in-Ok.loaded c.in-Value.source
    c.in-Value.is c.in-Ok.ensures.told c.cover_scripted-outcome.ensures.told

pub returns-in-Refused-clause-told : goal.returns-in-Refused-clause-told
returns-in-Refused-clause-told g c =
    module_refused (g.D.Devices.shown c.args.devices.now) c.args.words.now c.in-Refused.refusal (script_result c.args.script) c.args.bytes.now c.in-Ok.loaded c.in-Refused.is c.in-Ok.ensures.told
