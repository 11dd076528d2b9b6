use Rattle.std.proofs.Common.{refl, inl}
use Rattle.run_command.specs.calls.Scripts.{script_result}
use Rattle.run_command.proofs.Stopping.{bytes_stop}
use Rattle.run_command.proofs.Commands.{with_module, module_refused}
use Rattle.run_command.proofs.command.run_bytes.Goals as goal

pub returns-in-Value-clause-told : goal.returns-in-Value-clause-told
returns-in-Value-clause-told g c =
    with_module (g.D.Devices.shown c.args.devices.now) (g.D.Devices.shown c.run_scripted-outcome.new.devices) c.args.words.now (g.F.Files.told c.args.files.now) (g.F.Files.told c.run_scripted-outcome.new.files) c.run_scripted-outcome.result
    (script_result c.args.script) c.args.bytes.now c.in-Ok.loaded c.in-Value.source c.in-Value.is c.in-Ok.ensures.told c.run_scripted-outcome.ensures.told

pub returns-in-Refused-clause-told : goal.returns-in-Refused-clause-told
returns-in-Refused-clause-told g c =
    module_refused (g.D.Devices.shown c.args.devices.now) c.args.words.now (g.F.Files.told c.args.files.now) (g.F.Files.told c.args.files.now) refl c.in-Refused.refusal
    (script_result c.args.script) c.args.bytes.now c.in-Ok.loaded c.in-Refused.is c.in-Ok.ensures.told

pub returns-in-Value-clause-stops : goal.returns-in-Value-clause-stops
returns-in-Value-clause-stops g c =
    bytes_stop (g.D.Devices.shown c.args.devices.now) (g.D.Devices.shown c.run_scripted-outcome.new.devices) c.args.words.now c.run_scripted-outcome.result (script_result c.args.script) c.args.bytes.now c.in-Ok.loaded c.in-Value.source (g.F.Files.told c.args.files.now) (g.F.Files.told c.run_scripted-outcome.new.files)
    c.in-Value.is c.in-Ok.ensures.told c.run_scripted-outcome.ensures.stops

pub returns-in_default-clause-names : goal.returns-in_default-clause-names
returns-in_default-clause-names g c = λ name has. inl has

pub returns-in-Refused-clause-names : goal.returns-in-Refused-clause-names
returns-in-Refused-clause-names g c = λ name has. inl has
