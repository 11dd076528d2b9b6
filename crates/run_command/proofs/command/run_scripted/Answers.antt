use Rattle.std.proofs.Common.{refl, ap, inl}
use Rattle.causes.specs.Counts.{Rose}
use Rattle.commands.proofs.Endings.{ended_for}
use Rattle.run_command.specs.calls.Scripts.{script_result}
use Rattle.run_command.specs.Stops.{ScriptStops}
use Rattle.run_command.proofs.Stopping.{no_read_fault, not_reached, scripted_stops}
use Rattle.run_command.proofs.Commands.{with_script, script_refused}
use Rattle.run_command.proofs.command.run_scripted.Goals as goal

pub returns-in-Whole-clause-told : goal.returns-in-Whole-clause-told
returns-in-Whole-clause-told g c =
    with_script (g.D.Devices.shown c.args.devices.now) (g.D.Devices.shown c.run_valid.new.devices) c.args.words.now (g.F.Files.told c.args.files.now) (g.F.Files.told c.run_valid.new.files) c.run_valid.result
    c.args.source.now c.args.script c.in-Whole.script (ap (λ s. script_result s) c.in-Whole.is) c.run_valid.ensures.told

pub returns-in-Bad-clause-told : goal.returns-in-Bad-clause-told
returns-in-Bad-clause-told g c =
    script_refused (g.D.Devices.shown c.args.devices.now) c.args.words.now (g.F.Files.told c.args.files.now) (g.F.Files.told c.args.files.now) refl c.bad_replies.result
    c.args.source.now c.args.script c.in-Bad.line c.in-Bad.is c.bad_replies.ensures.value

pub returns-in-Whole-clause-stops : goal.returns-in-Whole-clause-stops
returns-in-Whole-clause-stops g c =
    scripted_stops (g.D.Devices.shown c.args.devices.now) (g.D.Devices.shown c.run_valid.new.devices) c.args.words.now c.run_valid.result c.args.source.now c.args.script c.in-Whole.script (g.F.Files.told c.args.files.now) (g.F.Files.told c.run_valid.new.files) c.in-Whole.is c.run_valid.ensures.stops

pub returns-in-Bad-clause-stops : goal.returns-in-Bad-clause-stops
returns-in-Bad-clause-stops g c =
    not_reached (g.D.Devices.shown c.args.devices.now) c.args.words.now (λ stop old new. ScriptStops stop c.args.words.now c.args.source.now (script_result c.args.script) (g.D.Devices.shown c.args.devices.now) (g.D.Devices.shown c.args.devices.now) old new)
    (g.F.Files.told c.args.files.now) (g.F.Files.told c.args.files.now) refl c.bad_replies.result (no_read_fault c.bad_replies.result c.in-Bad.line c.bad_replies.ensures.value)

pub returns-in-Bad-clause-names : goal.returns-in-Bad-clause-names
returns-in-Bad-clause-names g c = λ name has. inl has

pub returns-in-Bad-clause-ended : goal.returns-in-Bad-clause-ended
returns-in-Bad-clause-ended g c =
    ended_for (λ o. ⊥) (λ o. Rose (g.F.Files.faults c.args.files.now) (g.F.Files.faults c.args.files.now)) c.bad_replies.result c.bad_replies.ensures.ended (λ o none. absurd none)
