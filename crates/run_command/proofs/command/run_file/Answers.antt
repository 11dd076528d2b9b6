use Rattle.causes.specs.Counts.{Rose}
use Rattle.commands.proofs.ReadFiles.{rose_since}
use Rattle.commands.proofs.Endings.{ended_for}
use Rattle.run_command.specs.Stops.{FileStops}
use Rattle.run_command.proofs.Stopping.{read_failed, file_stops}
use Rattle.run_command.proofs.Commands.{with_source, source_refused, source_fault}
use Rattle.run_session.specs.Created.{IsRunName}
use Rattle.run_session.proofs.Created.{creates_none, creates_then}
use Rattle.run_command.proofs.command.run_file.Goals as goal

pub returns-in-Value-clause-told : goal.returns-in-Value-clause-told
returns-in-Value-clause-told g c =
    with_source (g.D.Devices.shown c.args.devices.now) (g.D.Devices.shown c.run_source.new.devices) c.args.words.now (g.F.Files.told c.args.files.now) (g.F.Files.told c.run_source.new.files) c.run_source.result
    (g.F.Files.told c.read_input.new.files) c.as_str.result.now c.in_ok-input.input c.in-Value.bytes c.deref.result.now c.in_ok-input.ensures.files.same c.as_str.ensures.value c.in-Value.is c.deref.ensures.value c.in_ok-input.ensures.told
    c.run_source.ensures.told

pub returns-in-Refused-clause-told : goal.returns-in-Refused-clause-told
returns-in-Refused-clause-told g c =
    source_refused (g.D.Devices.shown c.args.devices.now) c.args.words.now (g.F.Files.told c.args.files.now) (g.F.Files.told c.read_input.new.files) c.in_ok-input.ensures.files.same c.in-Refused.refusal
    c.as_str.result.now c.in_ok-input.input c.as_str.ensures.value c.in-Refused.is c.in_ok-input.ensures.told

pub returns-in-Value-clause-stops : goal.returns-in-Value-clause-stops
returns-in-Value-clause-stops g c =
    file_stops (g.D.Devices.shown c.args.devices.now) (g.D.Devices.shown c.run_source.new.devices) c.args.words.now c.run_source.result c.as_str.result.now c.in_ok-input.input c.in-Value.bytes c.deref.result.now (g.F.Files.told c.args.files.now) (g.F.Files.told c.read_input.new.files) (g.F.Files.told c.run_source.new.files)
    c.in_ok-input.ensures.files.same c.as_str.ensures.value c.in-Value.is c.deref.ensures.value c.in_ok-input.ensures.told
    c.run_source.ensures.stops

pub returns-in-Refused-clause-stops : goal.returns-in-Refused-clause-stops
returns-in-Refused-clause-stops g c =
    read_failed (g.D.Devices.shown c.args.devices.now) c.args.words.now (λ stop old new. FileStops stop c.args.words.now (g.D.Devices.shown c.args.devices.now) (g.D.Devices.shown c.args.devices.now) old new)
    (g.F.Files.told c.args.files.now) (g.F.Files.told c.read_input.new.files) c.in_ok-input.ensures.files.same (g.F.Files.faults c.args.files.now) (g.F.Files.faults c.read_input.new.files) c.in-Refused.refusal
    (source_fault c.args.words.now (g.F.Files.faults c.args.files.now) (g.F.Files.faults c.read_input.new.files) c.as_str.result.now c.in_ok-input.input c.in-Refused.refusal c.in-Refused.is c.as_str.ensures.value c.in_ok-input.ensures.ended)

pub returns-in_err-input-clause-names : goal.returns-in_err-input-clause-names
returns-in_err-input-clause-names g c = creates_none (IsRunName c.args.words.now) (g.F.Files.created c.args.files.now) (g.F.Files.created c.read_input.new.files) c.read_input.ensures.files.names

pub returns-in-Refused-clause-names : goal.returns-in-Refused-clause-names
returns-in-Refused-clause-names g c = creates_none (IsRunName c.args.words.now) (g.F.Files.created c.args.files.now) (g.F.Files.created c.read_input.new.files) c.in_ok-input.ensures.files.names

pub returns-in-Value-clause-names : goal.returns-in-Value-clause-names
returns-in-Value-clause-names g c = creates_then (IsRunName c.args.words.now) (g.F.Files.created c.args.files.now) (g.F.Files.created c.read_input.new.files) (g.F.Files.created c.run_source.new.files) (creates_none (IsRunName c.args.words.now) (g.F.Files.created c.args.files.now) (g.F.Files.created c.read_input.new.files) c.in_ok-input.ensures.files.names) c.run_source.ensures.names

pub returns-in-Value-clause-ended : goal.returns-in-Value-clause-ended
returns-in-Value-clause-ended g c =
    let before = g.F.Files.faults c.args.files.now in
    let middle = g.F.Files.faults c.read_input.new.files in
    let after = g.F.Files.faults c.run_source.new.files in
    ended_for (λ o. Rose middle after) (λ o. Rose before after) c.run_source.result c.run_source.ensures.ended (λ o rose. rose_since before middle after c.in_ok-input.ensures.files.later rose)
