use Rattle.causes.specs.Counts.{Rose}
use Rattle.commands.proofs.ReadFiles.{rose_since}
use Rattle.commands.proofs.Endings.{ended_for}
use Rattle.std.proofs.Common.{subst}
use Rattle.run_command.specs.Stops.{SourceStops}
use Rattle.commands.specs.calls.Given.{IfRefused}
use Rattle.run_command.specs.calls.Scripts.{IsRepliesFault}
use Rattle.run_command.proofs.Stopping.{read_failed, source_stops}
use Rattle.run_command.proofs.Commands.{with_replies, replies_refused, replies_fault}
use Rattle.run_session.specs.Created.{IsRunName}
use Rattle.run_session.proofs.Created.{creates_none, creates_then}
use Rattle.run_command.proofs.command.run_source.Goals as goal

pub returns-in-Value-clause-told : goal.returns-in-Value-clause-told
returns-in-Value-clause-told g c =
    with_replies (g.D.Devices.shown c.args.devices.now) (g.D.Devices.shown c.run_bytes.new.devices) c.args.words.now (g.F.Files.told c.args.files.now) (g.F.Files.told c.run_bytes.new.files) c.run_bytes.result
    (g.F.Files.told c.asked_script.new.files) c.args.bytes.now c.in_ok-asked.asked c.in-Value.script c.in_ok-asked.ensures.files.same c.in-Value.is c.in_ok-asked.ensures.told c.run_bytes.ensures.told

pub returns-in-Refused-clause-told : goal.returns-in-Refused-clause-told
returns-in-Refused-clause-told g c =
    replies_refused (g.D.Devices.shown c.args.devices.now) c.args.words.now (g.F.Files.told c.args.files.now) (g.F.Files.told c.asked_script.new.files) c.in_ok-asked.ensures.files.same c.in-Refused.refusal
    c.args.bytes.now c.in_ok-asked.asked c.in-Refused.is c.in_ok-asked.ensures.told

pub returns-in-Value-clause-stops : goal.returns-in-Value-clause-stops
returns-in-Value-clause-stops g c =
    source_stops (g.D.Devices.shown c.args.devices.now) (g.D.Devices.shown c.run_bytes.new.devices) c.args.words.now c.run_bytes.result c.args.bytes.now c.in_ok-asked.asked c.in-Value.script (g.F.Files.told c.args.files.now) (g.F.Files.told c.asked_script.new.files) (g.F.Files.told c.run_bytes.new.files)
    c.in_ok-asked.ensures.files.same c.in-Value.is c.in_ok-asked.ensures.told c.run_bytes.ensures.stops

pub returns-in-Refused-clause-stops : goal.returns-in-Refused-clause-stops
returns-in-Refused-clause-stops g c =
    read_failed (g.D.Devices.shown c.args.devices.now) c.args.words.now (λ stop old new. SourceStops stop c.args.words.now c.args.bytes.now (g.D.Devices.shown c.args.devices.now) (g.D.Devices.shown c.args.devices.now) old new)
    (g.F.Files.told c.args.files.now) (g.F.Files.told c.asked_script.new.files) c.in_ok-asked.ensures.files.same (g.F.Files.faults c.args.files.now) (g.F.Files.faults c.asked_script.new.files) c.in-Refused.refusal
    (replies_fault c.args.words.now (g.F.Files.faults c.args.files.now) (g.F.Files.faults c.asked_script.new.files) c.in-Refused.refusal
    (subst (λ a. IfRefused (IsRepliesFault c.args.words.now.replies (g.F.Files.faults c.args.files.now) (g.F.Files.faults c.asked_script.new.files)) a) c.in-Refused.is c.in_ok-asked.ensures.fault))

pub returns-in_err-asked-clause-names : goal.returns-in_err-asked-clause-names
returns-in_err-asked-clause-names g c = creates_none (IsRunName c.args.words.now) (g.F.Files.created c.args.files.now) (g.F.Files.created c.asked_script.new.files) c.asked_script.ensures.files.names

pub returns-in-Refused-clause-names : goal.returns-in-Refused-clause-names
returns-in-Refused-clause-names g c = creates_none (IsRunName c.args.words.now) (g.F.Files.created c.args.files.now) (g.F.Files.created c.asked_script.new.files) c.in_ok-asked.ensures.files.names

pub returns-in-Value-clause-names : goal.returns-in-Value-clause-names
returns-in-Value-clause-names g c = creates_then (IsRunName c.args.words.now) (g.F.Files.created c.args.files.now) (g.F.Files.created c.asked_script.new.files) (g.F.Files.created c.run_bytes.new.files) (creates_none (IsRunName c.args.words.now) (g.F.Files.created c.args.files.now) (g.F.Files.created c.asked_script.new.files) c.in_ok-asked.ensures.files.names) c.run_bytes.ensures.names

pub returns-in-Value-clause-ended : goal.returns-in-Value-clause-ended
returns-in-Value-clause-ended g c =
    let before = g.F.Files.faults c.args.files.now in
    let middle = g.F.Files.faults c.asked_script.new.files in
    let after = g.F.Files.faults c.run_bytes.new.files in
    ended_for (λ o. Rose middle after) (λ o. Rose before after) c.run_bytes.result c.run_bytes.ensures.ended (λ o rose. rose_since before middle after c.in_ok-asked.ensures.files.later rose)
