use Rattle.commands.proofs.ReadFiles.{rose_since}
use Rattle.commands.proofs.Endings.{ended_for}
use Rattle.causes.specs.Counts.{Rose}
use Rattle.instrument_command.proofs.Answering.{with_bytes, unread}
use Rattle.instrument_command.proofs.Stopping.{file_stop, unread_stop}
use Rattle.instrument_command.proofs.command.instrument_file.Goals as goal

pub returns-in-Value-clause-told : goal.returns-in-Value-clause-told
returns-in-Value-clause-told g c =
    with_bytes c.args.source.now c.args.out.now (g.F.Files.told c.args.files.now) (g.F.Files.told c.read_input.new.files) (g.F.Files.told c.instrument_bytes.new.files) c.in_ok-input.ensures.files.same c.in_ok-input.input c.in_ok-input.ensures.told
    c.in-Value.bytes c.deref.result.now c.instrument_bytes.result c.in-Value.is c.deref.ensures.value c.instrument_bytes.ensures.told

pub returns-in-Refused-clause-told : goal.returns-in-Refused-clause-told
returns-in-Refused-clause-told g c =
    unread c.args.source.now c.args.out.now (g.F.Files.told c.args.files.now) (g.F.Files.told c.read_input.new.files) (g.F.Files.told c.read_input.new.files) c.in_ok-input.ensures.files.same c.in_ok-input.input c.in_ok-input.ensures.told
    c.in-Refused.refusal c.in-Refused.is

pub returns-in-Value-clause-stops : goal.returns-in-Value-clause-stops
returns-in-Value-clause-stops g c =
    file_stop c.args.source.now c.args.out.now (g.F.Files.told c.args.files.now) (g.F.Files.told c.read_input.new.files) (g.F.Files.told c.instrument_bytes.new.files) c.in_ok-input.input c.in-Value.bytes c.deref.result.now c.instrument_bytes.result
    c.in_ok-input.ensures.files.same c.in_ok-input.ensures.told c.in-Value.is c.deref.ensures.value c.instrument_bytes.ensures.stops

pub returns-in-Refused-clause-stops : goal.returns-in-Refused-clause-stops
returns-in-Refused-clause-stops g c =
    unread_stop c.args.source.now c.args.out.now (g.F.Files.told c.args.files.now) (g.F.Files.told c.read_input.new.files) c.in_ok-input.input c.in-Refused.refusal (Rose (g.F.Files.faults c.args.files.now) (g.F.Files.faults c.read_input.new.files))
    c.in_ok-input.ensures.files.same c.in-Refused.is c.in_ok-input.ensures.ended

pub returns-in-Value-clause-ended : goal.returns-in-Value-clause-ended
returns-in-Value-clause-ended g c =
    let before = g.F.Files.faults c.args.files.now in
    let middle = g.F.Files.faults c.read_input.new.files in
    let after = g.F.Files.faults c.instrument_bytes.new.files in
    ended_for (λ o. Rose middle after) (λ o. Rose before after) c.instrument_bytes.result c.instrument_bytes.ensures.ended (λ o rose. rose_since before middle after c.in_ok-input.ensures.files.later rose)
