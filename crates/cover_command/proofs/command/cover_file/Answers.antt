use Rattle.causes.specs.Counts.{Rose}
use Rattle.commands.proofs.ReadFiles.{rose_since}
use Rattle.commands.proofs.Endings.{ended_for}
use Rattle.std.proofs.Common.{subst, ◌∙◌}
use Rattle.std.specs.Prelude.{IfOk}
use Rattle.commands.specs.Told.{UnlessFault, OnContents}
use Rattle.run_session.specs.Stop.{OnStop}
use Rattle.cover_command.specs.inner.Steps.{IsAnswered, SourceAnswer, SourceStops, StepStops}
use Rattle.cover_command.proofs.Commands.{with_source, source_stops, source_failed}
use Rattle.cover_command.proofs.command.cover_file.Goals as goal

pub returns-in-Value-clause-told : goal.returns-in-Value-clause-told
returns-in-Value-clause-told g c =
    let before = g.D.Devices.shown c.args.devices.now in
    let after = g.D.Devices.shown c.cover_source.new.devices in
    with_source before after c.args.words.now c.cover_source.result (g.F.Files.told c.args.files.now) (g.F.Files.told c.cover_source.new.files)
    c.as_str.result.now c.in_ok-input.input c.in-Value.bytes c.deref.result.now (c.cover_source.ensures.files.same ∙ c.in_ok-input.ensures.files.same) c.as_str.ensures.value c.in-Value.is c.deref.ensures.value c.in_ok-input.ensures.told
    (subst (λ t. IfOk c.cover_source.result (λ o. UnlessFault o.status (OnContents t (λ later. IsAnswered (SourceAnswer before after c.args.words.now later c.deref.result.now) before after o)))) c.in_ok-input.ensures.files.same c.cover_source.ensures.told)

pub returns-in-Value-clause-stops : goal.returns-in-Value-clause-stops
returns-in-Value-clause-stops g c =
    let before = g.D.Devices.shown c.args.devices.now in
    let after = g.D.Devices.shown c.cover_source.new.devices in
    let told' = g.F.Files.told c.cover_source.new.files in
    source_stops before after c.args.words.now c.cover_source.result (g.F.Files.told c.args.files.now) told'
    c.as_str.result.now c.in_ok-input.input c.in-Value.bytes c.deref.result.now c.as_str.ensures.value c.in-Value.is c.deref.ensures.value c.in_ok-input.ensures.told
    (subst (λ t. OnStop (StepStops before after c.args.words.now t told' (SourceStops before after c.args.words.now c.deref.result.now t)) c.cover_source.result) c.in_ok-input.ensures.files.same c.cover_source.ensures.stops)

pub returns-in-Refused-clause-stops : goal.returns-in-Refused-clause-stops
returns-in-Refused-clause-stops g c =
    source_failed (g.D.Devices.shown c.args.devices.now) c.args.words.now (g.F.Files.told c.args.files.now) (g.F.Files.told c.read_input.new.files) c.in_ok-input.ensures.files.same (g.F.Files.faults c.args.files.now) (g.F.Files.faults c.read_input.new.files)
    c.as_str.result.now c.in_ok-input.input c.in-Refused.refusal c.in-Refused.is c.as_str.ensures.value c.in_ok-input.ensures.ended

pub returns-in-Value-clause-ended : goal.returns-in-Value-clause-ended
returns-in-Value-clause-ended g c =
    let before = g.F.Files.faults c.args.files.now in
    let middle = g.F.Files.faults c.read_input.new.files in
    let after = g.F.Files.faults c.cover_source.new.files in
    ended_for (λ o. Rose middle after) (λ o. Rose before after) c.cover_source.result c.cover_source.ensures.ended (λ o rose. rose_since before middle after c.in_ok-input.ensures.files.later rose)
