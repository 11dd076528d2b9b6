use Rattle.std.proofs.Common.{[], map, refl, ap, ◌∙◌, subst, inr}
use Rattle.std.specs.Prelude.{IfOk}
use Rattle.wasm_syntax.specs.declared.module.ModuleParts.{ModuleParts as Module}
use Rattle.wasm_syntax.specs.Module.{IsModule}
use Rattle.host_set.specs.calls.Hosting.{serves}
use Rattle.run_session.specs.Invocations.{invocation_of}
use Rattle.run_command.specs.calls.Begun.{HasBegun}
use Rattle.commands.specs.declared.given.Given.TheVariants as givens
use Rattle.run_command.proofs.Hostings.{began_behind}
use Rattle.run_command.proofs.Beginning.{of_begun}
use Rattle.debug_frames.specs.Information.{information}
use Rattle.cover_command.specs.CoverAnswer.{ModuleAnswer, called}
use Rattle.cover_command.specs.inner.Running.{AnswersEnd}
use Rattle.cover_command.specs.inner.Steps.{IsAnswered}
use Rattle.cover_command.proofs.Invoked.{ready_told, ready_stops, refused_told, in_result}
use Rattle.cover_command.proofs.Commands.{on_err}
use Rattle.cover_command.proofs.covering.cover_counted.Goals as goal

pub returns-in-Value-clause-told : goal.returns-in-Value-clause-told
returns-in-Value-clause-told g c =
    let before = g.D.Devices.shown c.args.devices.now in
    let after = g.D.Devices.shown c.into_devices-in-Value.result in
    let w = c.args.words.now in
    let m = c.args.source.now in
    let h0 = c.new-hosts.result in
    in_result (AnswersEnd (information c.args.bytes.now m.customs) m c.invoke-end.new.tally c.given.result c.invoke-end.result) (IsAnswered (λ given. ModuleAnswer before after w given c.args.script c.args.bytes.now m) before after)
    (λ o x.
    ready_told before after c.args.script w m c.in-Value.instance c.invoke-end.new.instance h0 c.invoke-end.new.hosts c.invoke-end.result c.args.tally.now c.invoke-end.new.tally
    (subst IsModule (c.parts-parts.ensures.value ∙ c.module.ensures.value) c.parts-parts.ensures.whole) c.module.ensures.valid
    (of_begun c.begin-begun.result c.in-Ok.begun (givens.Value c.in-Value.instance) (HasBegun (λ i type. serves h0 i) m (called w)) c.in-Ok.is c.in-Value.is
    (subst (λ l. IfOk c.begin-begun.result (HasBegun (λ i type. serves h0 i) m (map invocation_of l))) c.from_ref.ensures.value c.begin-begun.ensures))
    (began_behind m.imports c.as_slice.result.now before (g.D.Devices.shown c.replace-set.result) c.args.script h0 h0 refl c.new-hosts.ensures.state c.new-hosts.ensures.logs
    (c.as_slice.ensures ∙ ap (λ (k : Module). k.imports) (c.parts-parts.ensures.value ∙ c.module.ensures.value)) (ap (λ d. g.D.Devices.shown d) c.replace-set.ensures.value))
    c.invoke-end.ensures.origin
    (record { devices = c.into_devices-in-Value.ensures.devices; logged = c.into_devices-in-Value.ensures.logged; modules = c.into_devices-in-Value.ensures.modules; scripted = c.into_devices-in-Value.ensures.scripted })
    c.invoke-end.ensures.came c.args.bytes.now c.invoke-end.ensures.cause
    c.requires.counted
    c.invoke-end.ensures.fuel o c.given.result c.given.ensures x)
    c.answer_to-outcome.result c.answer_to-outcome.ensures

pub returns-in-Value-clause-stops : goal.returns-in-Value-clause-stops
returns-in-Value-clause-stops g c =
    let before = g.D.Devices.shown c.args.devices.now in
    let after = g.D.Devices.shown c.into_devices-in-Value.result in
    let w = c.args.words.now in
    let m = c.args.source.now in
    let h0 = c.new-hosts.result in
    on_err c.answer_to-outcome.result _ (inr (
    ready_stops before after c.args.script w m c.in-Value.instance c.invoke-end.new.instance h0 c.invoke-end.new.hosts c.invoke-end.result c.args.tally.now c.invoke-end.new.tally
    (subst IsModule (c.parts-parts.ensures.value ∙ c.module.ensures.value) c.parts-parts.ensures.whole) c.module.ensures.valid
    (of_begun c.begin-begun.result c.in-Ok.begun (givens.Value c.in-Value.instance) (HasBegun (λ i type. serves h0 i) m (called w)) c.in-Ok.is c.in-Value.is
    (subst (λ l. IfOk c.begin-begun.result (HasBegun (λ i type. serves h0 i) m (map invocation_of l))) c.from_ref.ensures.value c.begin-begun.ensures))
    (began_behind m.imports c.as_slice.result.now before (g.D.Devices.shown c.replace-set.result) c.args.script h0 h0 refl c.new-hosts.ensures.state c.new-hosts.ensures.logs
    (c.as_slice.ensures ∙ ap (λ (k : Module). k.imports) (c.parts-parts.ensures.value ∙ c.module.ensures.value)) (ap (λ d. g.D.Devices.shown d) c.replace-set.ensures.value))
    c.invoke-end.ensures.origin
    (record { devices = c.into_devices-in-Value.ensures.devices; logged = c.into_devices-in-Value.ensures.logged; modules = c.into_devices-in-Value.ensures.modules; scripted = c.into_devices-in-Value.ensures.scripted })
    c.invoke-end.ensures.came))

pub returns-in-Refused-clause-told : goal.returns-in-Refused-clause-told
returns-in-Refused-clause-told g c =
    let before = g.D.Devices.shown c.args.devices.now in
    let w = c.args.words.now in
    let m = c.args.source.now in
    let h0 = c.new-hosts.result in
    refused_told before (g.D.Devices.shown c.into_devices-in-Refused.result) c.args.script w c.args.bytes.now m h0 c.in-Refused.refusal c.module.ensures.valid
    (began_behind m.imports c.as_slice.result.now before (g.D.Devices.shown c.replace-set.result) c.args.script h0 h0 refl c.new-hosts.ensures.state c.new-hosts.ensures.logs
    (c.as_slice.ensures ∙ ap (λ (k : Module). k.imports) (c.parts-parts.ensures.value ∙ c.module.ensures.value)) (ap (λ d. g.D.Devices.shown d) c.replace-set.ensures.value))
    c.into_devices-in-Refused.ensures.devices
    (of_begun c.begin-begun.result c.in-Ok.begun (givens.Refused c.in-Refused.refusal) (HasBegun (λ i type. serves h0 i) m (called w)) c.in-Ok.is c.in-Refused.is
    (subst (λ l. IfOk c.begin-begun.result (HasBegun (λ i type. serves h0 i) m (map invocation_of l))) c.from_ref.ensures.value c.begin-begun.ensures))
