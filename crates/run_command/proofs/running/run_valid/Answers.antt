use Rattle.commands.proofs.Endings.{ended_both}
use Rattle.std.proofs.Common.{List, map, refl, ap, ◌∙◌, arith, subst, inl, Ok}
use Rattle.causes.specs.Counts.{Rose}
use Rattle.run_session.specs.calls.Sessions.{ends_badly}
use Rattle.wasm_syntax.specs.declared.module.ModuleParts.{ModuleParts as Module}
use Rattle.wasm_syntax.specs.declared.host.CollectorCall.{CollectorCall}
use Rattle.wasm_syntax.specs.Module.{IsModule}
use Rattle.host_set.specs.calls.Hosting.{serves}
use Rattle.run_session.specs.Delivery.{Delivery, IsDelivery}
use Rattle.run_session.proofs.Deliveries.{delivery}
use Rattle.run_session.specs.calls.Collecting.{serving_of}
use Rattle.run_session.specs.Invocations.{invocation_of}
use Rattle.run_command.specs.calls.Begun.{HasBegun}
use Rattle.commands.specs.declared.given.Given.TheVariants as givens
use Rattle.run_command.proofs.Hostings.{began_behind}
use Rattle.run_command.proofs.Beginning.{begun_begin, of_begun}
use Rattle.run_command.specs.inner.Recording.{fitting}
use Rattle.run_command.proofs.Valid.{ready_told, refused_back, fault_since}
use Rattle.run_command.proofs.Fitting.{recorded_fault}
use Rattle.run_command.proofs.Stopping.{ready_stops}
use Rattle.run_session.proofs.Created.{creates_run}
use Rattle.run_command.proofs.running.run_valid.Goals as goal

abbrev deliver : List CollectorCall → Delivery
deliver calls = (delivery calls).0

delivers : IsDelivery deliver
delivers calls = (delivery calls).1

pub run_all-ran-requires-clause-entries : goal.run_all-ran-requires-clause-entries
run_all-ran-requires-clause-entries g c =
    begun_begin (serving_of c.args.words.now.collect (λ i type. serves c.begin_with-begun.result.1 i)) c.args.source.now c.args.words.now.invocations c.in-Value.instance
    (of_begun c.begin_with-begun.result.0 c.in-Ok.begun (givens.Value c.in-Value.instance) (HasBegun (serving_of c.args.words.now.collect (λ i type. serves c.begin_with-begun.result.1 i)) c.args.source.now (map invocation_of c.args.words.now.invocations)) c.in-Ok.is c.in-Value.is c.begin_with-begun.ensures.begun)

pub returns-in-Value-clause-told : goal.returns-in-Value-clause-told
returns-in-Value-clause-told g c =
    ready_told deliver delivers (Rose (g.F.Files.faults c.run_all-ran.new.files) (g.F.Files.faults c.recorded-outcome.new.files)) c.run_all-ran.result.0 c.recorded-outcome.result (g.D.Devices.shown c.args.devices.now) (g.D.Devices.shown c.into_devices-in-Value.result) c.args.script c.args.words.now c.args.source.now c.in-Value.instance
    (ends_badly c.run_all-ran.new.instance.last) c.begin_with-begun.result.1 c.run_all-ran.result.1
    (g.F.Files.told c.args.files.now) (g.F.Files.told c.run_all-ran.new.files) (g.F.Files.told c.recorded-outcome.new.files)
    (subst IsModule (c.parts.ensures.value ∙ c.module.ensures.value) c.parts.ensures.whole) c.module.ensures.valid
    (of_begun c.begin_with-begun.result.0 c.in-Ok.begun (givens.Value c.in-Value.instance) (HasBegun (serving_of c.args.words.now.collect (λ i type. serves c.begin_with-begun.result.1 i)) c.args.source.now (map invocation_of c.args.words.now.invocations)) c.in-Ok.is c.in-Value.is c.begin_with-begun.ensures.begun)
    (began_behind c.args.source.now.imports c.as_slice-imports.result.now (g.D.Devices.shown c.args.devices.now) (g.D.Devices.shown c.replace-set.result) c.args.script c.new-hosts.result c.begin_with-begun.result.1 c.begin_with-begun.ensures.same c.new-hosts.ensures.state c.new-hosts.ensures.logs
    (c.as_slice-imports.ensures ∙ ap (λ (m : Module). m.imports) (c.parts.ensures.value ∙ c.module.ensures.value)) (ap (λ d. g.D.Devices.shown d) c.replace-set.ensures.value))
    c.run_all-ran.ensures.origin
    (record { devices = c.into_devices-in-Value.ensures.devices; logged = c.into_devices-in-Value.ensures.logged; modules = c.into_devices-in-Value.ensures.modules; scripted = c.into_devices-in-Value.ensures.scripted })
    (c.run_all-ran.ensures.ran deliver delivers) c.recorded-outcome.ensures.records

pub returns-in-Value-clause-stops : goal.returns-in-Value-clause-stops
returns-in-Value-clause-stops g c =
    ready_stops (g.D.Devices.shown c.args.devices.now) (g.D.Devices.shown c.into_devices-in-Value.result) c.args.words.now c.recorded-outcome.result deliver delivers (Rose (g.F.Files.faults c.run_all-ran.new.files) (g.F.Files.faults c.recorded-outcome.new.files)) c.run_all-ran.result.0 c.args.script c.args.source.now c.in-Value.instance
    (ends_badly c.run_all-ran.new.instance.last) c.begin_with-begun.result.1 c.run_all-ran.result.1
    (g.F.Files.told c.args.files.now) (g.F.Files.told c.run_all-ran.new.files) (g.F.Files.told c.recorded-outcome.new.files)
    (subst IsModule (c.parts.ensures.value ∙ c.module.ensures.value) c.parts.ensures.whole) c.module.ensures.valid
    (of_begun c.begin_with-begun.result.0 c.in-Ok.begun (givens.Value c.in-Value.instance) (HasBegun (serving_of c.args.words.now.collect (λ i type. serves c.begin_with-begun.result.1 i)) c.args.source.now (map invocation_of c.args.words.now.invocations)) c.in-Ok.is c.in-Value.is c.begin_with-begun.ensures.begun)
    (began_behind c.args.source.now.imports c.as_slice-imports.result.now (g.D.Devices.shown c.args.devices.now) (g.D.Devices.shown c.replace-set.result) c.args.script c.new-hosts.result c.begin_with-begun.result.1 c.begin_with-begun.ensures.same c.new-hosts.ensures.state c.new-hosts.ensures.logs
    (c.as_slice-imports.ensures ∙ ap (λ (m : Module). m.imports) (c.parts.ensures.value ∙ c.module.ensures.value)) (ap (λ d. g.D.Devices.shown d) c.replace-set.ensures.value))
    c.run_all-ran.ensures.origin
    (record { devices = c.into_devices-in-Value.ensures.devices; logged = c.into_devices-in-Value.ensures.logged; modules = c.into_devices-in-Value.ensures.modules; scripted = c.into_devices-in-Value.ensures.scripted })
    (c.run_all-ran.ensures.ran deliver delivers) c.run_all-ran.ensures.memory (c.run_all-ran.ensures.stops deliver delivers) c.recorded-outcome.ensures.records

pub returns-in-Value-clause-ended : goal.returns-in-Value-clause-ended
returns-in-Value-clause-ended g c =
    ended_both (λ o. Rose (g.F.Files.faults c.args.files.now) (g.F.Files.faults c.recorded-outcome.new.files)) c.recorded-outcome.result
    (recorded_fault c.args.words.now.log_to (fitting (ends_badly c.run_all-ran.new.instance.last) c.run_all-ran.result.1.served) (Rose (g.F.Files.faults c.run_all-ran.new.files) (g.F.Files.faults c.recorded-outcome.new.files)) (g.F.Files.told c.run_all-ran.new.files) (g.F.Files.told c.recorded-outcome.new.files)
    (Rose (g.F.Files.faults c.args.files.now) (g.F.Files.faults c.recorded-outcome.new.files)) c.run_all-ran.result.0 c.recorded-outcome.result
    (λ rose. omega (arith, rose, c.run_all-ran.ensures.files.later))
    (fault_since c.args.words.now.dump c.run_all-ran.result.0 (g.F.Files.faults c.args.files.now) (g.F.Files.faults c.run_all-ran.new.files) (g.F.Files.faults c.recorded-outcome.new.files) c.recorded-outcome.ensures.files.later c.run_all-ran.ensures.fault)
    c.recorded-outcome.ensures.records)
    (c.recorded-outcome.ensures.memory c.run_all-ran.ensures.memory)

pub returns-in-Refused-clause-told : goal.returns-in-Refused-clause-told
returns-in-Refused-clause-told g c =
    refused_back (Ok c.in-Refused.refusal) (g.D.Devices.shown c.args.devices.now) (g.D.Devices.shown c.into_devices-in-Refused.result) c.args.script c.args.words.now c.args.source.now c.begin_with-begun.result.1 (g.F.Files.told c.args.files.now) c.in-Refused.refusal
    c.module.ensures.valid
    (began_behind c.args.source.now.imports c.as_slice-imports.result.now (g.D.Devices.shown c.args.devices.now) (g.D.Devices.shown c.replace-set.result) c.args.script c.new-hosts.result c.begin_with-begun.result.1 c.begin_with-begun.ensures.same c.new-hosts.ensures.state c.new-hosts.ensures.logs
    (c.as_slice-imports.ensures ∙ ap (λ (m : Module). m.imports) (c.parts.ensures.value ∙ c.module.ensures.value)) (ap (λ d. g.D.Devices.shown d) c.replace-set.ensures.value))
    c.into_devices-in-Refused.ensures.devices
    (of_begun c.begin_with-begun.result.0 c.in-Ok.begun (givens.Refused c.in-Refused.refusal) (HasBegun (serving_of c.args.words.now.collect (λ i type. serves c.begin_with-begun.result.1 i)) c.args.source.now (map invocation_of c.args.words.now.invocations)) c.in-Ok.is c.in-Refused.is c.begin_with-begun.ensures.begun) refl

pub returns-in_default-clause-names : goal.returns-in_default-clause-names
returns-in_default-clause-names g c = λ name has. inl has

pub returns-in-Refused-clause-names : goal.returns-in-Refused-clause-names
returns-in-Refused-clause-names g c = λ name has. inl has

pub returns-in-Value-clause-names : goal.returns-in-Value-clause-names
returns-in-Value-clause-names g c = creates_run c.args.words.now (g.F.Files.created c.args.files.now) (g.F.Files.created c.run_all-ran.new.files) (g.F.Files.created c.recorded-outcome.new.files) c.run_all-ran.ensures.names c.recorded-outcome.ensures.names
