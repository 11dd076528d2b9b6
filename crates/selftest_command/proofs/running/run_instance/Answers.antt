use Rattle.std.proofs.Common.{sym, ap, subst, ◌∙◌}
use Rattle.wasm_syntax.specs.declared.module.ModuleParts.{ModuleParts as Module}
use Rattle.wasm_syntax.specs.Module.{IsModule}
use Rattle.host_set.specs.calls.Hosting.{HostsState}
use Rattle.selftest_command.proofs.Runs.{knows_all, none_named, no_script, ran_line, refused_line}
use Rattle.selftest_command.proofs.running.run_instance.Goals as goal

pub invoke-answer-requires-clause-knows : goal.invoke-answer-requires-clause-knows
invoke-answer-requires-clause-knows g c =
    knows_all c.args.source.now c.args.instance.now c.new-collecting.result c.new-hosts.result c.as_slice-imports.result.now c.requires.new c.new-collecting.ensures (ap (λ (h : HostsState). h.imports) c.new-hosts.ensures.state)
    (c.as_slice-imports.ensures ∙ ap (λ (m : Module). m.imports) (c.parts.ensures.value ∙ c.module.ensures.value))

pub drop_hosts-requires-clause-devices : goal.drop_hosts-requires-clause-devices
drop_hosts-requires-clause-devices g c =
    none_named c.new-collecting.result c.invoke-answer.new.hosts c.into_inner.result c.new-hosts.result (g.D.Devices.shown c.empty.result) c.into_inner.ensures c.invoke-answer.ensures.host.origin_is c.new-collecting.ensures (ap (λ (h : HostsState). h.devices) c.new-hosts.ensures.state) c.empty.ensures

pub drop_hosts-requires-clause-script : goal.drop_hosts-requires-clause-script
drop_hosts-requires-clause-script g c =
    no_script c.new-collecting.result c.invoke-answer.new.hosts c.into_inner.result c.new-hosts.result c.into_inner.ensures c.invoke-answer.ensures.host.origin_is c.new-collecting.ensures (ap (λ (h : HostsState). h.script) c.new-hosts.ensures.state)

pub returns-in-Ok : goal.returns-in-Ok
returns-in-Ok g c =
    let came = c.in-Ok.ensures.came in
    ran_line c.args.count came.0 c.args.own.now c.args.source.now (subst IsModule (c.parts.ensures.value ∙ c.module.ensures.value) c.parts.ensures.whole) c.args.instance.now c.invoke-answer.new.self c.new-hosts.result c.new-collecting.result c.invoke-answer.new.hosts c.calls.result.now c.in-Ok.end _ c.ended-outcome.result
    c.requires.new c.requires.collected c.requires.segments c.new-collecting.ensures (ap (λ (h : HostsState). h.devices) c.new-hosts.ensures.state ∙ c.empty.ensures) (ap (λ (h : HostsState). h.script) c.new-hosts.ensures.state)
    c.in-Ok.ensures.refused came.1 came.2 (ap (λ (h : HostsState). h.served) (sym c.into_inner.ensures) ∙ c.drop_hosts.ensures) c.calls.ensures c.ended-outcome.ensures

pub returns-in-Err : goal.returns-in-Err
returns-in-Err g c =
    refused_line c.args.count c.args.own.now c.args.source.now (subst IsModule (c.parts.ensures.value ∙ c.module.ensures.value) c.parts.ensures.whole) c.args.instance.now c.new-hosts.result c.new-collecting.result _ c.nothing_run.result
    c.requires.new c.requires.collected c.new-collecting.ensures (ap (λ (h : HostsState). h.devices) c.new-hosts.ensures.state ∙ c.empty.ensures) (ap (λ (h : HostsState). h.script) c.new-hosts.ensures.state)
    c.in-Err.ensures.refused c.nothing_run.ensures
