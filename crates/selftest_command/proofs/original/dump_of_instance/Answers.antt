use Rattle.std.proofs.Common.{ap, subst, ◌∙◌}
use Rattle.wasm_syntax.specs.declared.module.ModuleParts.{ModuleParts as Module}
use Rattle.wasm_syntax.specs.Module.{IsModule}
use Rattle.host_set.specs.calls.Hosting.{HostsState}
use Rattle.selftest_command.proofs.Alone.{knows_alone, none_named_alone, no_script_alone, ran_alone, refused_alone}
use Rattle.selftest_command.proofs.original.dump_of_instance.Goals as goal

pub invoke-answer-requires-clause-knows : goal.invoke-answer-requires-clause-knows
invoke-answer-requires-clause-knows g c =
    knows_alone c.args.source.now c.args.instance.now c.new-hosts.result c.as_slice-imports.result.now c.requires.new (ap (λ (h : HostsState). h.imports) c.new-hosts.ensures.state)
    (c.as_slice-imports.ensures ∙ ap (λ (m : Module). m.imports) (c.parts.ensures.value ∙ c.module.ensures.value))

pub drop_hosts-requires-clause-devices : goal.drop_hosts-requires-clause-devices
drop_hosts-requires-clause-devices g c =
    none_named_alone c.new-hosts.result c.invoke-answer.new.hosts (g.D.Devices.shown c.empty.result) c.invoke-answer.ensures.host.origin_is (ap (λ (h : HostsState). h.devices) c.new-hosts.ensures.state) c.empty.ensures

pub drop_hosts-requires-clause-script : goal.drop_hosts-requires-clause-script
drop_hosts-requires-clause-script g c = no_script_alone c.new-hosts.result c.invoke-answer.new.hosts c.invoke-answer.ensures.host.origin_is (ap (λ (h : HostsState). h.script) c.new-hosts.ensures.state)

pub returns-in-Ok : goal.returns-in-Ok
returns-in-Ok g c =
    let came = c.in-Ok.ensures.came in
    ran_alone c.args.count came.0 c.args.source.now (subst IsModule (c.parts.ensures.value ∙ c.module.ensures.value) c.parts.ensures.whole) c.args.instance.now c.invoke-answer.new.self c.new-hosts.result c.invoke-answer.new.hosts c.in-Ok.end _ c.dump_behind-dump.result
    c.requires.new c.requires.imports c.requires.segments c.invoke-answer.ensures.module_ c.invoke-answer.ensures.prepared c.in-Ok.ensures.refused came.1 came.2 c.drop_hosts.ensures
    c.dump_behind-dump.ensures.memory c.dump_behind-dump.ensures.dump

pub returns-in-Err : goal.returns-in-Err
returns-in-Err g c =
    refused_alone c.args.count c.args.source.now (subst IsModule (c.parts.ensures.value ∙ c.module.ensures.value) c.parts.ensures.whole) c.args.instance.now c.new-hosts.result _ _
    c.requires.new c.requires.imports c.in-Err.ensures.refused
