use Rattle.std.proofs.Common.{sym, subst}
use Rattle.machine_hosted.specs.calls.Settings.{Takes, ServesAll}
use Rattle.wasm_machine.specs.calls.Instances.{State}
use Rattle.machine_hosted.proofs.HostLaws.{kept_same}
use Rattle.wasm_machine.proofs.EntryLaws.{without_fault}
use Rattle.wasm_machine.proofs.instance.Instance.invoke_watched.Goals as goal

pub call-requires-clause-takes : goal.call-requires-clause-takes
call-requires-clause-takes g c =
    let k = without_fault (g.H.HostSide.serving c.args.hosts.now) c.self.inside.source.now c.args.entry.now c.args.args.now c.in-Ok.function c.in-Ok.ensures.callee (sym c.in-Ok.ensures.fault) in
    subst (λ (s : State). Takes s.module_ c.in-Ok.function c.args.args.now) c.self.view_is k.0

pub call-requires-clause-host : goal.call-requires-clause-host
call-requires-clause-host g c =
    let k = without_fault (g.H.HostSide.serving c.args.hosts.now) c.self.inside.source.now c.args.entry.now c.args.args.now c.in-Ok.function c.in-Ok.ensures.callee (sym c.in-Ok.ensures.fault) in
    record { knows = c.requires.knows; serves = subst (λ (s : State). ServesAll (g.H.HostSide.serving c.args.hosts.now) s.module_) c.self.view_is k.1 }

pub returns-in-Err-clause-host : goal.returns-in-Err-clause-host
returns-in-Err-clause-host g c = kept_same g.H.HostSide.origin g.H.HostSide.collecting g.H.HostSide.serving g.H.HostSide.fault_count c.args.hosts.now
