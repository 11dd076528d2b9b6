use Rattle.std.proofs.Common.{ap}
use Rattle.host_set.specs.calls.Hosting.{HostsState, replies_of}
use Rattle.host_set.proofs.Logs.{log_ends, by_imports}
use Rattle.host_set.proofs.hosts.Hosts.into_devices.Goals as goal

pub returns-clause-devices : goal.returns-clause-devices
returns-clause-devices g c = ap (λ (h : HostsState). h.devices) c.self.view_is

pub returns-clause-distinct : goal.returns-clause-distinct
returns-clause-distinct g c = rw (← c.self.view_is) c.self.invariant.distinct

pub returns-clause-logged : goal.returns-clause-logged
returns-clause-logged g c = rw (← c.self.view_is) (λ name. log_ends (g.S.Devices.shown c.self.inside.devices) _ name c.self.invariant.logged)

pub returns-clause-modules : goal.returns-clause-modules
returns-clause-modules g c = rw (← c.self.view_is) (by_imports c.self.inside.imports.now (g.S.Devices.shown c.self.inside.devices) (replies_of c.self.inside.script) c.self.inside.entries)

pub returns-clause-scripted : goal.returns-clause-scripted
returns-clause-scripted g c = rw (← c.self.view_is) c.self.invariant.scripted

pub returns-clause-given : goal.returns-clause-given
returns-clause-given g c = rw (← c.self.view_is) c.self.invariant.within
