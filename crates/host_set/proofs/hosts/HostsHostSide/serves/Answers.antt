use Rattle.host_set.specs.calls.Hosting.{seen}
use Rattle.host_set.proofs.Calls.{serves_named, serves_script}
use Rattle.host_set.proofs.hosts.HostsHostSide.serves.Goals as goal

pub returns-in-Some : goal.returns-in-Some
returns-in-Some g c = rw (← c.self.view_is) (serves_named (seen c.self.inside.imports.now (g.S.Devices.shown c.self.inside.devices) c.self.inside.script c.self.inside.given c.self.inside.entries) c.args.import.now _ (rw c.as_str.ensures.value at c.in-Some.ensures))

pub returns-in-None : goal.returns-in-None
returns-in-None g c = rw (← c.self.view_is) (serves_script (seen c.self.inside.imports.now (g.S.Devices.shown c.self.inside.devices) c.self.inside.script c.self.inside.given c.self.inside.entries) c.args.import.now _ (rw c.as_str.ensures.value at c.in-None.ensures) c.is_some.ensures)
