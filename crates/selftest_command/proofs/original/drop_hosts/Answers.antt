use Rattle.selftest_command.proofs.Runs.{none_served}
use Rattle.selftest_command.proofs.original.drop_hosts.Goals as goal

pub returns : goal.returns
returns g c = none_served c.args.hosts c.requires.devices c.requires.script c.into_devices-devices.ensures.scripted
