use Rattle.std.proofs.Common.{drop}
use Rattle.host_set.proofs.Served.{given_so_far}
use Rattle.host_set.proofs.script_hosts.ScriptHosts.next.Goals as goal

pub returns-clause-given : goal.returns-clause-given
returns-clause-given c = given_so_far c.args.self.now.calls (drop c.args.self.now.first c.args.self.now.replies)
