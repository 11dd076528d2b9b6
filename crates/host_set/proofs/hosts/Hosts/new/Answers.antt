use Rattle.std.proofs.Common.{ap, ◌∙◌, List, ℕ}
use Rattle.wasm_syntax.specs.declared.host.Served.{Served}
use Rattle.host_set.specs.calls.Hosting.{log_named}
use Rattle.host_set.proofs.Logs.{fronts_first, log_of_named}
use Rattle.host_set.proofs.Calls.{first}
use Rattle.host_set.proofs.hosts.Hosts.new.Goals as goal

pub invariant_of-result : goal.invariant_of-result
invariant_of-result g c = rw c.new.ensures (first _ _ _ c.requires)

pub returns-clause-before : goal.returns-clause-before
returns-clause-before g c = rw c.new.ensures (fronts_first (g.S.Devices.shown c.args.devices))

pub returns-clause-logs : goal.returns-clause-logs
returns-clause-logs g c =
    rw c.new.ensures (λ name. ap (λ (k : List (List ℕ × List Served)). log_named k name) (fronts_first (g.S.Devices.shown c.args.devices)) ∙ log_of_named (g.S.Devices.shown c.args.devices) name)
