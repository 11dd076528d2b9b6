use Rattle.std.proofs.Common.{◌≡◌, drop}
use Rattle.host_collector.specs.inner.Gathering.{nothing, gathered}
use Rattle.host_collector.proofs.gathered.gather.Given as goal

abbrev pub invariant-loop-call : goal.invariant-loop-call
invariant-loop-call l = gathered l.gathered (drop l.call-index l.calls) ≡ gathered nothing l.calls
