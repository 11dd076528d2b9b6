use Rattle.std.proofs.Common.{◌≡◌, drop}
use Rattle.host_collector.specs.declared.progress.Progress.TheVariants.{First}
use Rattle.host_collector.specs.inner.Progress.{judged}
use Rattle.host_collector.proofs.Tests.{Fits}
use Rattle.host_collector.proofs.progress.judge.Given as goal

abbrev pub invariant-loop-at : goal.invariant-loop-at
invariant-loop-at l = record { same : judged l.at l.progress (drop l.at l.calls) ≡ judged 0 (First 0) l.calls; fits : Fits l.at l.progress }
