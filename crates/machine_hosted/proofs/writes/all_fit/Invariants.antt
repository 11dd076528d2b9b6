use Rattle.std.proofs.Common.{◌≡◌, drop}
use Rattle.machine_hosted.specs.inner.Writes.{all_inside}
use Rattle.machine_hosted.proofs.writes.all_fit.Given as goal

abbrev pub invariant-loop-write : goal.invariant-loop-write
invariant-loop-write l = all_inside l.size (drop l.write-index l.writes) ≡ all_inside l.size l.writes
