use Rattle.std.proofs.Common.{◌≡◌, drop, Some}
use Rattle.wasm_syntax.specs.Host.{after_writes}
use Rattle.machine_hosted.proofs.writes.write_each.Given as goal

abbrev pub invariant-loop-write : goal.invariant-loop-write
invariant-loop-write l = after_writes (Some l.memory.memory) (drop l.write-index l.writes) ≡ after_writes (Some l.initial.memory.memory) l.writes
