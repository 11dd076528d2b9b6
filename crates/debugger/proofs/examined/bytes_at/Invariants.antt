use Rattle.std.proofs.Common.{◌≡◌}
use Rattle.linear_memory.specs.Memory.{window}
use Rattle.debugger.proofs.examined.bytes_at.Given as goal

abbrev pub invariant-loop-i : goal.invariant-loop-i
invariant-loop-i l = l.bytes.items ≡ window l.memory.memory.bytes l.at l.i
