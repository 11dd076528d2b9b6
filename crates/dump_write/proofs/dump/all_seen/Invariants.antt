use Rattle.std.proofs.Common.{◌≡◌, map, take}
use Rattle.wasm_syntax.specs.Numbers.{seen_of}
use Rattle.dump_write.proofs.dump.all_seen.Given as goal

abbrev pub invariant-loop-value : goal.invariant-loop-value
invariant-loop-value l = l.out ≡ map seen_of (take l.value-index l.values)
