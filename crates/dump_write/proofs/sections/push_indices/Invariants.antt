use Rattle.std.proofs.Common.{◌≡◌, ◌++◌}
use Rattle.std.specs.List.{flat_map, range_with_len}
use Rattle.wasm_leb.specs.Writing.{unsigned_bytes}
use Rattle.dump_write.proofs.sections.push_indices.Given as goal

abbrev pub invariant-loop-index : goal.invariant-loop-index
invariant-loop-index l = l.out.items ≡ l.initial.out.items ++ flat_map unsigned_bytes (range_with_len 0 l.index)
