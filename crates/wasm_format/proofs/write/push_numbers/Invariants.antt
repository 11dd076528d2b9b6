use Rattle.std.proofs.Common.{◌≡◌, ◌++◌, take}
use Rattle.std.specs.List.{flat_map}
use Rattle.wasm_leb.specs.Writing.{unsigned_bytes}
use Rattle.wasm_format.proofs.write.push_numbers.Given as goal

abbrev pub invariant-loop-number : goal.invariant-loop-number
invariant-loop-number l = l.out.items ≡ l.initial.out.items ++ flat_map unsigned_bytes (take l.number-index l.numbers)
