use Rattle.std.proofs.Common.{◌≡◌, ◌++◌, drop}
use Rattle.std.specs.Prelude.{flat_map}
use Rattle.debugger.specs.Examined.{byte_text}
use Rattle.debugger.proofs.examined.push_bytes.Given as goal

abbrev pub invariant-loop-byte : goal.invariant-loop-byte
invariant-loop-byte l = l.fn.out ++ flat_map byte_text l.row ≡ l.out ++ flat_map byte_text (drop l.byte-index l.row)
