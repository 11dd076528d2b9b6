use Rattle.std.proofs.Common.{◌≡◌, ◌++◌, take}
use Rattle.std.specs.List.{flat_map}
use Rattle.std.specs.String.{string_bytes}
use Rattle.pm_text.specs.Names.{marked_byte, outside_text}
use Rattle.pm_text.proofs.names.write_bytes.Given as goal

abbrev pub invariant-loop-b : goal.invariant-loop-b
invariant-loop-b l = string_bytes l.out ≡ string_bytes l.fn.out ++ flat_map (outside_text (marked_byte l.marks)) (take l.b-index l.bytes)
