use Rattle.std.proofs.Common.{◌≡◌, ◌++◌}
use Rattle.std.specs.Prelude.{encode_utf8_all}
use Rattle.std.specs.List.{flat_map}
use Rattle.std.specs.String.{string_bytes}
use Rattle.pm_text.specs.Names.{marked_byte}
use Rattle.pm_text.proofs.names.write_text.Given as goal

abbrev pub invariant-loop-c : goal.invariant-loop-c
invariant-loop-c l = (string_bytes l.out ≡ string_bytes l.fn.out ++ flat_map (marked_byte l.marks) (encode_utf8_all l.yielded)) × (encode_utf8_all l.yielded ++ l.c-iterator.rest.now ≡ l.text)
