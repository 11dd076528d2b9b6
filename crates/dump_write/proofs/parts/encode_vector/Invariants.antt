use Rattle.std.proofs.Common.{◌≡◌, ◌++◌, take, All}
use Rattle.std.specs.List.{flat_map}
use Rattle.dump_write.proofs.parts.encode_vector.Given as goal

abbrev pub invariant-loop-item : goal.invariant-loop-item
invariant-loop-item g l = record {
  bytes : l.out.items ≡ l.initial.out.items ++ flat_map g.T.Encode.bytes (take l.item-index l.items);
  typed : All g.T.Encode.IsTyped (take l.item-index l.items);
}
