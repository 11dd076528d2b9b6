use Rattle.std.proofs.Common.{◌≡◌, ◌≤◌, drop}
use Rattle.var_values.specs.Bytes.{piece_byte}
use Rattle.var_values.proofs.bytes.piece_byte.Given as goal

abbrev pub invariant-loop-piece : goal.invariant-loop-piece
invariant-loop-piece l = record {
  rest : piece_byte l.view.memory l.pieces l.index ≡ piece_byte l.view.memory (drop l.piece-index l.pieces) l.left;
  less : l.left ≤ l.index;
}
