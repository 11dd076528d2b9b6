use Rattle.std.proofs.Common.{◌≡◌, ◌++◌, take, drop}
use Rattle.var_path.specs.Words.{in_front, behind}
use Rattle.var_path.proofs.span.span.Given as goal

abbrev pub invariant-loop-count : goal.invariant-loop-count
invariant-loop-count g l = record {
  front : in_front g.K.ByteKind.holds l.text ≡ take l.count l.text ++ in_front g.K.ByteKind.holds (drop l.count l.text);
  behind : behind g.K.ByteKind.holds l.text ≡ behind g.K.ByteKind.holds (drop l.count l.text);
}
