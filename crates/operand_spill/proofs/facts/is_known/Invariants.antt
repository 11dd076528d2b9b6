use Rattle.std.proofs.Common.{◌≡◌, drop, map}
use Rattle.rewrite_bodies.specs.calls.Facts.{answered}
use Rattle.operand_spill.specs.inner.Exposing.{fact, made}
use Rattle.operand_spill.proofs.facts.is_known.Given as goal

abbrev pub invariant-loop-found : goal.invariant-loop-found
invariant-loop-found l = record {
  first : l.local ≡ l.fn.local;
  second : l.end ≡ l.fn.end;
  so_far : answered (made l.fn.local l.fn.end) (map fact l.items) ≡ answered (made l.fn.local l.fn.end) (map fact (drop l.found-index l.items));
}
