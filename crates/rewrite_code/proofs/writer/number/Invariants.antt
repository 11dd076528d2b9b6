use Rattle.std.proofs.Common.{◌≡◌, ◌++◌}
use Rattle.std.specs.Prelude.{min, take, drop}
use Rattle.rewrite_code.specs.inner.Numbered.{numbered}
use Rattle.rewrite_code.proofs.writer.number.Given as goal

abbrev pub invariant-loop-op : goal.invariant-loop-op
invariant-loop-op l = record {
  so_far : l.ops ≡ take l.op-index (numbered 0 l.initial.ops) ++ drop l.op-index l.initial.ops;
  next : l.at ≡ min l.op-index 4294967295;
}
