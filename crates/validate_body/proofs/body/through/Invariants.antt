use Rattle.std.proofs.Common.{◌≡◌, ◌≤◌, ◌-◌, length, take}
use Rattle.std.specs.Prelude.{Some, slice_get}
use Rattle.wasm_syntax.specs.Tree.{code_of}
use Rattle.wasm_syntax.specs.Typing.{body_context}
use Rattle.validate_body.specs.calls.Algorithm.{run, start}
use Rattle.validate_body.proofs.MarksLaws.{SoFar}
use Rattle.validate_body.proofs.body.through.Given as goal

abbrev pub invariant-loop-n : goal.invariant-loop-n
invariant-loop-n l = record {
  within : l.n ≤ length l.body.ops;
  marked : SoFar l.marks l.m l.t l.body l.n;
  same : run (body_context l.m l.t l.body) (start (slice_get l.t.results 0)) (code_of l.body.targets (take l.n l.body.ops)) ≡ Some l.stack;
}

abbrev pub decreases-loop-n : goal.decreases-loop-n
decreases-loop-n l = length l.body.ops - l.n
