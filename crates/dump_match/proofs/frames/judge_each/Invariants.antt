use Rattle.dump_match.specs.inner.Decides.{UpTo}
use Rattle.dump_match.proofs.frames.judge_each.Given as goal

abbrev pub invariant-loop-i : goal.invariant-loop-i
invariant-loop-i l = UpTo l.m l.dump l.i
