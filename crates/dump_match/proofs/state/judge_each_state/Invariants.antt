use Rattle.dump_match.specs.inner.Decides.{StateUpTo}
use Rattle.dump_match.proofs.state.judge_each_state.Given as goal

abbrev pub invariant-loop-i : goal.invariant-loop-i
invariant-loop-i l = StateUpTo l.m l.dump l.i
