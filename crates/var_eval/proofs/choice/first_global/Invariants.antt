use Rattle.std.proofs.Common.{◌≡◌, drop}
use Rattle.var_eval.specs.Chosen.{first_global}
use Rattle.var_eval.proofs.choice.first_global.Given as goal

abbrev pub invariant-loop-answer : goal.invariant-loop-answer
invariant-loop-answer l = first_global l.units l.name l.answers ≡ first_global l.units l.name (drop l.answer-index l.answers)
