use Rattle.std.proofs.Common.{drop}
use Rattle.var_eval.specs.Chosen.{first_global}
use Rattle.var_eval.specs.inner.Adding.{Still}
use Rattle.var_eval.proofs.known_names.add_all.Given as goal

abbrev pub invariant-loop-answer : goal.invariant-loop-answer
invariant-loop-answer l = Still l.initial.table l.table (λ q. first_global l.units q l.answers) (λ q. first_global l.units q (drop l.answer-index l.answers))
