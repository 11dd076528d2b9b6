-- Steps that lead no further.
use Rattle.std.proofs.Common.{ap}
use Rattle.std.specs.Prelude.{Result, Err}
use Rattle.var_values.specs.declared.mark.Mark.{Mark}
use Rattle.var_eval.specs.declared.dead_end.DeadEnd.{DeadEnd}
use Rattle.var_eval.specs.declared.dead_end.DeadEnd.TheVariants.{Marked, TooFar, NoMemory}
use Rattle.var_eval.specs.Steps.{and_then}
use Rattle.var_eval.specs.inner.Told.{Tells}

-- what is told of the first of two steps
pub stopped : {A B : Type 0} (e : DeadEnd) (first : Result A Mark) (go : A → Result B Mark) → Tells (Err e) first → Tells (Err e) (and_then first go)
stopped (Marked m) first go e = ap (λ r. and_then r go) e
stopped TooFar first go e = tt
stopped NoMemory first go e = tt
