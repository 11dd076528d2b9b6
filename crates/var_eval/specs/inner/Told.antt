-- What the code tells of steps, against the definitions.
use Rattle.std.specs.Prelude.{◌≡◌, Result, Ok, Err}
use Rattle.var_values.specs.declared.mark.Mark.{Mark}
use Rattle.var_eval.specs.declared.dead_end.DeadEnd.{DeadEnd}
use Rattle.var_eval.specs.declared.dead_end.DeadEnd.TheVariants.{Marked, TooFar, NoMemory}

-- the same, unless the steps lead too far or memory runs out
abbrev pub Tells : {A : Type 0} → Result A DeadEnd → Result A Mark → Type 0
Tells (Ok x) answer = answer ≡ Ok x
Tells (Err (Marked m)) answer = answer ≡ Err m
Tells (Err TooFar) answer = Unit {0}
Tells (Err NoMemory) answer = Unit {0}
