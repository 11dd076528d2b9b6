use Rattle.std.proofs.Common.{◌≡◌, ◌++◌, drop}
use Rattle.std.specs.Prelude.{map}
use Rattle.var_eval.specs.calls.Variables.{variable_of}
use Rattle.var_eval.proofs.visibility.visible.Given as goal

abbrev pub invariant-loop-variable : goal.invariant-loop-variable
invariant-loop-variable l = map (variable_of l.units) l.variable-items ≡ l.variables ++ map (variable_of l.units) (drop l.variable-index l.variable-items)
