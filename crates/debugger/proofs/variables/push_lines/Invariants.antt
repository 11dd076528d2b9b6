use Rattle.std.proofs.Common.{◌≡◌, ◌++◌, drop}
use Rattle.std.specs.Prelude.{flat_map}
use Rattle.var_eval.specs.calls.Sourced.{AreKnown}
use Rattle.debugger.specs.Variables.{variable_line}
use Rattle.debugger.proofs.variables.push_lines.Given as goal

abbrev pub invariant-loop-variable : goal.invariant-loop-variable
invariant-loop-variable l = record {
  lines : l.fn.out ++ flat_map (variable_line l.looks) l.variables ≡ l.out ++ flat_map (variable_line l.looks) (drop l.variable-index l.variables);
  right : AreKnown l.looks l.known;
}
