use Rattle.dwarf_expr.proofs.OperatorLaws.{operators_are, operators_only}
use Rattle.dwarf_expr.proofs.laws.operators_of_bytes.Goals as goal

pub returns : goal.returns
returns c = record {
  are = operators_are;
  only = operators_only;
}
