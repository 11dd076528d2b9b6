use Rattle.std.proofs.Common.{◌≡◌, ℕ, ◌-◌, ◌≤◌, length}
use Rattle.dwarf_expr.specs.Decode.{operators_from, operators}
use Rattle.dwarf_expr.specs.Named.{names_operand_from}
use Rattle.dwarf_expr.proofs.named.names_operand_from.Given as goal

abbrev pub invariant-operators : goal.invariant-operators
invariant-operators l = record {
  so_far : (n : ℕ) × (length l.reader.block - l.reader.at ≤ n) × (names_operand_from l.least (operators l.expr) ≡ names_operand_from l.least (operators_from n l.reader));
  block : l.reader.block ≡ l.expr;
}

abbrev pub decreases-operators : goal.decreases-operators
decreases-operators l = length l.reader.block - l.reader.at
