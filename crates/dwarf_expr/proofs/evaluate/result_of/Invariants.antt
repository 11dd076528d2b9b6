use Rattle.std.proofs.Common.{◌≡◌, ℕ, ◌-◌, ◌≤◌, [], length}
use Rattle.dwarf_expr.specs.Decode.{operators_from, operators}
use Rattle.dwarf_expr.specs.inner.Steps.{continued, progress}
use Rattle.dwarf_expr.specs.declared.progress.Part.TheVariants as part
use Rattle.dwarf_expr.proofs.evaluate.result_of.Given as goal

abbrev pub invariant-operators : goal.invariant-operators
invariant-operators l = record {
  so_far : (n : ℕ) × (length l.reader.block - l.reader.at ≤ n) × (continued l.view l.base (length l.expr) (operators l.expr) (progress [] part.Empty []) ≡ continued l.view l.base (length l.expr) (operators_from n l.reader) l.progress);
  block : l.reader.block ≡ l.expr;
}

abbrev pub decreases-operators : goal.decreases-operators
decreases-operators l = length l.reader.block - l.reader.at
