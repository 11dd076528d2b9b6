use Rattle.std.proofs.Common.{◌≡◌, ◌-◌, ◌++◌}
use Rattle.std.specs.Prelude.{flat_map}
use Rattle.std.specs.List.{range_with_len}
use Rattle.debugger.specs.Examined.{row_of, rows_text}
use Rattle.debugger.proofs.examined.push_rows.Given as goal

abbrev pub invariant-loop-row : goal.invariant-loop-row
invariant-loop-row l = l.out ++ flat_map (row_of l.at l.bytes) (range_with_len l.row (l.rows - l.row)) ≡ l.fn.out ++ rows_text l.at l.bytes
