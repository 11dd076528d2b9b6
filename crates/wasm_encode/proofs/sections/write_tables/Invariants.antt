use Rattle.std.proofs.Common.{◌≡◌, ◌++◌, take}
use Rattle.std.specs.List.{flat_map, AllByRecursion}
use Rattle.wasm_encode.specs.Encoding.{table_bytes}
use Rattle.wasm_encode.specs.calls.Fits.{FitsLimits}
use Rattle.wasm_encode.proofs.sections.write_tables.Given as goal

abbrev pub invariant-loop-table : goal.invariant-loop-table
invariant-loop-table l = record {
  written : l.out.items ≡ l.initial.out.items ++ flat_map table_bytes (take l.table-index l.tables);
  fit : AllByRecursion FitsLimits (take l.table-index l.tables);
}
