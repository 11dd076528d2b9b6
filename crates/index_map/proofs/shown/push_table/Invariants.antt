use Rattle.std.proofs.Common.{◌≡◌, ◌++◌, take}
use Rattle.index_map.proofs.shown.push_table.Given as goal

abbrev pub invariant-loop-function : goal.invariant-loop-function
invariant-loop-function l = l.out.items ≡ l.initial.out.items ++ take l.function-index l.functions
