use Rattle.std.proofs.Common.{◌≡◌, ◌++◌, drop}
use Rattle.std.specs.Prelude.{filter_map}
use Rattle.debugger.specs.Recorded.{listed}
use Rattle.debugger.proofs.globals.all_listed.Given as goal

abbrev pub invariant-loop-index : goal.invariant-loop-index
invariant-loop-index l = filter_map (listed l.globals) l.indices ≡ l.seens ++ filter_map (listed l.globals) (drop l.index-index l.indices)
