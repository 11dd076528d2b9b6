use Rattle.std.proofs.Common.{◌≡◌, ◌-◌, ◌++◌, replicate}
use Rattle.wasm_syntax.specs.declared.value.Seen.TheVariants.{Missing}
use Rattle.debugger.specs.Listings.{value_line}
use Rattle.debugger.proofs.listing.push_missing.Given as goal
use Rattle.commands.specs.Values.{numbered}

abbrev pub invariant-loop-i : goal.invariant-loop-i
invariant-loop-i l = l.out ++ numbered (value_line l.label) l.i (replicate (l.count - l.i) Missing) ≡ l.fn.out ++ numbered (value_line l.label) 0 (replicate l.count Missing)
