use Rattle.std.proofs.Common.{◌≡◌, ◌++◌, drop}
use Rattle.debugger.specs.Listings.{value_line}
use Rattle.debugger.proofs.listing.push_lines.Given as goal
use Rattle.commands.specs.Values.{numbered}

abbrev pub invariant-loop-i : goal.invariant-loop-i
invariant-loop-i l = l.out ++ numbered (value_line l.label) l.i (drop l.i l.values) ≡ l.fn.out ++ numbered (value_line l.label) 0 l.values
