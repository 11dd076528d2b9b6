use Rattle.std.proofs.Common.{◌≡◌, ◌++◌, ◌+◌, ◌-◌, ◌≤◌, length, drop}
use Rattle.dwarf_scopes.specs.calls.Spans.{merged}
use Rattle.dwarf_scopes.proofs.spans.merged.Given as goal

abbrev pub invariant-both : goal.invariant-both
invariant-both l = (l.i ≤ length l.left) × (l.j ≤ length l.right) × (l.spans.items ++ merged (drop l.i l.left) (drop l.j l.right) ≡ merged l.left l.right)

abbrev pub decreases-both : goal.decreases-both
decreases-both l = (length l.left - l.i) + (length l.right - l.j)
