use Rattle.std.proofs.Common.{◌≡◌, ◌+◌, ◌-◌, ◌≤◌, map, is_some}
use Rattle.linear_memory.specs.Memory.{window, splice}
use Rattle.linear_memory.specs.inner.Table.{contents, AllWhole}
use Rattle.linear_memory.proofs.table.move_all.Given as goal

abbrev pub invariant-loop-done : goal.invariant-loop-done
invariant-loop-done l = (l.done ≤ l.len) × AllWhole l.pages × (map is_some l.pages ≡ map is_some l.initial.pages) × (contents l.pages ≡ splice (contents l.initial.pages) l.to (window (contents l.initial.pages) l.from l.done))

abbrev pub decreases-loop-done : goal.decreases-loop-done
decreases-loop-done l = l.len - l.done

abbrev pub invariant-loop-left : goal.invariant-loop-left
invariant-loop-left l = (l.left ≤ l.len) × AllWhole l.pages × (map is_some l.pages ≡ map is_some l.initial.pages) × (contents l.pages ≡ splice (contents l.initial.pages) (l.to + l.left) (window (contents l.initial.pages) (l.from + l.left) (l.len - l.left)))

abbrev pub decreases-loop-left : goal.decreases-loop-left
decreases-loop-left l = l.left
