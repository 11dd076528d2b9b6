-- The addresses that a sequence holds: from one up to but not including another.
use Rattle.std.specs.Prelude.{ℕ, List, [], ◌∷◌, Option, Some, None, Bool, false, not, ◌&&◌, ◌==◌, nat_lt, nat_le, if◌then◌else◌}
use Rattle.dwarf_line.specs.declared.lines.Row.{Row}
use Rattle.dwarf_line.specs.declared.lines.Sequence.{Sequence}

abbrev pub held_from : List Row → ℕ → Option (ℕ × ℕ)
held_from [] last = None
held_from (first ∷ rows) last = if not (first.address == 0) && nat_lt first.address 0xfffffffe then Some (first.address, last) else None

abbrev pub held : Sequence → Option (ℕ × ℕ)
held s = held_from s.rows s.«end»

abbrev pub is_held : ℕ → Option (ℕ × ℕ) → Bool
is_held address None = false
is_held address (Some bounds) = nat_le bounds.0 address && nat_lt address bounds.1
