-- The addresses that a sequence holds.
use Rattle.std.specs.Prelude.{ℕ, Bool, not, ◌&&◌, ◌==◌, nat_lt, nat_le, List, [], ◌∷◌, Option, Some, None, if◌then◌else◌}
use Rattle.dwarf_line.specs.declared.lines.Row.{Row}
use Rattle.dwarf_line.specs.declared.lines.Sequence.{Sequence}

-- a first address that is not one of removed code
abbrev pub is_kept : ℕ → Bool
is_kept address = not (address == 0) && nat_lt address 0xfffffffe

-- from the first up to but not including the other
abbrev pub span_from : List Row → ℕ → Option (ℕ × ℕ)
span_from [] last = None
span_from (first ∷ rows) last = if is_kept first.address && nat_lt first.address last then Some (first.address, last) else None

abbrev pub span : Sequence → Option (ℕ × ℕ)
span s = span_from s.rows s.«end»

abbrev pub within : ℕ → ℕ → ℕ → Bool
within from to address = nat_le from address && nat_lt address to
