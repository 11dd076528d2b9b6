-- Bounds of all addresses that the sequences of a line program hold.
use Rattle.std.specs.Prelude.{ℕ, List, [], ◌∷◌, Option, Some, None, option_map, Bool, nat_le, nat_lt, ◌&&◌, if◌then◌else◌}
use Rattle.dwarf_line.specs.declared.hull.Hull.{Hull}
use Rattle.dwarf_line.specs.declared.lines.Lines.{Lines}
use Rattle.dwarf_line.specs.declared.lines.Sequence.{Sequence}
use Rattle.dwarf_line.specs.calls.Held.{held}

-- of no address
abbrev pub no_hull : Hull
no_hull = record { first = 0xffffffff; «end» = 0 }

abbrev pub widened : Hull → Option (ℕ × ℕ) → Hull
widened h None = h
widened h (Some b) = record { first = if nat_le h.first b.0 then h.first else b.0; «end» = if nat_le h.«end» b.1 then b.1 else h.«end» }

abbrev pub hull_from : Hull → List Sequence → Hull
hull_from h [] = h
hull_from h (s ∷ ss) = hull_from (widened h (held s)) ss

abbrev pub is_inside : Hull → ℕ → Bool
is_inside h address = nat_le h.first address && nat_lt address h.«end»

abbrev pub hull_of : Lines → Hull
hull_of lines = hull_from no_hull lines.sequences

-- where a program can be read
abbrev pub hull_if : Option Lines → Option Hull
hull_if lines = option_map hull_of lines
