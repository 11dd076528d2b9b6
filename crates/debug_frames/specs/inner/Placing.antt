-- The addresses that line programs hold.
use Rattle.std.specs.Prelude.{ℕ, ℤ, pos, List, [], flat_map, map}
use Rattle.std.specs.Option.{option_to_list}
use Rattle.dwarf_line.specs.declared.lines.Sequence.{Sequence}
use Rattle.dwarf_line.specs.calls.Held.{held}
use Rattle.debug_frames.specs.declared.programs.Program.{Program}
use Rattle.debug_frames.specs.declared.programs.Program.TheVariants.{Read, Unreadable}

-- from where to where it holds addresses
abbrev pub held_by : Sequence → List (ℕ × ℤ)
held_by s = map (λ (b : ℕ × ℕ). (b.0, pos b.1)) (option_to_list (held s))

abbrev pub held_of : Program → List (ℕ × ℤ)
held_of (Read lines) = flat_map held_by lines.sequences
held_of Unreadable = []
