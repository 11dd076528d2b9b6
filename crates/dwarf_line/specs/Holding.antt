-- Whether a sequence holds an address, computed.
use Rattle.std.specs.Prelude.{ℕ, List, [], ◌∷◌, Bool, false, not, ◌&&◌, ◌==◌, nat_lt, nat_le}
use Rattle.dwarf_line.specs.declared.lines.Row.{Row}
use Rattle.dwarf_line.specs.declared.lines.Sequence.{Sequence}

abbrev pub holds_from : ℕ → List Row → ℕ → Bool
holds_from address [] last = false
holds_from address (first ∷ rows) last = not (first.address == 0) && (nat_lt first.address 0xfffffffe && (nat_le first.address address && nat_lt address last))

abbrev pub holds : ℕ → Sequence → Bool
holds address s = holds_from address s.rows s.«end»
