-- Maps from numbers to numbers: binary tries over the bits of keys, the lowest bit first, whose nodes stand in one list.
use Rattle.std.specs.Prelude.{◌≡◌, ◌≤◌, ◌⊎◌, ◌==◌, ◌/◌, ◌%◌, ℕ, zero, suc, Bool, List, length, slice_get, Option, Some, None, if◌then◌else◌}
use Rattle.dwarf_abbrev.specs.declared.forks.Fork.{Fork}

-- the node of a number; 0 is none
abbrev pub node : List Fork → ℕ → Option Fork
node forks zero = None
node forks (suc i) = slice_get forks i

-- what the key has whose bits end at a node; 0 is nothing
abbrev pub here_of : Option Fork → ℕ
here_of (Some f) = f.here
here_of None = 0

-- the number of the node behind a bit
abbrev pub behind : Bool → Option Fork → ℕ
behind is_set (Some f) = if is_set then f.odd else f.even
behind is_set None = 0

abbrev pub is_odd : ℕ → Bool
is_odd key = (key % 2) == 1

-- what a key has in the map of a node, where it is no greater than the first number
unfoldable pub found : List Fork → ℕ → ℕ → ℕ → ℕ
found forks zero n key = here_of (node forks n)
found forks (suc fuel) n key = if key == 0 then here_of (node forks n) else found forks fuel (behind (is_odd key) (node forks n)) (key / 2)

-- Each node leads to nodes that are there.
abbrev pub IsClosed : List Fork → Type 0
IsClosed forks = (n : ℕ) (is_set : Bool) → behind is_set (node forks n) ≤ length forks

-- Behind a bit is another node, and behind the other one what was there.
abbrev pub Side : Bool → ℕ → Option Fork → Fork → Bool → Type 0
Side b child old f is_set = ((is_set ≡ b) × (behind is_set (Some f) ≡ child)) ⊎ ((is_set ≡ b → ⊥) × (behind is_set (Some f) ≡ behind is_set old))
