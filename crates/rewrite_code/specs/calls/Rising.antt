-- Numbers of which none is lower than one before it.
use Rattle.std.specs.Prelude.{ℕ, ◌≤◌, ◌<◌, List, length, get_or}

abbrev pub Rising : List ℕ → Type 0
Rising xs = (i j : ℕ) → i ≤ j → j < length xs → get_or xs i 0 ≤ get_or xs j 0
