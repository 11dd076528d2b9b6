-- How many entries stand in each of a list.
use Rattle.std.specs.Prelude.{ℕ, List, [], ◌∷◌, nat_lt}
use Rattle.std.specs.List.{prefix_len}
use Rattle.dwarf_info.specs.declared.entry.Entry.{Entry}

-- how many from the front on are deeper
abbrev pub deeper : ℕ → List Entry → ℕ
deeper depth es = prefix_len (λ e. nat_lt depth e.depth) es

abbrev pub insides : List Entry → List ℕ
insides [] = []
insides (e ∷ es) = deeper e.depth es ∷ insides es
