-- One more step in the counts.
use Rattle.std.specs.Prelude.{ℕ, zero, suc, ◌+◌, ◌-◌, ◌^◌, min, List, [], ◌∷◌, length, replicate}
use Rattle.wasm_syntax.specs.declared.parts.Body.{Body}

abbrev pub more : ℕ → ℕ
more n = min (n + 1) (2 ^ 64 - 1)

-- one more in a cell, if it is there
abbrev pub cells_more : List ℕ → ℕ → List ℕ
cells_more [] i = []
cells_more (n ∷ ns) zero = more n ∷ ns
cells_more (n ∷ ns) (suc i) = n ∷ cells_more ns i

abbrev pub counts_more : List (List ℕ) → ℕ → ℕ → List (List ℕ)
counts_more [] f i = []
counts_more (c ∷ cs) zero i = cells_more c i ∷ cs
counts_more (c ∷ cs) (suc f) i = c ∷ counts_more cs f i

-- one more in each of so many cells from one on
abbrev pub cells_run : List ℕ → ℕ → ℕ → List ℕ
cells_run ns i zero = ns
cells_run ns i (suc n) = cells_more (cells_run ns i n) (i + n)

abbrev pub counts_run : List (List ℕ) → ℕ → ℕ → ℕ → List (List ℕ)
counts_run cs f i zero = cs
counts_run cs f i (suc n) = counts_more (counts_run cs f i n) f (i + n)

-- no step yet
abbrev pub no_cells : List Body → List (List ℕ)
no_cells [] = []
no_cells (b ∷ bs) = replicate (length b.ops) 0 ∷ no_cells bs
