-- The zero bytes of a section of texts, which end the texts.
use Rattle.std.specs.Prelude.{ℕ, ◌+◌, List, [], ◌∷◌, ◌++◌, if◌then◌else◌}
use Rattle.dwarf_bytes.specs.Items.{is_zero}

-- the offset of a byte, if it is zero
abbrev pub zero_at : ℕ → ℕ → List ℕ
zero_at at b = if is_zero b then at ∷ [] else []

-- the offsets of the zero bytes, of which the first byte has that offset
abbrev pub zeros_from : ℕ → List ℕ → List ℕ
zeros_from at [] = []
zeros_from at (b ∷ bs) = zero_at at b ++ zeros_from (at + 1) bs
