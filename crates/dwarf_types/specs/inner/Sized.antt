-- Sizes of arrays, from the innermost subrange outwards.
use Rattle.std.specs.Prelude.{◌≡◌, ◌-◌, ℕ, List, length, drop, slice_get, Option, Some}
use Rattle.dwarf_types.specs.Products.{array_size}

-- with none of the subranges first, up to the first size that is not known
abbrev pub AreSizes : List (Option ℕ) → ℕ → List ℕ → Type 0
AreSizes counts element sizes = (k : ℕ) → slice_get sizes (length counts - k) ≡ array_size (drop k counts) (Some element)
