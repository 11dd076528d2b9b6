-- What is known of the subranges of an array.
use Rattle.std.specs.Prelude.{◌≡◌, ℕ, List, drop, Option, Some, IfSome}
use Rattle.dwarf_entries.specs.Standing.{Standing}
use Rattle.dwarf_types.specs.Counts.{counts}
use Rattle.dwarf_types.specs.Products.{array_size}

-- the counts, the outermost first, and the size of the innermost elements
pub record Subranges : Type 0 where
  pub counts : List (Option ℕ)
  pub element : ℕ

-- the size without the first k of them
abbrev pub size_behind : Subranges → ℕ → Option ℕ
size_behind a k = array_size (drop k a.counts) (Some a.element)

-- they are those of an entry, if there is one
abbrev pub AreOf : Option Standing → Subranges → Type 0
AreOf s rows = IfSome s (λ s. rows.counts ≡ counts s)
