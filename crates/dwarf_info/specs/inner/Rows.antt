-- Rows of a table of abbreviations, one behind the other.
use Rattle.std.specs.Prelude.{◌≡◌, ◌<◌, ◌≤◌, ℕ, suc, List, [], ◌∷◌, length, option_map}
use Rattle.dwarf_bytes.specs.Items.{reading_of}
use Rattle.dwarf_info.specs.declared.form.Shape.{Shape}
use Rattle.dwarf_info.specs.declared.tables.PlacedRow.{PlacedRow}
use Rattle.dwarf_info.specs.calls.Keeping.{Rows}

-- A row stands at an offset of a section, and another offset is the one behind it.
pub record IsRow (rows : Rows) (section : List ℕ) (at : ℕ) (shape : Shape) (next : ℕ) : Type 0 where
  pub inside : at ≤ length section
  pub moves : at < next
  pub reads : (n : ℕ) → reading_of (rows (suc n) (record { block = section; at = at })) ≡ option_map (λ more. shape ∷ more) (reading_of (rows n (record { block = section; at = next })))

-- Each row stands behind the one before it, and from one offset they lead to another.
abbrev pub Leads : Rows → List ℕ → List PlacedRow → ℕ → ℕ → Type 0
Leads rows section [] at to = at ≡ to
Leads rows section (r ∷ rs) at to = (next : ℕ) × (r.at ≡ at) × IsRow rows section at r.shape next × Leads rows section rs next to
