-- The tables of abbreviations that were read.
use Rattle.std.specs.Prelude.{◌≡◌, ◌≤◌, ◌+◌, ◌-◌, ℕ, suc, List, [], ◌∷◌, length, Option, Some, None, Bool, option_map, IfSome, Result, Ok, Err}
use Rattle.std.specs.Ordering.{nat_cmp}
use Rattle.std.specs.BTreeMap.{get}
use Rattle.wasm_bytes.specs.declared.faults.ItemFault.{ItemFault}
use Rattle.wasm_bytes.specs.declared.faults.ItemFault.TheVariants as faults
use Rattle.wasm_bytes.specs.Place.{Place, Read}
use Rattle.wasm_bytes.specs.Reading.{◌▷◌, u64_item}
use Rattle.dwarf_bytes.specs.Items.{ended_from, reading_of}
use Rattle.dwarf_abbrev.specs.Reading.{behind_code}
use Rattle.dwarf_abbrev.specs.calls.Shared.{list_of}
use Rattle.dwarf_info.specs.declared.form.Shape.{Shape}
use Rattle.dwarf_info.specs.declared.form.Slot.{Slot}
use Rattle.dwarf_info.specs.declared.tables.Tables.{Tables}
use Rattle.dwarf_info.specs.Sections.{SectionBytes5}

-- ---- rows of tables

-- a table of fewer rows than a number
abbrev pub Rows : Type 0
Rows = ℕ → Place → Read (List Shape)

-- what is made of a row's code and tag, of whether there are children, and of its pairs
abbrev pub shape_of : ℕ → ℕ → Bool → List Slot → Shape
shape_of code tag children slots = record { code = code; tag = tag; children = children; slots = slots }

-- a row by an item of its pairs, or the end mark
abbrev pub row_item : (Place → Read (Option Slot)) → Place → Read (Option Shape)
row_item pair = u64_item ▷ behind_code shape_of pair

abbrev pub rows_of : (Place → Read (Option Slot)) → Rows
rows_of pair n = ended_from (row_item pair) n

-- The first row of the table at a place was read, and left the reader at another one.
abbrev pub FirstRow : Rows → Place → Result (Option Shape) ItemFault → Place → Type 0
FirstRow rows p (Ok (Some s)) q = (n : ℕ) → reading_of (rows (suc n) p) ≡ option_map (λ more. s ∷ more) (reading_of (rows n q))
FirstRow rows p (Ok None) q = (n : ℕ) → reading_of (rows (suc n) p) ≡ Some []
FirstRow rows p (Err (faults.At at)) q = (n : ℕ) → reading_of (rows (suc n) p) ≡ None
FirstRow rows p (Err faults.NoMemory) q = Unit {0}

-- The table that stands at an offset of a section, if one does: however many rows are allowed, as long as they are enough for its bytes.
abbrev pub IsTable : Rows → List ℕ → ℕ → Option (List Shape) → Type 0
IsTable rows section at table = (n : ℕ) → length section + 1 - at ≤ n → reading_of (rows n (record { block = section; at = at })) ≡ table

-- ---- tables by their numbers

-- the number of the table at an offset, where it was read; None where no table stands there
abbrev pub kept_at : Tables → ℕ → Option (Option ℕ)
kept_at tables at = get nat_cmp tables.read at

abbrev pub numbered : Tables → Option ℕ → Option (List Shape)
numbered tables table = option_map (list_of tables.lists) table

-- The number is that of a table.
abbrev pub IsThere : Tables → Option ℕ → Type 0
IsThere tables table = IfSome table (λ n. n ≤ length tables.lists)

-- They are those of these sections, by such rows.
abbrev pub Keeps : Rows → SectionBytes5 → Tables → Type 0
Keeps rows s tables = (at : ℕ) → IfSome (kept_at tables at) (λ table. IsTable rows s.base.abbreviations at (numbered tables table) × IsThere tables table)

-- Whatever these are of, those are.
abbrev pub KeepsIf : Tables → Tables → Type 0
KeepsIf before after = (rows : Rows) (s : SectionBytes5) → Keeps rows s before → Keeps rows s after
