-- A table of abbreviations is read exactly where a section spells it.
use Rattle.std.proofs.Common.{◌≡◌, ℕ, ◌↔◌, List, length, Option, Some, None, sym, ◌∙◌, inl, inr}
use Rattle.std.proofs.lemmas.Bool.{cases_lt}
use Rattle.wasm_bytes.specs.Laws.{IsBytes}
use Rattle.dwarf_bytes.specs.calls.Spelled.{StandsAt}
use Rattle.dwarf_bytes.proofs.Standing.{read_stands}
use Rattle.dwarf_abbrev.specs.declared.abbrev.Abbrev.{Abbrev}
use Rattle.dwarf_abbrev.specs.Reading.{abbrevs_item, abbrevs_at}
use Rattle.dwarf_abbrev.specs.calls.Grammar.{abbrevs}
use Rattle.dwarf_abbrev.proofs.Exact.{abbrevs_exact, abbrevs_past, table_read, none_stands}
use Rattle.dwarf_loc.proofs.Standing.{none_read}

table_stands : (section : List ℕ) (at : ℕ) (table : List Abbrev) → IsBytes section → abbrevs_at section at ≡ Some table → StandsAt abbrevs table section at
table_stands section at table fits read = elim (cases_lt (length section) at) [
  | inl past ↦ absurd (let none : None ≡ Some table = sym (abbrevs_past section at past) ∙ read in cc)
  | inr inside ↦ read_stands abbrevs abbrevs_item abbrevs_exact section at table fits inside read
]

pub read_as_spelled : (section : List ℕ) (at : ℕ) (table : List Abbrev) → IsBytes section → (abbrevs_at section at ≡ Some table) ↔ StandsAt abbrevs table section at
read_as_spelled section at table fits = (table_stands section at table fits, table_read section at table)

pub unread_as_spelled : (section : List ℕ) (at : ℕ) → IsBytes section → (abbrevs_at section at ≡ None) ↔ ((table : List Abbrev) → StandsAt abbrevs table section at → ⊥)
unread_as_spelled section at fits = (
  none_stands section at,
  λ h. none_read (abbrevs_at section at) (λ table read. h table (table_stands section at table fits read)),
)
