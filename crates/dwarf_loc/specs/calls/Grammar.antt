-- The bytes that spell lists of version 4.
use Rattle.std.specs.Prelude.{◌≡◌, ℕ, List, length, false, Option, Some, None, ◌==◌, ◌&&◌}
use Rattle.wasm_bytes.specs.calls.Spelling.{Spellings, ◌&◌, only}
use Rattle.dwarf_bytes.specs.calls.Spelled.{number, ended, StandsAt}
use Rattle.dwarf_loc.specs.declared.contents.Span.{Span}
use Rattle.dwarf_loc.specs.declared.entry.ListEntry.{ListEntry}
use Rattle.dwarf_loc.specs.declared.entry.ListEntry.TheVariants.{Base, FromBase}
use Rattle.dwarf_loc.specs.Version4.{is_selection}

-- so many bytes at that offset
abbrev pub span : Span → Spellings
span s at bytes = (s.at ≡ at) × (length bytes ≡ s.len)

abbrev pub expression4 : Span → Spellings
expression4 s = number 2 s.len & span s

abbrev pub entry4 : {A : Type 0} → (A → Spellings) → Option (ListEntry A) → Spellings
entry4 S None = number 4 0 & number 4 0
entry4 S (Some (Base address)) = number 4 0xffffffff & number 4 address
entry4 S (Some (FromBase begin end what)) = λ at bytes.
    ((begin == 0 && end == 0) ≡ false) × (is_selection begin ≡ false) × ((number 4 begin & number 4 end) & S what) at bytes
entry4 S (Some _) = λ at bytes. ⊥

abbrev pub list4 : {A : Type 0} → (A → Spellings) → List (ListEntry A) → Spellings
list4 S = ended (entry4 S)

-- the location lists and the range lists that stand at an offset of a section
abbrev pub IsLocations : List ℕ → ℕ → List (ListEntry Span) → Type 0
IsLocations section at entries = StandsAt (list4 expression4) entries section at

abbrev pub IsRanges : List ℕ → ℕ → List (ListEntry (Unit {0})) → Type 0
IsRanges section at entries = StandsAt (list4 (only tt)) entries section at
