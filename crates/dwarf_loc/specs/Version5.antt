-- Reading lists of version 5 (DWARF 5, 7.7.3 and 7.25): each entry begins with its kind.
use Rattle.std.specs.Prelude.{ℕ, List, Option, Some, None, option_map, is_some, Bool}
use Rattle.wasm_bytes.specs.Place.{Place, Read}
use Rattle.wasm_bytes.specs.Reading.{◌⊗◌, ◌▷◌, mapped, done_item, byte_item, u64_item}
use Rattle.dwarf_bytes.specs.Items.{meaning_item, number_item, ended_item, read_at}
use Rattle.dwarf_loc.specs.declared.contents.Span.{Span}
use Rattle.dwarf_loc.specs.declared.entry.ListEntry.{ListEntry}
use Rattle.dwarf_loc.specs.declared.entry.ListEntry.TheVariants.{Base, FromBase, Between, Lasting, Otherwise}
use Rattle.dwarf_loc.specs.Contents.{span_item, nothing_item}
use Rattle.dwarf_loc.specs.Lists.{chosen}
use Rattle.dwarf_loc.specs.declared.kind.EntryKind.{EntryKind}
use Rattle.dwarf_loc.specs.declared.kind.EntryKind.TheVariants.{EndOfList, BaseAddressx, StartxEndx, StartxLength, OffsetPair, DefaultLocation, BaseAddress, StartEnd, StartLength}
use Rattle.dwarf_loc.specs.Addresses.{Addresses}
use Rattle.dwarf_loc.specs.Kinds.{location_kind, range_kind}

-- an address by its index, which has no reading where there is none
unfoldable pub indexed_item : Addresses → Place → Read ℕ
indexed_item addresses = meaning_item addresses u64_item

-- ---- what an entry is made of

abbrev pub base_of : {A : Type 0} → ℕ → Option (ListEntry A)
base_of address = Some (Base address)

abbrev pub offsets_of : {A : Type 0} → ℕ × (ℕ × A) → Option (ListEntry A)
offsets_of x = Some (FromBase x.0 x.1.0 x.1.1)

abbrev pub between_of : {A : Type 0} → ℕ × (ℕ × A) → Option (ListEntry A)
between_of x = Some (Between x.0 x.1.0 x.1.1)

abbrev pub lasting_of : {A : Type 0} → ℕ × (ℕ × A) → Option (ListEntry A)
lasting_of x = Some (Lasting x.0 x.1.0 x.1.1)

abbrev pub otherwise_of : {A : Type 0} → A → Option (ListEntry A)
otherwise_of what = Some (Otherwise what)

-- ---- entries

-- what stands behind a kind
unfoldable pub behind_kind : {A : Type 0} → Addresses → (Place → Read A) → EntryKind → Place → Read (Option (ListEntry A))
behind_kind addresses what EndOfList = done_item None
behind_kind addresses what BaseAddressx = mapped base_of (indexed_item addresses)
behind_kind addresses what StartxEndx = mapped between_of (indexed_item addresses ⊗ indexed_item addresses ⊗ what)
behind_kind addresses what StartxLength = mapped lasting_of (indexed_item addresses ⊗ u64_item ⊗ what)
behind_kind addresses what OffsetPair = mapped offsets_of (u64_item ⊗ u64_item ⊗ what)
behind_kind addresses what DefaultLocation = mapped otherwise_of what
behind_kind addresses what BaseAddress = mapped base_of (number_item 4)
behind_kind addresses what StartEnd = mapped between_of (number_item 4 ⊗ number_item 4 ⊗ what)
behind_kind addresses what StartLength = mapped lasting_of (number_item 4 ⊗ u64_item ⊗ what)

abbrev pub Kinds : Type 0
Kinds = ℕ → Option EntryKind

unfoldable pub entry5_item : {A : Type 0} → Kinds → Addresses → (Place → Read A) → Place → Read (Option (ListEntry A))
entry5_item kinds addresses what = meaning_item kinds byte_item ▷ behind_kind addresses what

unfoldable pub list5_item : {A : Type 0} → Kinds → Addresses → (Place → Read A) → Place → Read (List (ListEntry A))
list5_item kinds addresses what = ended_item (entry5_item kinds addresses what)

-- an expression with its length in front
unfoldable pub expression5_item : Place → Read Span
expression5_item = u64_item ▷ span_item

-- ---- what the lists of a section say of an address; a list has a reading only as a whole

unfoldable pub location5 : List ℕ → Addresses → ℕ → ℕ → ℕ → Option (Option Span)
location5 section addresses at start address =
    option_map (chosen start address) (read_at (list5_item location_kind addresses expression5_item) section at)

unfoldable pub range5 : List ℕ → Addresses → ℕ → ℕ → ℕ → Option Bool
range5 section addresses at start address =
    option_map (λ entries. is_some (chosen start address entries)) (read_at (list5_item range_kind addresses nothing_item) section at)
