-- The bytes that spell lists of version 5 (DWARF 5, 7.7.3 and 7.25).
use Rattle.std.specs.Prelude.{ℕ, List, Option, None}
use Rattle.wasm_bytes.specs.calls.Spelling.{Spellings, ◌&◌, leads, pair, image, only, byte, u64}
use Rattle.dwarf_bytes.specs.calls.Spelled.{meaning, number, ended, StandsAt}
use Rattle.dwarf_loc.specs.declared.contents.Span.{Span}
use Rattle.dwarf_loc.specs.declared.entry.ListEntry.{ListEntry}
use Rattle.dwarf_loc.specs.calls.Grammar.{span}
use Rattle.dwarf_loc.specs.declared.kind.EntryKind.{EntryKind}
use Rattle.dwarf_loc.specs.declared.kind.EntryKind.TheVariants.{EndOfList, BaseAddressx, StartxEndx, StartxLength, OffsetPair, DefaultLocation, BaseAddress, StartEnd, StartLength}
use Rattle.dwarf_loc.specs.Addresses.{Addresses}
use Rattle.dwarf_loc.specs.Kinds.{location_kind, range_kind}
use Rattle.dwarf_loc.specs.Version5.{Kinds, base_of, offsets_of, between_of, lasting_of, otherwise_of}

-- an address by its index
abbrev pub indexed : Addresses → ℕ → Spellings
indexed addresses = meaning addresses u64

abbrev pub expression5 : Span → Spellings
expression5 s = u64 s.len & span s

-- an entry behind its kind
abbrev pub of_kind : {A : Type 0} → Addresses → (A → Spellings) → EntryKind → Option (ListEntry A) → Spellings
of_kind addresses S EndOfList = only None
of_kind addresses S BaseAddressx = image base_of (indexed addresses)
of_kind addresses S StartxEndx = image between_of (pair (indexed addresses) (pair (indexed addresses) S))
of_kind addresses S StartxLength = image lasting_of (pair (indexed addresses) (pair u64 S))
of_kind addresses S OffsetPair = image offsets_of (pair u64 (pair u64 S))
of_kind addresses S DefaultLocation = image otherwise_of S
of_kind addresses S BaseAddress = image base_of (number 4)
of_kind addresses S StartEnd = image between_of (pair (number 4) (pair (number 4) S))
of_kind addresses S StartLength = image lasting_of (pair (number 4) (pair u64 S))

-- a kind, and the entry behind it; none is the end mark
abbrev pub entry5 : {A : Type 0} → Kinds → Addresses → (A → Spellings) → Option (ListEntry A) → Spellings
entry5 kinds addresses S = leads (meaning kinds byte) (of_kind addresses S)

abbrev pub list5 : {A : Type 0} → Kinds → Addresses → (A → Spellings) → List (ListEntry A) → Spellings
list5 kinds addresses S = ended (entry5 kinds addresses S)

-- the location lists and the range lists that stand at an offset of a section
abbrev pub IsLocations5 : List ℕ → Addresses → ℕ → List (ListEntry Span) → Type 0
IsLocations5 section addresses at entries = StandsAt (list5 location_kind addresses expression5) entries section at

abbrev pub IsRanges5 : List ℕ → Addresses → ℕ → List (ListEntry (Unit {0})) → Type 0
IsRanges5 section addresses at entries = StandsAt (list5 range_kind addresses (only tt)) entries section at
