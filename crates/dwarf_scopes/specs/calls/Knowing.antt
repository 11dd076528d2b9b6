-- What lists were found to say of an address.
use Rattle.std.specs.Prelude.{◌≡◌, ◌≤◌, ◌<◌, ◌^◌, ◌+◌, ◌-◌, ℕ, List, length, Option, Some, None, option_map, IfSome, Bool, false, is_some}
use Rattle.std.specs.Ordering.{nat_cmp}
use Rattle.std.specs.BTreeMap.{get}
use Rattle.wasm_bytes.specs.Place.{Place, Read}
use Rattle.dwarf_bytes.specs.Items.{ended_from, ended_item, reading_of, read_at}
use Rattle.dwarf_info.specs.declared.entry.Unit.{Unit as UnitTree}
use Rattle.dwarf_info.specs.Attributes.{valued, as_offset, addr_base}
use Rattle.dwarf_info.specs.Entries.{root_attributes}
use Rattle.dwarf_info.specs.Sections.{SectionBytes5}
use Rattle.dwarf_loc.specs.declared.contents.Span.{Span}
use Rattle.dwarf_loc.specs.declared.entry.ListEntry.{ListEntry}
use Rattle.dwarf_loc.specs.declared.said.Said.{Said as SaidOf}
use Rattle.dwarf_loc.specs.calls.Said.{said, chosen_of}
use Rattle.dwarf5_info.specs.Lists.{is_version5, list_base}
use Rattle.dwarf_scopes.specs.declared.kinds.ListWay.{ListWay}
use Rattle.dwarf_scopes.specs.declared.known.ListPlace.{ListPlace}
use Rattle.dwarf_scopes.specs.declared.known.KnownLists.{KnownLists}
use Rattle.dwarf_scopes.specs.declared.bases.BaseTable.{BaseTable}
use Rattle.dwarf_scopes.specs.declared.bases.BaseTables.{BaseTables}
use Rattle.dwarf_scopes.specs.declared.asked.KnownRanges.{KnownRanges}
use Rattle.dwarf_scopes.specs.declared.steps.Step.{Step}
use Rattle.dwarf_scopes.specs.calls.Kinds.{range_section, range_item, location_section, location_item}
use Rattle.dwarf_scopes.specs.calls.Steps.{answer}

-- by what the lists of a unit are read
abbrev pub way_of : UnitTree → ListWay
way_of u = record { version5 = is_version5 u; addresses = valued as_offset addr_base (root_attributes u.entries) }

-- the list of a unit at an offset
abbrev pub place_of : UnitTree → ℕ → ListPlace
place_of u at = record { way = way_of u; base = list_base u; at = at }

-- the section of lists, and how their entries are read
abbrev pub Sectioned : Type 0
Sectioned = ListWay → List ℕ

abbrev pub Entered : Type 0 → Type 0
Entered A = ListWay → Place → Read (Option (ListEntry A))

-- what a list says of an address from a place on, if it can be read from there up to its end mark
abbrev pub said_in : {A : Type 0} → Sectioned → Entered A → ℕ → ListPlace → Option (SaidOf A)
said_in section item address p = option_map (said p.base address) (read_at (ended_item (item p.way)) (section p.way) p.at)

-- The same, however many entries are allowed, as long as they are enough for its bytes.
abbrev pub IsSaid : {A : Type 0} → Sectioned → Entered A → ℕ → ListPlace → Option (SaidOf A) → Type 0
IsSaid section item address p answer = (n : ℕ) → length (section p.way) + 1 - p.at ≤ n
    → option_map (said p.base address) (reading_of (ended_from (item p.way) n (record { block = section p.way; at = p.at }))) ≡ answer

-- Each says what is said from its place on.
abbrev pub AreSaid : {A : Type 0} → Sectioned → Entered A → ℕ → KnownLists A → Type 0
AreSaid section item address lists = (number : ℕ) → IfSome (get nat_cmp lists.known number) (λ k. IsSaid section item address k.place k.said)

-- Something counts; a list that can't be read says nothing.
abbrev pub is_held : {A : Type 0} → Option (SaidOf A) → Bool
is_held (Some s) = is_some (chosen_of s)
is_held None = false

-- the list of a table, asked from a base
abbrev pub place_at : BaseTable → ℕ → ListPlace
place_at t base = record { way = t.way; base = base; at = t.at }

abbrev pub held_from : Option (List Step) → ℕ → Bool
held_from (Some steps) base = is_some (answer steps base)
held_from None base = false

-- A table says from which bases its list says something of an address.
abbrev pub AreBases : {A : Type 0} → Sectioned → Entered A → ℕ → BaseTable → Type 0
AreBases section item address t = (base : ℕ) → base < 2 ^ 32 → held_from t.bases base ≡ is_held (said_in section item address (place_at t base))

abbrev pub AreTabled : {A : Type 0} → Sectioned → Entered A → ℕ → BaseTables → Type 0
AreTabled section item address b = (number : ℕ) → IfSome (get nat_cmp b.tables number) (AreBases section item address)

-- What is kept of range lists is right.
pub record AreRight (s : SectionBytes5) (address : ℕ) (k : KnownRanges) : Type 0 where
  pub said : AreSaid (range_section s) (range_item s) address k.lists
  pub tabled : AreTabled (range_section s) (range_item s) address k.bases

abbrev pub AreFound : SectionBytes5 → ℕ → KnownLists Span → Type 0
AreFound s address lists = AreSaid (location_section s) (location_item s) address lists

-- A range list that can't be read holds no address.
abbrev pub held_in : Option (Option (Unit {0})) → Bool
held_in (Some chosen) = is_some chosen
held_in None = false
