-- What names mean at an address, by the offsets of entries.
use Rattle.std.specs.Prelude.{◌≡◌, ◌≤◌, ℕ, List, [], length, Option, option_map, IfSome}
use Rattle.std.specs.Cmp.Lexicographic.{slice_cmp}
use Rattle.std.specs.Ordering.{nat_cmp}
use Rattle.std.specs.BTreeMap.{get_by}
use Rattle.dwarf_info.specs.declared.entry.UnitAnswer.{UnitAnswer}
use Rattle.dwarf_info.specs.Sections.{SectionBytes5}
use Rattle.dwarf_entries.specs.Standing.{Standing, stands}
use Rattle.var_eval.specs.declared.known_names.NameTable.{NameTable}
use Rattle.var_eval.specs.declared.known_names.KnownNames.{KnownNames}
use Rattle.var_eval.specs.Chosen.{chosen}
use Rattle.var_eval.specs.inner.Named.{longest_name}
use Rattle.var_eval.specs.calls.Offsets.{AllAreAt}

abbrev pub look : NameTable → List ℕ → Option ℕ
look t name = get_by (λ k. slice_cmp nat_cmp name k.now) t.offsets

-- the offset of what was found
abbrev pub offset_found : Option Standing → Option ℕ
offset_found o = option_map (λ x. x.entry.at) o

-- It has the offset of what each name means that is not too long, and each entry is the one at its offset.
abbrev pub IsTable : SectionBytes5 → List UnitAnswer → ℕ → NameTable → Type 0
IsTable s units address t = AllAreAt units units × ((name : List ℕ) → length name ≤ longest_name → look t name ≡ offset_found (chosen s units address name))

abbrev pub AreNames : SectionBytes5 → List UnitAnswer → KnownNames → Type 0
AreNames s units k = IfSome k.table (IsTable s units k.address)

-- an entry of its unit, wherever it was found
abbrev pub bare : Standing → Standing
bare x = stands x.unit x.entry []

-- both are the same entry, or there is none
abbrev pub AreSame : Option Standing → Option Standing → Type 0
AreSame o p = option_map bare o ≡ option_map bare p
