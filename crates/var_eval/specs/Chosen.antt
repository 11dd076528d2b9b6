-- The variable that a name means at an address (DWARF 4, 3.2.2, 3.3, 3.4 and 4.1): the last of those that are visible, the innermost; else one that
-- belongs to no scope but its unit or a namespace: of the unit itself, in a namespace of it, or of another unit.
use Rattle.std.specs.Prelude.{ℕ, suc, ◌==◌, ◌&&◌, ◌||◌, nat_le, Bool, List, [], ◌∷◌, find, flat_map, reverse, bytes_eq, Option, Some, None, if◌then◌else◌}
use Rattle.std.specs.Option.{option_or}
use Rattle.dwarf_info.specs.declared.entry.Entry.{Entry}
use Rattle.dwarf_info.specs.declared.entry.Unit.{Unit as UnitTree}
use Rattle.dwarf_info.specs.declared.entry.UnitAnswer.{UnitAnswer}
use Rattle.dwarf_info.specs.declared.entry.UnitAnswer.TheVariants.{Tree, Unreadable}
use Rattle.dwarf_info.specs.Sections.{SectionBytes5}
use Rattle.dwarf_entries.specs.Tags.{tag_variable}
use Rattle.dwarf_entries.specs.Standing.{Standing, stands, standing_in}
use Rattle.dwarf_entries.specs.Origins.{name_or_empty}
use Rattle.dwarf_scopes.specs.Scopes.{subprogram_at, variables_at}

abbrev pub is_named : List UnitAnswer → List ℕ → Standing → Bool
is_named units name x = bytes_eq (name_or_empty units x.entry.attributes) name

-- a variable of that name that is a child of the root of its unit
abbrev pub is_unit_variable : List UnitAnswer → List ℕ → Standing → Bool
is_unit_variable units name x = (x.entry.depth == 1 && x.entry.tag == tag_variable) && is_named units name x

abbrev pub unit_variable : List UnitAnswer → List ℕ → UnitTree → Option Standing
unit_variable units name u = find (is_unit_variable units name) (standing_in u u.entries)

-- ---- variables of units and namespaces

abbrev pub tag_namespace : ℕ
tag_namespace = 0x39

-- behind an entry, how deep those are that stand in no more than the unit and namespaces
abbrev pub reach : Entry → ℕ
reach e = if e.depth == 0 || e.tag == tag_namespace then suc e.depth else e.depth

-- the entries that stand in no more than the unit and namespaces, which are at most n deep up to the next of them
unfoldable pub global_entries : UnitTree → ℕ → List Entry → List Standing
global_entries u n [] = []
global_entries u n (e ∷ es) = if nat_le e.depth n then stands u e es ∷ global_entries u (reach e) es else global_entries u n es

abbrev pub is_global : List UnitAnswer → List ℕ → Standing → Bool
is_global units name x = x.entry.tag == tag_variable && is_named units name x

abbrev pub globals : UnitAnswer → List Standing
globals (Tree u) = global_entries u 0 u.entries
globals (Unreadable section at) = []

-- the first, of one unit before another
abbrev pub first_global : List UnitAnswer → List ℕ → List UnitAnswer → Option Standing
first_global units name us = find (is_global units name) (flat_map globals us)

-- ---- the choice

-- The unit's own variable comes before one in a namespace of it, and that before those of other units.
abbrev pub beyond_scopes : List UnitAnswer → List ℕ → UnitTree → Option Standing
beyond_scopes units name u = option_or (unit_variable units name u) (option_or (find (is_global units name) (global_entries u 0 u.entries)) (first_global units name units))

abbrev pub last_visible : SectionBytes5 → List UnitAnswer → ℕ → List ℕ → Option Standing
last_visible s units address name = find (is_named units name) (reverse (variables_at s units address))

-- the unit is that of the subprogram at the address; where there is none, no variable has a name
abbrev pub chosen_in : SectionBytes5 → List UnitAnswer → ℕ → List ℕ → Option Standing → Option Standing
chosen_in s units address name None = None
chosen_in s units address name (Some x) = option_or (last_visible s units address name) (beyond_scopes units name x.unit)

unfoldable pub chosen : SectionBytes5 → List UnitAnswer → ℕ → List ℕ → Option Standing
chosen s units address name = chosen_in s units address name (subprogram_at s units address)
