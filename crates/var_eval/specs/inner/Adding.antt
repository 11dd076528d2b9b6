-- Names that are added to a table, each where it is not there yet.
use Rattle.std.specs.Prelude.{◌≡◌, ◌≤◌, ℕ, Bool, List, length, bytes_eq, find, reverse, flat_map, Option, Some, None, if◌then◌else◌}
use Rattle.std.specs.Option.{option_or}
use Rattle.dwarf_info.specs.declared.entry.Unit.{Unit as UnitTree}
use Rattle.dwarf_info.specs.declared.entry.UnitAnswer.{UnitAnswer}
use Rattle.dwarf_info.specs.Sections.{SectionBytes5}
use Rattle.dwarf_entries.specs.Standing.{Standing}
use Rattle.dwarf_scopes.specs.Scopes.{variables_of, scopes_from}
use Rattle.var_eval.specs.declared.known_names.NameTable.{NameTable}
use Rattle.var_eval.specs.Chosen.{is_named, beyond_scopes}
use Rattle.var_eval.specs.calls.Names.{look, offset_found}
use Rattle.var_eval.specs.inner.Named.{longest_name}

-- what an entry at an offset adds at a name
abbrev pub own_offset : ℕ → List ℕ → List ℕ → Option ℕ
own_offset at own name = if bytes_eq own name then Some at else None

-- the entry itself, where it passes
abbrev pub alone : (Standing → Bool) → Standing → Option Standing
alone test x = if test x then Some x else None

-- behind what is there of each name stands what was found
abbrev pub Adds : NameTable → NameTable → (List ℕ → Option Standing) → Type 0
Adds before after found = (q : List ℕ) → length q ≤ longest_name → look after q ≡ option_or (look before q) (offset_found (found q))

-- so far: with what is found among the rest it is the whole
abbrev pub Still : NameTable → NameTable → (List ℕ → Option Standing) → (List ℕ → Option Standing) → Type 0
Still before now whole rest =
    (q : List ℕ) → length q ≤ longest_name → option_or (look now q) (offset_found (rest q)) ≡ option_or (look before q) (offset_found (whole q))

-- what a name means in a unit where this is visible
abbrev pub meant_in : SectionBytes5 → List UnitAnswer → ℕ → Option Standing → UnitTree → List ℕ → Option Standing
meant_in s units address x u name = option_or (find (is_named units name) (reverse (flat_map variables_of (scopes_from s address x)))) (beyond_scopes units name u)
