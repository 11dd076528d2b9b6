-- The first of each number among entries, where one more is added behind the others.
use Rattle.std.specs.Prelude.{◌==◌, ℕ, List, slice_get, Option, Some, None, option_map, if◌then◌else◌}
use Rattle.dwarf_info.specs.declared.entry.Entry.{Entry}
use Rattle.dwarf_info.specs.Attributes.{valued, as_number}
use Rattle.dwarf_entries.specs.Names.{at_const_value}
use Rattle.dwarf_entries.specs.Tags.{tag_enumerator}
use Rattle.dwarf_entries.specs.Standing.{is_child}
use Rattle.dwarf_types.specs.calls.Numbers.{number_key}

-- the number of an enumerator that is a child of an entry of that depth
abbrev pub key_in : ℕ → ℕ → Entry → Option ℕ
key_in depth size e = if is_child depth tag_enumerator e then option_map (number_key size) (valued as_number at_const_value e.attributes) else None

-- what an entry at a position, with that number, adds at the number n
abbrev pub own_at : ℕ → Option ℕ → ℕ → Option ℕ
own_at position None n = None
own_at position (Some key) n = if key == n then Some position else None

-- the entry at a position that is known, or else one of those that are left
abbrev pub known_or : List Entry → Option ℕ → Option Entry → Option Entry
known_or es (Some position) left = slice_get es position
known_or es None left = left
