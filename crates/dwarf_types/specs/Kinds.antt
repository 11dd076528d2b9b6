-- Kinds of types (DWARF 4, chapter 5).
use Rattle.std.specs.Prelude.{ℕ, ◌==◌, ◌||◌, List, Option, Some, None, option_map, if◌then◌else◌}
use Rattle.dwarf_info.specs.declared.entry.UnitAnswer.{UnitAnswer}
use Rattle.dwarf_info.specs.Attributes.{valued}
use Rattle.dwarf_entries.specs.Names.{as_natural, at_encoding}
use Rattle.dwarf_entries.specs.Standing.{Standing}
use Rattle.dwarf_entries.specs.Origins.{type_entry, longest_chain}
use Rattle.dwarf_types.specs.declared.class.Class.{Class}
use Rattle.dwarf_types.specs.declared.class.Class.TheVariants as classes
use Rattle.dwarf_types.specs.declared.behind.Behind.{Behind}
use Rattle.dwarf_types.specs.declared.behind.Behind.TheVariants as behinds
use Rattle.dwarf_types.specs.declared.kind.Kind.{Kind}
use Rattle.dwarf_types.specs.declared.kind.Kind.TheVariants as kinds
use Rattle.dwarf_types.specs.Types.{class_at, type_at, behind}

abbrev pub encoding : Standing → Option ℕ
encoding s = valued as_natural at_encoding s.entry.attributes

-- the encodings that are read (DWARF 4, 7.8): address, boolean, float, signed, signed_char, unsigned, unsigned_char, UTF
abbrev pub base_of : ℕ → Kind
base_of e = if e == 1 || e == 2 || e == 4 || e == 5 || e == 6 || e == 7 || e == 8 || e == 16 then kinds.Base e else kinds.Unsupported

abbrev pub base_kind : Option ℕ → Kind
base_kind None = kinds.Unsupported
base_kind (Some e) = base_of e

-- the entry that its type refers to
abbrev pub place_in : List UnitAnswer → Standing → Option ℕ
place_in units s = option_map (λ t. t.entry.at) (type_entry units s.entry.attributes)

-- by its class
abbrev pub kind_as : Class → Standing → Option ℕ → Kind
kind_as classes.Passed s to = kinds.Unsupported
kind_as classes.Pointing s to = kinds.Pointer to
kind_as classes.Members s to = kinds.Members (s.entry.at)
kind_as classes.Array s to = kinds.Array (s.entry.at) to
kind_as classes.Enumeration s to = kinds.Enumeration (s.entry.at)
kind_as classes.Base s to = base_kind (encoding s)
kind_as classes.Another s to = kinds.Unsupported

abbrev pub kind_standing : List UnitAnswer → Standing → Kind
kind_standing units s = kind_as (class_at s) s (place_in units s)

abbrev pub kind_behind : List UnitAnswer → Behind → Kind
kind_behind units behinds.Nothing = kinds.Unsupported
kind_behind units behinds.TooDeep = kinds.TooDeep
kind_behind units (behinds.Stands s k) = kind_standing units s

unfoldable pub kind : List UnitAnswer → ℕ → Kind
kind units at = kind_behind units (behind units longest_chain (type_at units at))
