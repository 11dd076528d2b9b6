-- Types, and what stands behind those that are other names of types (DWARF 4, 5.2 and 5.3).
use Rattle.std.specs.Prelude.{ℕ, zero, suc, List, Option, Some, None}
use Rattle.dwarf_info.specs.declared.entry.Attribute.{Attribute}
use Rattle.dwarf_info.specs.declared.entry.UnitAnswer.{UnitAnswer}
use Rattle.dwarf_entries.specs.Standing.{Standing, standing_at}
use Rattle.dwarf_entries.specs.Origins.{type_entry}
use Rattle.dwarf_types.specs.declared.class.Class.{Class}
use Rattle.dwarf_types.specs.declared.class.Class.TheVariants as classes
use Rattle.dwarf_types.specs.declared.behind.Typed.{Typed}
use Rattle.dwarf_types.specs.declared.behind.Typed.TheVariants as typeds
use Rattle.dwarf_types.specs.declared.behind.Behind.{Behind}
use Rattle.dwarf_types.specs.declared.behind.Behind.TheVariants as behinds
use Rattle.dwarf_types.specs.Classes.{class_of}

abbrev pub class_at : Standing → Class
class_at s = class_of s.entry.tag

abbrev pub typed : Option Standing → Typed
typed None = typeds.Nothing
typed (Some s) = typeds.At s 0

-- the type at an offset of the section
abbrev pub type_at : List UnitAnswer → ℕ → Typed
type_at units at = typed (standing_at units at)

-- the type that an entry with these attributes has
unfoldable pub type_of : List UnitAnswer → List Attribute → Typed
type_of units es = typed (type_entry units es)

abbrev pub behind_as : Class → Behind → Standing → ℕ → Behind
behind_as classes.Passed further s k = further
behind_as c further s k = behinds.Stands s k

-- The types passed through and the one behind them are at most n entries.
unfoldable pub behind : List UnitAnswer → ℕ → Typed → Behind
behind units zero (typeds.At s k) = behinds.TooDeep
behind units (suc n) (typeds.At s k) = behind_as (class_at s) (behind units n (type_of units s.entry.attributes)) s k
behind units _ typeds.Nothing = behinds.Nothing
