-- Sizes of types (DWARF 4, 2.21, 5.1 and 5.4; wasm32 has pointers of 4 bytes).
use Rattle.std.specs.Prelude.{ℕ, suc, Bool, ℤ, List, drop, Option, Some, None}
use Rattle.std.specs.Option.{is_some}
use Rattle.dwarf_info.specs.declared.entry.UnitAnswer.{UnitAnswer}
use Rattle.dwarf_info.specs.Attributes.{valued, as_number}
use Rattle.dwarf_entries.specs.Names.{not_negative, at_byte_size}
use Rattle.dwarf_entries.specs.Standing.{Standing}
use Rattle.dwarf_entries.specs.Origins.{longest_chain}
use Rattle.dwarf_types.specs.declared.class.Class.{Class}
use Rattle.dwarf_types.specs.declared.class.Class.TheVariants as classes
use Rattle.dwarf_types.specs.declared.behind.Typed.{Typed}
use Rattle.dwarf_types.specs.declared.behind.Typed.TheVariants as typeds
use Rattle.dwarf_types.specs.Types.{class_at, type_at, type_of}
use Rattle.dwarf_types.specs.Counts.{counts}
use Rattle.dwarf_types.specs.Products.{array_size}

-- the size that an entry states, or else another one
abbrev pub own_size : Option ℤ → Option ℕ → Option ℕ
own_size (Some z) other = not_negative z
own_size None other = other

abbrev pub stated_size : Standing → Option ℕ → Option ℕ
stated_size s other = own_size (valued as_number at_byte_size s.entry.attributes) other

-- it states one, in a constant form
abbrev pub states_size : Standing → Bool
states_size s = is_some (valued as_number at_byte_size s.entry.attributes)

-- of an array without its first k subranges
abbrev pub rows_size : Standing → ℕ → Option ℕ → Option ℕ
rows_size s k size = array_size (drop k (counts s)) size

abbrev pub size_as : Class → Option ℕ → Standing → ℕ → Option ℕ
size_as classes.Passed further s k = further
size_as classes.Pointing further s k = Some 4
size_as classes.Members further s k = stated_size s None
size_as classes.Array further s k = rows_size s k further
size_as classes.Enumeration further s k = stated_size s further
size_as classes.Base further s k = stated_size s None
size_as classes.Another further s k = stated_size s None

-- at most n type entries follow each other
unfoldable pub size_within : List UnitAnswer → ℕ → Typed → Option ℕ
size_within units (suc n) (typeds.At s k) = size_as (class_at s) (size_within units n (type_of units s.entry.attributes)) s k
size_within units _ _ = None

abbrev pub type_size : List UnitAnswer → Typed → Option ℕ
type_size units t = size_within units longest_chain t

unfoldable pub size : List UnitAnswer → ℕ → Option ℕ
size units at = type_size units (type_at units at)
