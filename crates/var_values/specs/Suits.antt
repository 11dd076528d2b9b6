-- Which types have values, and where one may stand.
use Rattle.std.specs.Prelude.{ℕ, ◌*◌, ◌&&◌, Bool, true, false, nat_le, Option, Some, None}
use Rattle.dwarf_expr.specs.declared.answer.PiecePlace.{PiecePlace}
use Rattle.dwarf_expr.specs.declared.answer.PiecePlace.TheVariants.{Value, Address, Nothing}
use Rattle.dwarf_entries.specs.Standing.{Standing}
use Rattle.dwarf_types.specs.declared.class.Class.{Class}
use Rattle.dwarf_types.specs.declared.class.Class.TheVariants as classes
use Rattle.dwarf_types.specs.Types.{class_at}
use Rattle.dwarf_types.specs.Kinds.{encoding}
use Rattle.var_values.specs.declared.source.Source.{Source}
use Rattle.var_values.specs.declared.source.Source.TheVariants.{Lost, Single, Pieces}
use Rattle.var_values.specs.declared.bits.Bits.{Bits}
use Rattle.var_values.specs.Places.{Place}
use Rattle.var_values.specs.Scalars.{is_size, size_suits}

abbrev pub class_suits : Class → Standing → ℕ → Bool
class_suits classes.Passed s size = false
class_suits classes.Pointing s size = true
class_suits classes.Members s size = true
class_suits classes.Array s size = true
class_suits classes.Enumeration s size = is_size size
class_suits classes.Base s size = size_suits (encoding s) size
class_suits classes.Another s size = false

-- a bit-field is of a base type or an enumeration, and not wider than its type
abbrev pub bits_suit : Class → ℕ → Option Bits → Bool
bits_suit c size None = true
bits_suit classes.Enumeration size (Some b) = nat_le b.count (8 * size)
bits_suit classes.Base size (Some b) = nat_le b.count (8 * size)
bits_suit c size (Some b) = false

-- a value of 64 bits holds at most eight bytes
abbrev pub place_suits : PiecePlace → ℕ → Bool
place_suits (Value w) size = nat_le size 8
place_suits (Address a) size = true
place_suits Nothing size = true

abbrev pub source_suits : Source → ℕ → Bool
source_suits (Lost m) size = true
source_suits (Single place) size = place_suits place size
source_suits (Pieces ps) size = true

abbrev pub suits : Standing → Place → ℕ → Bool
suits s p size = class_suits (class_at s) s size && bits_suit (class_at s) size p.bits && source_suits p.source size
