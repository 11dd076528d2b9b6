-- Where values stand.
use Rattle.std.specs.Prelude.{◌^◌, ℤ, pos, ◌+ℤ◌, List, Option, Some, None, unsigned_abs}
use Rattle.std.specs.Int.{int_rem_euclid}
use Rattle.dwarf_info.specs.declared.entry.Attribute.{Attribute}
use Rattle.dwarf_info.specs.Attributes.{valued, as_number}
use Rattle.dwarf_expr.specs.declared.answer.PiecePlace.TheVariants.{Value}
use Rattle.dwarf_entries.specs.Names.{at_const_value}
use Rattle.var_values.specs.declared.mark.Mark.TheVariants.{OptimisedOut}
use Rattle.var_values.specs.declared.source.Source.{Source}
use Rattle.var_values.specs.declared.source.Source.TheVariants.{Lost, Single}
use Rattle.var_values.specs.declared.bits.Bits.{Bits}

-- so many bytes behind the start of a source, and in these bits from there on; in all bits of the value where there are none
pub record Place : Type 0 where
  pub source : Source
  pub offset : ℤ
  pub bits : Option Bits

abbrev pub start_of : Source → Place
start_of source = record { source = source; offset = pos 0; bits = None }

-- what is no more than its constant, modulo 2 ^ 64
abbrev pub constant_source : List Attribute → Source
constant_source es = elim (valued as_number at_const_value es) [
  | None ↦ Lost OptimisedOut
  | Some z ↦ Single (Value (unsigned_abs (int_rem_euclid z (pos (2 ^ 64)))))
]

abbrev pub further : Place → ℤ → Place
further p z = record { source = p.source; offset = p.offset +ℤ z; bits = None }

abbrev pub in_bits : Place → Bits → Place
in_bits p b = record { source = p.source; offset = p.offset; bits = Some b }
