-- Which variant is looked for: that of a number, or the default one.
use Rattle.std.specs.Prelude.{Bool, Option, Some, None}
use Rattle.dwarf_info.specs.declared.entry.Entry.{Entry}
use Rattle.var_values.specs.declared.discriminant.Discriminant.{Discriminant}
use Rattle.var_values.specs.Variants.{has_number, is_default}

abbrev pub passes : Option Discriminant → Entry → Bool
passes None v = is_default v
passes (Some d) v = has_number d v
