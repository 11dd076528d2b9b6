-- Where a variable comes from by its expression, of the parts of a frame.
use Rattle.std.specs.Prelude.{ℕ, List, Option, if◌then◌else◌}
use Rattle.dwarf_expr.specs.View.{View}
use Rattle.dwarf_expr.specs.declared.answer.Base.{Base}
use Rattle.var_values.specs.declared.mark.Mark.TheVariants.{OptimisedOut}
use Rattle.var_values.specs.declared.source.Source.{Source}
use Rattle.var_values.specs.declared.source.Source.TheVariants.{Lost}
use Rattle.var_eval.specs.Locations.{is_gone, source_of, place_meant}

abbrev pub source_from : Option ℕ → View → Base → List ℕ → Source
source_from left view base e = if is_gone left e then Lost OptimisedOut else source_of (place_meant e view base)
