-- What is shown of a variable.
use Rattle.std.specs.Prelude.{ℕ, Option, Some, None, Ok, Err}
use Rattle.dwarf_entries.specs.Origins.{longest_chain}
use Rattle.dwarf_entries.specs.Standing.{Standing, standing_at}
use Rattle.dwarf_types.specs.Types.{type_of}
use Rattle.var_values.specs.Places.{start_of}
use Rattle.var_values.specs.Values.{Text, value_text}
use Rattle.var_eval.specs.declared.shown.Shown.{Shown}
use Rattle.var_eval.specs.declared.shown.Shown.TheVariants as shown
use Rattle.var_eval.specs.Frames.{Frame}
use Rattle.var_eval.specs.Locations.{variable_source}

-- the text of a whole variable, or its mark
unfoldable pub variable_text : Frame → Standing → Text
variable_text f x = value_text f.units f.view.memory longest_chain (type_of f.units x.entry.attributes) (start_of (variable_source f x))

abbrev pub shown_as : Text → Shown
shown_as (Ok text) = shown.Text text
shown_as (Err m) = shown.Marked m

abbrev pub shown_of : Frame → Option Standing → Shown
shown_of f None = shown.NoVariable
shown_of f (Some x) = shown_as (variable_text f x)

-- of the variable whose entry stands at an offset of the section
unfoldable pub entry_shown : Frame → ℕ → Shown
entry_shown f at = shown_of f (standing_at f.units at)
