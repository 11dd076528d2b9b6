-- What is shown of a part of a variable.
use Rattle.std.specs.Prelude.{Bool, true, false, List, Option, Some, None, Ok, Err}
use Rattle.dwarf_info.specs.declared.entry.UnitAnswer.{UnitAnswer}
use Rattle.dwarf_entries.specs.Standing.{Standing}
use Rattle.dwarf_entries.specs.Origins.{longest_chain}
use Rattle.dwarf_types.specs.Types.{type_of}
use Rattle.var_path.specs.declared.path.Step.{Step}
use Rattle.var_path.specs.declared.path.Path.{Path}
use Rattle.var_values.specs.declared.mark.Mark.TheVariants.{OutsideArray}
use Rattle.var_values.specs.Bytes.{Recorded}
use Rattle.var_values.specs.Values.{Text, value_text}
use Rattle.var_eval.specs.declared.shown.Shown.{Shown}
use Rattle.var_eval.specs.declared.shown.Shown.TheVariants.{NoVariable}
use Rattle.var_eval.specs.Frames.{Frame}
use Rattle.var_eval.specs.Locations.{variable_source}
use Rattle.var_eval.specs.Shown.{shown_as}
use Rattle.var_eval.specs.Chosen.{chosen}
use Rattle.var_eval.specs.Steps.{Part, Reached, whole, walk}

-- Behind the end of an array there is a value only to tell its mark, which counts before that of the array.
abbrev pub unless_past : Bool → Text → Text
unless_past false text = text
unless_past true (Ok text) = Err OutsideArray
unless_past true (Err m) = Err m

abbrev pub part_text : List UnitAnswer → Recorded → Part → Text
part_text units memory part = unless_past part.past (value_text units memory longest_chain part.type part.place)

abbrev pub reached_text : List UnitAnswer → Recorded → Reached → Text
reached_text units memory (Ok part) = part_text units memory part
reached_text units memory (Err m) = Err m

-- the text of what is behind these steps from a variable, or the mark in its place
unfoldable pub steps_text : Frame → List Step → Standing → Text
steps_text f steps x =
    reached_text f.units f.view.memory (walk f.units f.view.memory steps (whole (type_of f.units x.entry.attributes) (variable_source f x)))

abbrev pub shown_behind : Frame → List Step → Option Standing → Shown
shown_behind f steps None = NoVariable
shown_behind f steps (Some x) = shown_as (steps_text f steps x)

-- of the variable that a path names, or of the part of it
unfoldable pub path_shown : Frame → Path → Shown
path_shown f p = shown_behind f p.steps (chosen f.sections f.units f.address p.name)
