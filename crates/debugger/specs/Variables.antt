-- The texts of the variables of a frame, and of what stands at a path.
use Rattle.std.specs.Prelude.{ℕ, zero, suc, Option, Some, None, List, [], ◌∷◌, ◌++◌, flat_map, codes}
use Rattle.pm_text.specs.Names.{plain}
use Rattle.dump_format.specs.declared.dump.Frame.{Frame}
use Rattle.dwarf_entries.specs.Standing.{Standing}
use Rattle.dwarf_entries.specs.Origins.{name_or_empty}
use Rattle.dwarf_scopes.specs.Scopes.{variables_at}
use Rattle.dwarf_expr.specs.View.{View}
use Rattle.var_path.specs.declared.path.Path.{Path}
use Rattle.var_values.specs.Marks.{mark_text}
use Rattle.var_values.specs.Values.{in_place}
use Rattle.var_eval.specs.declared.shown.Shown.{Shown}
use Rattle.var_eval.specs.declared.shown.Shown.TheVariants as shown
use Rattle.var_eval.specs.Frames.{Frame as Looks, frame_of}
use Rattle.var_eval.specs.Shown.{variable_text}
use Rattle.var_eval.specs.PathShown.{path_shown}
use Rattle.debug_frames.specs.Frames.{address_of}
use Rattle.debugger.specs.Subject.{Subject}

-- what is recorded of a frame
abbrev pub view_of : Subject → Frame → View
view_of s f = record { locals = f.locals; operands = f.operands; globals = s.globals; memory = s.memory }

-- How many operands are left under the call where the frame of an index stands, which shows so many. The innermost frame stands at none.
abbrev pub left_in : (i n : ℕ) → Option ℕ
left_in zero n = None
left_in (suc i) n = Some n

-- a frame as its variables see it
abbrev pub looks_of : Subject → Option ℕ → Frame → Looks
looks_of s left f = frame_of s.information.sections s.information.units (address_of s.module_ f) (view_of s f) left

-- ---- all variables

unfoldable pub variable_line : Looks → Standing → List ℕ
variable_line x v = plain (name_or_empty x.units v.entry.attributes) ++ codes " = " ++ in_place (variable_text x v) ++ codes "\n"

abbrev pub lines_or_none : Looks → List Standing → List ℕ
lines_or_none x [] = codes "no variables\n"
lines_or_none x (v ∷ vs) = flat_map (variable_line x) (v ∷ vs)

abbrev pub all_variables : Looks → List ℕ
all_variables x = lines_or_none x (variables_at x.sections x.units x.address)

-- the variables that are visible in a frame
unfoldable pub variables_text : Subject → Option ℕ → Frame → List ℕ
variables_text s left f = all_variables (looks_of s left f)

-- ---- one path

unfoldable pub no_variable : List ℕ → List ℕ
no_variable name = codes "no variable " ++ plain name ++ codes "\n"

unfoldable pub value_line : List ℕ → List ℕ → List ℕ
value_line word text = word ++ codes " = " ++ text ++ codes "\n"

-- of a path to a variable of this name, spelled by this word
abbrev pub shown_line : List ℕ → List ℕ → Shown → List ℕ
shown_line name word shown.NoVariable = no_variable name
shown_line name word (shown.Marked m) = value_line word (mark_text m)
shown_line name word (shown.Text text) = value_line word text

-- what stands at a path in a frame
unfoldable pub path_text : Subject → Option ℕ → List ℕ → Path → Frame → List ℕ
path_text s left word path f = shown_line path.name word (path_shown (looks_of s left f) path)
