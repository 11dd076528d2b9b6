-- What the code shows of a text or a mark that was told.
use Rattle.std.specs.Prelude.{ℕ, Bool, true, false, List, Option, Some, None}
use Rattle.var_values.specs.declared.mark.Mark.{Mark}
use Rattle.var_values.specs.declared.mark.Mark.TheVariants.{OutsideArray}
use Rattle.var_eval.specs.declared.shown.Shown.{Shown}
use Rattle.var_eval.specs.declared.shown.Shown.TheVariants.{Marked, Text}

abbrev pub shown_by : Bool → Option Mark → List ℕ → Shown
shown_by past (Some m) text = Marked m
shown_by true None text = Marked OutsideArray
shown_by false None text = Text text
