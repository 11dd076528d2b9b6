-- A text that is appended, or the mark in its place that is told.
use Rattle.std.specs.Prelude.{◌≡◌, ℕ, List, [], ◌++◌, Option, Some, None, Ok, Err}
use Rattle.var_values.specs.declared.mark.Mark.{Mark}
use Rattle.var_values.specs.Values.{Text}

abbrev pub mark_of : Text → Option Mark
mark_of (Ok text) = None
mark_of (Err m) = Some m

-- nothing is written where there is a mark
abbrev pub written : Text → List ℕ
written (Ok text) = text
written (Err m) = []

pub record Tells (value : Text) (told : Option Mark) (old new : List ℕ) : Type 0 where
  pub mark : told ≡ mark_of value
  pub text : new ≡ old ++ written value
