-- The text of counted steps: so many on each source line.
use Rattle.std.specs.Prelude.{◌≡◌, ◌<◌, ℕ, List, ◌++◌, map, length, count_by, Option, Some, is_none, unwrap_or, codes}
use Rattle.std.specs.List.{flat_map}
use Rattle.std.specs.List.Sorted.{IsStrictlySortedBy}
use Rattle.std.specs.Map.{lookup}
use Rattle.std.specs.Fmt.{decimal}
use Rattle.cover_command.specs.SourceLines.{SourceLine, line_cmp, is_line, falls_on}

-- the number of a line that is told, and 0 of every other one
abbrev pub steps_on : List (SourceLine × ℕ) → SourceLine → ℕ
steps_on counts line = unwrap_or (lookup (is_line line) counts) 0

-- Exactly the lines on which a step fell, in their order, each once and with the number of its steps.
pub record AreCounts (counts : List (SourceLine × ℕ)) (fell : List (Option SourceLine)) : Type 0 where
  pub ascend : IsStrictlySortedBy line_cmp (map (λ c. c.0) counts)
  pub have_steps : (line : SourceLine) (n : ℕ) → lookup (is_line line) counts ≡ Some n → 0 < n
  pub steps : (line : SourceLine) → steps_on counts line ≡ count_by (falls_on line) fell

unfoldable pub count_text : SourceLine × ℕ → List ℕ
count_text c = c.0.file ++ codes ":" ++ decimal c.0.line ++ codes " " ++ decimal c.1 ++ codes "\n"

-- the steps that fell on no line, and all steps
unfoldable pub sums_text : ℕ → ℕ → List ℕ
sums_text unplaced steps = codes "unplaced " ++ decimal unplaced ++ codes "\nsteps " ++ decimal steps ++ codes "\n"

-- the ending, the lines, and the sums of steps that fell so
pub record CoverText (ending : List ℕ) (fell : List (Option SourceLine)) (text : List ℕ) : Type 0 where
  pub counts : List (SourceLine × ℕ)
  pub are : AreCounts counts fell
  pub is : text ≡ ending ++ flat_map count_text counts ++ sums_text (count_by is_none fell) (length fell)
