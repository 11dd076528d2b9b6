-- What is told of a value, and what is shown of it.
use Rattle.std.proofs.Common.{◌≡◌, ℕ, Bool, true, false, List, [], ◌++◌, Option, Some, None, Ok, Err, refl, ap, ◌∙◌}
use Rattle.dwarf_info.specs.declared.entry.UnitAnswer.{UnitAnswer}
use Rattle.dwarf_entries.specs.Origins.{longest_chain}
use Rattle.dwarf_types.specs.declared.behind.Typed.{Typed}
use Rattle.var_values.specs.declared.mark.Mark.{Mark}
use Rattle.var_values.specs.Bytes.{Recorded}
use Rattle.var_values.specs.Places.{Place}
use Rattle.var_values.specs.Values.{Text, value_text}
use Rattle.var_values.specs.calls.Told.{Tells}
use Rattle.var_eval.specs.declared.shown.Shown.{Shown}
use Rattle.var_eval.specs.Shown.{shown_as}
use Rattle.var_eval.specs.PathShown.{unless_past, part_text}
use Rattle.var_eval.specs.Steps.{Part}
use Rattle.var_eval.specs.inner.PathTold.{shown_by}

-- a value that was told into an empty text
pub told_is_shown : (past : Bool) (value : Text) (mark : Option Mark) (old new : List ℕ) → Tells value mark old new → old ≡ [] → shown_by past mark new ≡ shown_as (unless_past past value)
told_is_shown past (Err m) mark old new told none = ap (λ (o : Option Mark). shown_by past o new) told.mark ∙ marked past m new
  where
    marked : (past : Bool) (m : Mark) (new : List ℕ) → shown_by past (Some m) new ≡ shown_as (unless_past past (Err m))
    marked true m new = refl
    marked false m new = refl
told_is_shown past (Ok text) mark old new told none =
    ap (λ (o : Option Mark). shown_by past o new) told.mark ∙ ap (shown_by past None) (told.text ∙ ap (λ (front : List ℕ). front ++ text) none) ∙ written past text
  where
    written : (past : Bool) (text : List ℕ) → shown_by past None text ≡ shown_as (unless_past past (Ok text))
    written true text = refl
    written false text = refl

-- a part whose value was told into an empty text
pub part_is_shown : (units : List UnitAnswer) (memory : Recorded) (part : Part) (past : Bool) (t : Typed) (place : Place) (mark : Option Mark) (old new : List ℕ) (shown : Shown) → shown ≡ shown_by past mark new
    → Tells (value_text units memory longest_chain t place) mark old new → old ≡ [] → past ≡ part.past → t ≡ part.type → place ≡ part.place → shown ≡ shown_as (part_text units memory part)
part_is_shown units memory part past t place mark old new shown is told none behind type there =
    is ∙ told_is_shown past (value_text units memory longest_chain t place) mark old new told none
    ∙ ap (λ (b : Bool). shown_as (unless_past b (value_text units memory longest_chain t place))) behind
    ∙ ap (λ (t : Typed). shown_as (unless_past part.past (value_text units memory longest_chain t place))) type
    ∙ ap (λ (p : Place). shown_as (unless_past part.past (value_text units memory longest_chain part.type p))) there
