-- What is shown of a text that was appended, or of its mark.
use Rattle.std.proofs.Common.{◌≡◌, ℕ, List, [], Option, Some, None, Ok, Err, refl, sym, ap, ◌∙◌}
use Rattle.std.specs.Prelude.{option_map}
use Rattle.dwarf_entries.specs.Standing.{Standing}
use Rattle.var_path.specs.declared.path.Step.{Step}
use Rattle.var_values.specs.declared.mark.Mark.{Mark}
use Rattle.var_values.specs.Values.{Text}
use Rattle.var_values.specs.calls.Told.{Tells}
use Rattle.var_eval.specs.declared.shown.Shown.TheVariants as shown
use Rattle.var_eval.specs.Frames.{Frame}
use Rattle.var_eval.specs.Locations.{variable_source}
use Rattle.var_eval.specs.Shown.{shown_as}
use Rattle.var_eval.specs.PathShown.{steps_text, shown_behind}
use Rattle.var_eval.specs.calls.Names.{bare, AreSame}

pub marked_shown : (v : Text) (m : Mark) (old new : List ℕ) → Tells v (Some m) old new → shown.Marked m ≡ shown_as v
marked_shown (Ok t) m old new h = absurd (let no : Some m ≡ None = h.mark in cc)
marked_shown (Err k) m old new h =
    let same : Some m ≡ Some k = h.mark in
    let is : m ≡ k = cc in
    ap (λ (x : Mark). shown.Marked x) is

pub text_shown : (v : Text) (new : List ℕ) → Tells v None [] new → shown.Text new ≡ shown_as v
text_shown (Ok t) new h = ap (λ (x : List ℕ). shown.Text x) h.text
text_shown (Err k) new h = absurd (let no : None ≡ Some k = h.mark in cc)

-- ---- of one entry, wherever it was found

bare_text : (f : Frame) (steps : List Step) (o : Option Standing) → shown_behind f steps o ≡ shown_behind f steps (option_map bare o)
unfolding steps_text variable_source
bare_text f steps None = refl
bare_text f steps (Some x) = refl

pub shown_same : (f : Frame) (steps : List Step) (o p : Option Standing) → AreSame o p → shown_behind f steps o ≡ shown_behind f steps p
shown_same f steps o p same = bare_text f steps o ∙ ap (λ (r : Option Standing). shown_behind f steps r) same ∙ sym (bare_text f steps p)
